-- What label forms are judged by, and what has to fit for them to denote labels.
use Rattle.std.specs.Prelude.{◌≡◌, List, [], codes, IfSome}
use Rattle.cp_base.specs.declared.place.Place.{Place}
use Rattle.cp_sexpr.specs.Syntax.{Form}
use Rattle.cp_language.specs.Problems.{Problem}
use Rattle.cp_load.specs.UncheckedProblems.{unchecked_view}
use Rattle.cp_report.specs.Misfits.{each_misfits}
use Rattle.cp_report.specs.Heads.{entries_under}
use Rattle.cp_report.specs.Spelled.{pattern_misfits}
use Rattle.cp_report.specs.Skeletons.{declarations_of_label, problem_variables, strands_misfits, around_strands_misfits}
use Rattle.cp_readback.specs.Families.{IsFamily}
use Rattle.cp_readback.specs.declared.labels.Setting.{Setting}

-- The names are those of the problem's variables in a report, and the family keeps what its label forms state.
pub record IsSetting (s : Setting) : Type 0 where
  pub names : s.names.now ≡ problem_variables (unchecked_view s.problem.now)
  pub family : IfSome s.tree (λ f. IsFamily f.now)

-- What has to fit for the items to denote a label.
pub record HasFitting (p : Problem) (items : List Form) : Type 0 where
  pub strands : strands_misfits p items ≡ []
  pub others : (at : Place) × (around_strands_misfits p at items ≡ [])
  pub patterns : each_misfits (pattern_misfits (declarations_of_label items)) (entries_under (codes "escape") items) ≡ []

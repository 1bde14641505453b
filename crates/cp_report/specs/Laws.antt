-- What is printed for an input and trees, and which trees can be stated: the premises of the laws of reading back.
use Rattle.std.specs.Prelude.{◌≡◌, List, []}
use Rattle.cp_model.specs.Senders.{ArePaired}
use Rattle.cp_model.specs.Tree.{Tree}
use Rattle.cp_sexpr.specs.Syntax.{Forms, forms_of}
use Rattle.cp_sexpr.specs.ReadBack.{all_unplaced}
use Rattle.cp_language.specs.Input.{faults_of, input_of}
use Rattle.cp_language.specs.Report.{report_forms}
use Rattle.cp_report.specs.FittingTrees.{TreeFits, problems_in}

-- The forms are those that are printed for the forms of an input and for trees, wherever they stand.
abbrev pub ArePrinted : Forms → Forms → List Tree → Type 0
ArePrinted fs input trees = all_unplaced fs ≡ all_unplaced (forms_of (report_forms (input_of input) trees))

-- Trees for the problems of well-formed input, that can be stated.
pub record CanBeStated (input : Forms) (trees : List Tree) : Type 0 where
  pub well_formed : faults_of input ≡ []
  pub fit : ArePaired TreeFits (problems_in (input_of input)) trees

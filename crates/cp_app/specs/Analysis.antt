-- How a problem is analysed.
use Rattle.std.specs.Prelude.{◌<◌, ◌^◌, List, length}
use Rattle.cp_lists.specs.Lists.{IsIn}
use Rattle.cp_model.specs.PointOfView.{IsPointOfView}
use Rattle.cp_model.specs.Tree.{Label, Tree, IsTrueOf}
use Rattle.cp_model.specs.declared.tree.Limits.{Limits}
use Rattle.cp_language.specs.Problems.{Problem}
use Rattle.cp_language.specs.Report.{HasItsVariables}
use Rattle.cp_report.specs.FittingTrees.{TreeFits}
use Rattle.cp_roots.specs.Over.{IsOver}
use Rattle.cp_tree.specs.Searched.{IsTreeOf}

-- Each of the labels has fewer than 2^64 variables.
abbrev pub HaveFewVariables : List Label → Type 0
HaveFewVariables labels = (l : Label) → IsIn l labels → length l.skeleton.variables < 2 ^ 64

-- A problem is a point-of-view skeleton over its protocol.
pub record IsAnalysable (p : Problem) : Type 0 where
  pub is_over : IsOver p.protocol p.skeleton
  pub own : IsPointOfView p.variables p.skeleton

-- The tree is true of the problem, its labels have their variables, it is that of the search, and it can be stated in a report.
pub record IsAnalysisOf (limits : Limits) (p : Problem) (t : Tree) : Type 0 where
  pub truth : IsTrueOf p.protocol p.skeleton limits t
  pub variables : (l : Label) → IsIn l t.labels → HasItsVariables p l
  pub searched : IsTreeOf p.protocol p.skeleton p.variables limits t
  pub fits : TreeFits p t

-- The variables of the roots of a problem are declared.
use Rattle.std.proofs.Common.{◌≡◌, ℕ, List, Some}
use Rattle.cp_lists.proofs.Items.{at_place}
use Rattle.cp_lists.specs.Lists.{item_at}
use Rattle.cp_model.specs.declared.variable.Declaration.{Declaration}
use Rattle.cp_model.specs.Skeleton.{Skeleton}
use Rattle.cp_roots.specs.Roots.{Root, AreRoots}
use Rattle.cp_model.specs.PointOfView.{HasDeclaredVariables}
use Rattle.cp_normal.proofs.VariablesOfForms.{forms_declared}
use Rattle.cp_collapse.proofs.VariablesOfCollapses.{collapses_declared}
use Rattle.cp_roots.proofs.EachRoot.{each_root}
use Rattle.cp_roots.proofs.InReportOrder.{declared_listed}

pub roots_declared : (variables : List Declaration) (k : Skeleton) (roots : List Root) → HasDeclaredVariables variables k → AreRoots k roots → (i : ℕ) (root : Root) → item_at roots i ≡ Some root → HasDeclaredVariables variables root.skeleton
roots_declared variables k roots h are i root at =
    each_root (HasDeclaredVariables variables) (record {
      listed = λ l declared. declared_listed l variables declared;
      forms = λ l rs has declared. forms_declared variables has declared;
      collapses = λ l ls all declared. collapses_declared variables l declared all.partitions ls all.each;
    }) k roots h are root (at_place roots i root at)

-- The variables of the roots of a problem that maps to itself are declared.
use Rattle.std.proofs.Common.{◌≡◌, ℕ, List, Some}
use Rattle.cp_lists.specs.Lists.{item_at}
use Rattle.cp_model.specs.declared.variable.Declaration.{Declaration}
use Rattle.cp_model.specs.Skeleton.{Skeleton}
use Rattle.cp_model.specs.PointOfView.{IsPointOfView, HasDeclaredVariables}
use Rattle.cp_roots.specs.declared.root.Root.{Root}
use Rattle.cp_roots.specs.Roots.{AreRoots}
use Rattle.cp_roots.proofs.VariablesOfRoots.{roots_declared}
use Rattle.cp_tree.proofs.OwnVariables.{own_declared}

pub own_roots_declared : (variables : List Declaration) (k : Skeleton) (roots : List Root) → IsPointOfView variables k → AreRoots k roots → (i : ℕ) (root : Root) → item_at roots i ≡ Some root → HasDeclaredVariables variables root.skeleton
own_roots_declared variables k roots own are = roots_declared variables k roots (own_declared variables k own) are

-- The roots of a problem: its normal forms, and those of its collapses.
use Rattle.std.specs.Prelude.{◌≡◌, ℕ, List, [], ◌∷◌, ◌++◌, map, true, false}
use Rattle.cp_model.specs.Skeleton.{Skeleton}
use Rattle.cp_model.specs.Given.{listed}
use Rattle.cp_model.specs.declared.tree.Operation.{Operation}
use Rattle.cp_model.specs.declared.tree.Operation.TheVariants.{Problem as by_problem, Collapsed as by_collapse}
use Rattle.cp_normal.specs.Exact.{HasForms}
use Rattle.cp_collapse.specs.Collapses.{AreCollapses}
-- A root: how it is made, its skeleton, and whether it is dead.
pub use Rattle.cp_roots.specs.declared.root.Root.{Root}

-- The skeleton with its assumptions in the order of a report, each once.
abbrev pub in_report_order : Skeleton → Skeleton
in_report_order k = record k { assumptions = listed k }

-- The root that is made so, and lives; its assumptions stand in the order of a report.
abbrev pub living : Operation → Skeleton → Root
living by k = record { operation = by; skeleton = in_report_order k; dead = false }

-- The first roots: the normal forms of the problem; where it has none, the problem itself, dead.
abbrev pub first_roots : Skeleton → List Skeleton → List Root
first_roots k [] = record { operation = by_problem; skeleton = k; dead = true } ∷ []
first_roots k (r ∷ rs) = map (living by_problem) (r ∷ rs)

-- The roots are the normal forms of the collapses, which are by these partitions, one after the other.
pub data AreFormsOfCollapses : List (List ℕ) → List Skeleton → List Root → Type 0 where
  no_collapses : AreFormsOfCollapses [] [] []
  forms_of_one : {p : List ℕ} {ps : List (List ℕ)} {l : Skeleton} {ls rs : List Skeleton} {roots : List Root} → HasForms l rs → AreFormsOfCollapses ps ls roots → AreFormsOfCollapses (p ∷ ps) (l ∷ ls) (map (living (by_collapse p)) rs ++ roots)

-- The roots of a problem: first those of the problem itself, and then those of its collapses in their order.
pub record AreRoots (k : Skeleton) (roots : List Root) : Type 0 where
  pub forms : List Skeleton
  pub collapses : List Skeleton
  pub others : List Root
  pub has_forms : HasForms k forms
  pub are_collapses : AreCollapses k collapses
  pub of_collapses : AreFormsOfCollapses are_collapses.partitions collapses others
  pub whole : roots ≡ first_roots k forms ++ others

-- What holds of a problem, and is kept in collapses, in normal forms and where assumptions are put in the order of a report, holds
-- of each of its roots.
use Rattle.std.proofs.Common.{ℕ, List, [], ◌∷◌, map, subst, ⊎_elim}
use Rattle.cp_lists.specs.Lists.{IsIn, here, there}
use Rattle.cp_lists.proofs.Members.{in_append, from_map}
use Rattle.cp_model.specs.Skeleton.{Skeleton}
use Rattle.cp_model.specs.declared.tree.Operation.{Operation}
use Rattle.cp_model.specs.declared.tree.Operation.TheVariants.{Problem as by_problem, Collapsed as by_collapse}
use Rattle.cp_normal.specs.Exact.{HasForms}
use Rattle.cp_collapse.specs.Collapses.{AreCollapses}
use Rattle.cp_roots.specs.Roots.{Root, in_report_order, living, first_roots, AreFormsOfCollapses, no_collapses, forms_of_one, AreRoots}

module _ (P : Skeleton → Type 0) where
  abbrev pub AllHave : List Skeleton → Type 0
  AllHave ks = (k : Skeleton) → IsIn k ks → P k

  abbrev pub RootsHave : List Root → Type 0
  RootsHave roots = (root : Root) → IsIn root roots → P root.skeleton

  pub record IsKept : Type 0 where
    pub listed : (k : Skeleton) → P k → P (in_report_order k)
    pub forms : (k : Skeleton) (rs : List Skeleton) → HasForms k rs → P k → AllHave rs
    pub collapses : (k : Skeleton) (ls : List Skeleton) → AreCollapses k ls → P k → AllHave ls

  module _ (kept : IsKept) where
    of_living : (by : Operation) (rs : List Skeleton) → AllHave rs → RootsHave (map (living by) rs)
    of_living by rs all root i = let m = from_map (living by) rs i in subst (λ (r : Root). P r.skeleton) m.2 (kept.listed m.0 (all m.0 m.1))

    of_first : (k : Skeleton) (forms : List Skeleton) → P k → AllHave forms → RootsHave (first_roots k forms)
    of_first k [] h all root here = h
    of_first k [] h all root (there i) = elim i [ ]
    of_first k (r ∷ rs) h all root i = of_living by_problem (r ∷ rs) all root i

    of_others : (ps : List (List ℕ)) (ls : List Skeleton) (roots : List Root) → AreFormsOfCollapses ps ls roots → AllHave ls → RootsHave roots
    of_others _ _ _ no_collapses all root i = elim i [ ]
    of_others _ _ _ (forms_of_one {p = p} {ps = ps} {l = l} {ls = ls} {rs = rs} {roots = roots} forms more) all root i =
        ⊎_elim (λ j. of_living (by_collapse p) rs (kept.forms l rs forms (all l here)) root j) (λ j. of_others ps ls roots more (λ m n. all m (there n)) root j) (in_append (map (living (by_collapse p)) rs) roots i)

    pub each_root : (k : Skeleton) (roots : List Root) → P k → AreRoots k roots → (root : Root) → IsIn root roots → P root.skeleton
    each_root k roots h are root i =
        ⊎_elim (λ j. of_first k are.forms h (kept.forms k are.forms are.has_forms h) root j)
        (λ j. of_others are.are_collapses.partitions are.collapses are.others are.of_collapses (kept.collapses k are.collapses are.are_collapses h) root j) (in_append (first_roots k are.forms) are.others (subst (IsIn root) are.whole i))

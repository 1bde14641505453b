-- The roots that the normal forms of several collapses give, one collapse after the other.
use Rattle.std.proofs.Common.{◌≡◌, ℕ, List, [], ◌∷◌, ◌++◌, map, refl, sym, ap, ◌∙◌, subst, append_assoc}
use Rattle.std.proofs.lemmas.List.{append-nil}
use Rattle.cp_lists.specs.Lists.{IsIn, here, there}
use Rattle.cp_model.specs.declared.variable.Declaration.{Declaration}
use Rattle.cp_model.specs.Skeleton.{Skeleton}
use Rattle.cp_model.specs.declared.tree.Operation.TheVariants.{Collapsed as by_collapse}
use Rattle.cp_model.specs.PointOfView.{IsPointOfView}
use Rattle.cp_lists.proofs.Members.{in_append_left, in_append_right}
use Rattle.cp_collapse.specs.Partitions.{place_in}
use Rattle.cp_collapse.specs.Collapses.{IsCollapse, AreCollapsesBy, no_collapses, collapse_by, AreCollapses}
use Rattle.cp_fingerprint.specs.FirstPlaces.{firsts}
use Rattle.cp_roots.specs.Roots.{Root, living, first_roots, AreFormsOfCollapses, no_collapses as none_of_none, forms_of_one, AreRoots}
use Rattle.cp_roots.specs.GatheredRoots.{AreNormalForms}
use Rattle.cp_roots.proofs.Firsts.{firsts_of_places}

-- The roots of one collapse, and how they are made.
abbrev pub roots_of : Skeleton → List Skeleton → List Root
roots_of l rs = map (living (by_collapse (firsts l.from_problem.strands))) rs

-- The roots are those of the skeletons, one after the other.
abbrev pub AreOfEach : List Skeleton → List Root → Type 0
AreOfEach [] roots = roots ≡ []
AreOfEach (l ∷ ls) roots = (rs : List Skeleton) × (others : List Root) × AreNormalForms l rs × AreOfEach ls others × (roots ≡ roots_of l rs ++ others)

pub one_more : (ls : List Skeleton) (roots : List Root) (l : Skeleton) (rs : List Skeleton) → AreOfEach ls roots → AreNormalForms l rs → AreOfEach (ls ++ l ∷ []) (roots ++ roots_of l rs)
one_more [] roots l rs none f = (rs, [], f, refl, ap (λ (xs : List Root). xs ++ roots_of l rs) none ∙ sym (append-nil (roots_of l rs)))
one_more (m ∷ ms) roots l rs (ss, others, g, rest, e) f =
    (ss, others ++ roots_of l rs, g, one_more ms others l rs rest f, ap (λ (xs : List Root). xs ++ roots_of l rs) e ∙ append_assoc (roots_of m ss) others (roots_of l rs))

-- Where one of the skeletons is listed, so are its roots.
pub listed_of : (ls : List Skeleton) (roots : List Root) (l : Skeleton) → AreOfEach ls roots → IsIn l ls → (rs : List Skeleton) × AreNormalForms l rs × ((r : Root) → IsIn r (roots_of l rs) → IsIn r roots)
listed_of [] roots l none i = elim i [ ]
listed_of (m ∷ ls) roots l (rs, others, f, rest, e) here = (rs, f, λ r i. subst (IsIn r) (sym e) (in_append_left others i))
listed_of (m ∷ ls) roots l (rs, others, f, rest, e) (there i) =
    let t = listed_of ls others l rest i in
    (t.0, t.1, λ r j. subst (IsIn r) (sym e) (in_append_right (roots_of m rs) (t.2 r j)))

-- ---- the partitions

module _ (variables : List Declaration) (k : Skeleton) (own : IsPointOfView variables k) where
  partition_read : (p : List ℕ) (l : Skeleton) → IsCollapse k p l → firsts l.from_problem.strands ≡ p
  partition_read p l c = ap firsts (c.collapsed.from_problem.strands ∙ ap (map (place_in p)) own.strands) ∙ firsts_of_places k p c.partition

  of_collapses : {ps : List (List ℕ)} {ls : List Skeleton} → AreCollapsesBy k ps ls → (roots : List Root) → AreOfEach ls roots → AreFormsOfCollapses ps ls roots
  of_collapses no_collapses roots none = subst (AreFormsOfCollapses [] []) (sym none) none_of_none
  of_collapses (collapse_by {p = p} {l = l} {ps = ps} {ls = ls} c cs) roots (rs, others, f, rest, e) =
      subst (AreFormsOfCollapses (p ∷ ps) (l ∷ ls)) (ap (λ (q : List ℕ). map (living (by_collapse q)) rs ++ others) (sym (partition_read p l c)) ∙ sym e)
      (forms_of_one f.exact (of_collapses cs others rest))

  pub are_roots : (forms : List Skeleton) (ls : List Skeleton) (others roots : List Root) → AreNormalForms k forms → AreCollapses k ls → AreOfEach ls others → roots ≡ first_roots k forms ++ others → AreRoots k roots
  are_roots forms ls others roots f a each e = record {
    forms = forms;
    collapses = ls;
    others = others;
    has_forms = f.exact;
    are_collapses = a;
    of_collapses = of_collapses a.each others each;
    whole = e;
  }

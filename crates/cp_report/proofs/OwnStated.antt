-- What a label form gives as the problem's own assumptions and pairs is what the label has as these, under the renaming.
use Rattle.std.proofs.Common.{◌≡◌, ℕ, zero, suc, List, [], ◌∷◌, Bool, true, false, refl, sym, ap, ◌∙◌, subst}
use Rattle.std.specs.Prelude.{Some, map, not, length}
use Rattle.std.specs.List.{filter}
use Rattle.std.proofs.lemmas.Bool.{both_ways, false_from_ne_true, eq-eqb, eqb-true, not-true}
use Rattle.cp_lists.specs.Lists.{item_at, IsIn}
use Rattle.cp_lists.proofs.Items.{map_of_item}
use Rattle.cp_lists.proofs.Members.{into_map, from_map, into_filter, from_filter}
use Rattle.cp_model.specs.Senders.{ArePaired}
use Rattle.cp_model.specs.Term.{variable_term, AtomTerm, Term, atom_term, variables_of_atom, Substitution, apply_to, apply_to_atom, composed}
use Rattle.cp_model.specs.Bindings.{sort_of_atom}
use Rattle.cp_model.specs.declared.variable.Variable.{Variable}
use Rattle.cp_model.specs.declared.variable.Declaration.{Declaration}
use Rattle.cp_model.specs.Homomorphism.{substitution_by, map_from_problem}
use Rattle.cp_model.specs.Problem.{IsDeclared}
use Rattle.cp_model.specs.Skeleton.{SkeletonStrand, term_event_at, UniqueAt, Assumptions, Skeleton}
use Rattle.cp_model.specs.Stated.{unique_image, pair_image, IsImageOfOne, AreImages, KeepsStated}
use Rattle.cp_model.specs.declared.node.OrderPair.{OrderPair}
use Rattle.cp_model.specs.Given.{has_atom, has_unique}
use Rattle.cp_model.specs.Order.{ReachesAlong}
use Rattle.cp_model.specs.OrderTests.{reaches_within}
use Rattle.cp_model.proofs.LawTerms.{term_composed, atom_composed}
use Rattle.cp_model.proofs.LawAgreement.{agree_atom}
use Rattle.cp_model.proofs.Gathered.{atoms, uniques}
use Rattle.cp_language.proofs.BoundedSearch.{reaches_all}
use Rattle.cp_language.specs.Problems.{is_known, on_one_strand}
use Rattle.cp_report.specs.FittingTrees.{HasSortOf}
use Rattle.cp_report.specs.Skeletons.{map_by, images_among, is_in_order}
use Rattle.cp_report.specs.UpToNames.{unique_renamed, AreSameAssumptions}
use Rattle.cp_report.proofs.CoveringOrder.{three_parts, all_three}
use Rattle.cp_report.proofs.PrintedVariables.{declared_there}
use Rattle.cp_report.proofs.PrintedStrands.{sort_kept, value_taken}

-- ---- in general

-- Of the images of these those that are listed are the renamed ones of those that are kept.
pub kept_images : {A B : Type 0} (g h : A → B) (r : B → B) (own : List A) (kept ls : List B) (has : B → Bool) → ((x : A) → IsIn x own → h x ≡ r (g x)) → AreImages g own kept → ((y : B) → IsIn y kept → IsIn y ls)
    → ((y : B) → IsIn y (map r ls) → has y ≡ true) → AreImages r kept (filter has (map h own))
kept_images g h r own kept ls has same images within finds y = (forth, back)
  where
    forth : IsIn y (filter has (map h own)) → IsImageOfOne r kept y
    forth i =
        let one = from_map h own (from_filter has (map h own) i).0 in
        record { item = g one.0; listed = (images (g one.0)).1 (record { item = one.0; listed = one.1; image = refl }); image = sym (same one.0 one.1) ∙ one.2 }

    back : IsImageOfOne r kept y → IsIn y (filter has (map h own))
    back one =
        let o = (images one.item).0 one.listed in
        let value : h o.item ≡ y = same o.item o.listed ∙ ap r o.image ∙ one.image in
        subst (λ z. IsIn z (filter has (map h own))) value
        (into_filter has (map h own) (into_map h o.listed) (ap has value ∙ finds y (subst (λ z. IsIn z (map r ls)) one.image (into_map r (within one.item one.listed)))))

-- ---- terms of the map

paired_at : (ds : List Declaration) (ts : List Term) → ArePaired HasSortOf ds ts → (i : ℕ) (d : Declaration) → item_at ds i ≡ Some d → (v : AtomTerm) × (item_at ts i ≡ Some (atom_term v)) × (sort_of_atom v ≡ d.sort)
paired_at [] ts p i d e = absurd (cc)
paired_at (c ∷ ds) [] p i d e = absurd p
paired_at (c ∷ ds) (t ∷ ts) p zero d e =
    let same : c ≡ d = cc in
    let one : HasSortOf c t = p.0 in
    (one.0, ap (λ (u : Term). Some u) one.1, one.2 ∙ ap (λ (x : Declaration). x.sort) same)
paired_at (c ∷ ds) (t ∷ ts) p (suc i) d e = paired_at ds ts p.1 i d e

module _ (f : Substitution) (ds : List Declaration) (ts : List Term) (paired : ArePaired HasSortOf ds ts) where
  -- the map's terms under the renaming give what its terms give, under the renaming
  variable_image : (x : Variable) → IsDeclared ds x → apply_to (composed (substitution_by ts) f) (variable_term x) ≡ apply_to (substitution_by (map (apply_to f) ts)) (variable_term x)
  variable_image x h =
      let d = declared_there ds x h in
      let v = paired_at ds ts paired x.number d.0 d.1 in
      let sorted : sort_of_atom v.0 ≡ x.sort = v.2 ∙ d.2 in
      term_composed (substitution_by ts) f (variable_term x)
      ∙ ap (apply_to f) (value_taken ts x.sort x.number v.0 v.1 sorted)
      ∙ sym (value_taken (map (apply_to f) ts) x.sort x.number (apply_to_atom f v.0) (map_of_item (apply_to f) ts x.number (atom_term v.0) v.1) (sort_kept f v.0 ∙ sorted))

  pub atom_image : (v : AtomTerm) → ((x : Variable) → IsIn x (variables_of_atom v) → IsDeclared ds x) → apply_to_atom (substitution_by (map (apply_to f) ts)) v ≡ apply_to_atom f (apply_to_atom (substitution_by ts) v)
  atom_image v declared =
      sym (agree_atom (composed (substitution_by ts) f) (substitution_by (map (apply_to f) ts)) v (λ x m. variable_image x (declared x m))) ∙ atom_composed (substitution_by ts) f v

-- ---- assumptions

-- The variables of the values are declared.
pub record AreOver (ds : List Declaration) (a : Assumptions) : Type 0 where
  pub non : (v : AtomTerm) → IsIn v a.non_originating → (x : Variable) → IsIn x (variables_of_atom v) → IsDeclared ds x
  pub penetrator_non : (v : AtomTerm) → IsIn v a.penetrator_non_originating → (x : Variable) → IsIn x (variables_of_atom v) → IsDeclared ds x
  pub unique : (u : UniqueAt) → IsIn u a.uniquely_originating → (x : Variable) → IsIn x (variables_of_atom u.value) → IsDeclared ds x

-- All assumptions of the skeleton are among those that are listed.
pub record ListsAll (k : Skeleton) (listed : Assumptions) : Type 0 where
  pub non : (v : AtomTerm) → IsIn v k.assumptions.non_originating → IsIn v listed.non_originating
  pub penetrator_non : (v : AtomTerm) → IsIn v k.assumptions.penetrator_non_originating → IsIn v listed.penetrator_non_originating
  pub unique : (u : UniqueAt) → IsIn u k.assumptions.uniquely_originating → IsIn u listed.uniquely_originating

-- The listed assumptions under the renaming.
abbrev pub assumptions_renamed : Substitution → Assumptions → Assumptions
assumptions_renamed f a = record {
  non_originating = map (apply_to_atom f) a.non_originating;
  penetrator_non_originating = map (apply_to_atom f) a.penetrator_non_originating;
  uniquely_originating = map (unique_renamed f) a.uniquely_originating;
}

module _ (f : Substitution) (problem k : Skeleton) (ds : List Declaration) (keeps : KeepsStated problem k) (paired : ArePaired HasSortOf ds k.from_problem.values) (over : AreOver ds problem.from_problem.assumptions) where
  -- The problem's own assumptions are given back.
  pub own_assumptions_back : (listed : Assumptions) → ListsAll k listed →
      AreSameAssumptions f k.from_problem.assumptions (images_among (assumptions_renamed f listed) (map_by k.from_problem.strands (map (apply_to f) k.from_problem.values)) problem.from_problem.assumptions)
  own_assumptions_back listed all = record {
    non = kept_images (apply_to_atom (substitution_by values)) (apply_to_atom (substitution_by (map (apply_to f) values))) (apply_to_atom f) own.non_originating kept.non_originating listed.non_originating
        (has_atom (map (apply_to_atom f) listed.non_originating)) (λ v m. atom_image f ds values paired v (over.non v m)) keeps.non (λ v m. all.non v (keeps.assumed.non v m))
        (λ v m. atoms.finds (map (apply_to_atom f) listed.non_originating) v m);
    penetrator_non = kept_images (apply_to_atom (substitution_by values)) (apply_to_atom (substitution_by (map (apply_to f) values))) (apply_to_atom f) own.penetrator_non_originating kept.penetrator_non_originating listed.penetrator_non_originating
        (has_atom (map (apply_to_atom f) listed.penetrator_non_originating)) (λ v m. atom_image f ds values paired v (over.penetrator_non v m)) keeps.penetrator_non (λ v m. all.penetrator_non v (keeps.assumed.penetrator_non v m))
        (λ v m. atoms.finds (map (apply_to_atom f) listed.penetrator_non_originating) v m);
    unique = kept_images (unique_image (map_from_problem k)) (unique_image (map_by k.from_problem.strands (map (apply_to f) values))) (unique_renamed f) own.uniquely_originating kept.uniquely_originating listed.uniquely_originating
        (has_unique (map (unique_renamed f) listed.uniquely_originating)) unique_same keeps.unique (λ u m. all.unique u (keeps.assumed.unique u m))
        (λ u m. uniques.finds (map (unique_renamed f) listed.uniquely_originating) u m);
  }
    where
      values : List Term
      values = k.from_problem.values

      own : Assumptions
      own = problem.from_problem.assumptions

      kept : Assumptions
      kept = k.from_problem.assumptions

      unique_same : (u : UniqueAt) → IsIn u problem.from_problem.assumptions.uniquely_originating →
          unique_image (map_by k.from_problem.strands (map (apply_to f) k.from_problem.values)) u ≡ unique_renamed f (unique_image (map_from_problem k) u)
      unique_same u m =
          let e = atom_image f ds k.from_problem.values paired u.value (over.unique u m) in
          λ i. record { value = e i; origin = (unique_image (map_from_problem k) u).origin }

-- ---- pairs

-- A pair that is kept is in the order, up to a node that is there.
abbrev pub AreInOrder : List SkeletonStrand → List OrderPair → List OrderPair → Type 0
AreInOrder strands pairs kept = (p : OrderPair) → IsIn p kept → ReachesAlong pairs p.earlier p.later × (is_known (term_event_at strands p.later) ≡ true)

-- The problem's own pairs are given back.
pub own_pairs_back : (problem k : Skeleton) → KeepsStated problem k → (strands : List SkeletonStrand) (pairs : List OrderPair) (values : List Term) → AreInOrder strands pairs k.from_problem.pairs
    → AreImages (λ (p : OrderPair). p) k.from_problem.pairs (filter (is_in_order strands pairs) (map (pair_image (map_by k.from_problem.strands values)) problem.from_problem.pairs))
own_pairs_back problem k keeps strands pairs values ordered y = (forth, back)
  where
    image : OrderPair → OrderPair
    image = pair_image (map_by k.from_problem.strands values)

    apart : on_one_strand y ≡ false → y.earlier.strand ≡ y.later.strand → ⊥
    apart h e = both_ways (on_one_strand y) h (eq-eqb y.earlier.strand y.later.strand e)

    forth : IsIn y (filter (is_in_order strands pairs) (map image problem.from_problem.pairs)) → IsImageOfOne (λ (p : OrderPair). p) k.from_problem.pairs y
    forth i =
        let kept = from_filter (is_in_order strands pairs) (map image problem.from_problem.pairs) i in
        let one = from_map image problem.from_problem.pairs kept.0 in
        let three = three_parts (not (on_one_strand y)) (is_known (term_event_at strands y.later)) (reaches_within (length pairs) pairs y.earlier y.later) kept.1 in
        record { item = y; listed = (keeps.pairs y).1 (record { item = one.0; listed = one.1; image = one.2 }, apart (not-true (on_one_strand y) three.0)); image = refl }

    back_of : IsIn y k.from_problem.pairs → IsIn y (filter (is_in_order strands pairs) (map image problem.from_problem.pairs))
    back_of i =
        let r = (keeps.pairs y).0 i in
        let o = ordered y i in
        let test : is_in_order strands pairs y ≡ true = all_three (not (on_one_strand y)) (is_known (term_event_at strands y.later)) (reaches_within (length pairs) pairs y.earlier y.later)
        (ap not (false_from_ne_true (on_one_strand y) (λ h. absurd (r.1 (eqb-true y.earlier.strand y.later.strand h))))) o.1 ((reaches_all pairs y.earlier y.later).1 o.0) in
        into_filter (is_in_order strands pairs) (map image problem.from_problem.pairs) (subst (λ (p : OrderPair). IsIn p (map image problem.from_problem.pairs)) r.0.image (into_map image r.0.listed)) test

    back : IsImageOfOne (λ (p : OrderPair). p) k.from_problem.pairs y → IsIn y (filter (is_in_order strands pairs) (map image problem.from_problem.pairs))
    back r = back_of (subst (λ (p : OrderPair). IsIn p k.from_problem.pairs) r.image r.listed)

-- Two skeletons that are the same as a third are the same.
use Rattle.std.proofs.Common.{◌≡◌, ℕ, List, [], ◌∷◌, ◌++◌, refl, sym, ap, ◌∙◌, subst, ⊎_elim}
use Rattle.std.specs.Prelude.{map, drop}
use Rattle.cp_lists.specs.Lists.{IsIn}
use Rattle.cp_lists.proofs.Members.{in_append, in_append_left, in_append_right}
use Rattle.cp_model.specs.Senders.{ArePaired}
use Rattle.cp_model.specs.Term.{variable_term, AtomTerm, Term, variables_of_atom, variables_of, Substitution, apply_to, apply_to_atom}
use Rattle.cp_model.specs.Bindings.{as_substitution}
use Rattle.cp_model.specs.declared.variable.Variable.{Variable}
use Rattle.cp_model.specs.Strand.{event_map, Role, variables_of_prefix, prefix_of, variables_of_trace}
use Rattle.cp_model.specs.declared.strand.Event.{Event}
use Rattle.cp_model.specs.Problem.{variables_of_strands, variables_of_atoms, variables_of_uniques, variables_of_assumptions, variables_of_skeleton}
use Rattle.cp_model.specs.Skeleton.{SkeletonStrand, instance, listener, skeleton_trace, UniqueAt, Assumptions, Skeleton}
use Rattle.cp_model.specs.Stated.{AreImages, HasOwnAssumptions}
use Rattle.cp_model.specs.declared.node.Node.{Node}
use Rattle.cp_model.proofs.LawTerms.{term_composed}
use Rattle.cp_model.proofs.OccurringVariables.{in_trace_under, atom_with, in_atoms, unique_with, in_uniques}
use Rattle.cp_model.proofs.UnderVariables.{of_trace}
use Rattle.cp_language.specs.Report.{variables_of_terms}
use Rattle.cp_report.specs.UpToNames.{renamed, renaming, IsOneToOne, IsSameStrandUnder, unique_renamed, AreSameAssumptions, IsSameSkeleton}
use Rattle.cp_report.proofs.RenamedStrands.{trace_renamed}
use Rattle.cp_report.proofs.Inverses.{renamed_in, is_renamed, ComesFrom, term_onto, term_from, atom_onto, atom_from, AreCovered, through, back, term_returned, atom_returned, term_in_two, atom_in_two, term_through, images_through}

-- ---- variables that are covered

pub covered_within : (a b : Variable → ℕ) (xs ys zs : List Variable) → AreCovered a xs b ys → ((y : Variable) → IsIn y ys → IsIn y zs) → AreCovered a xs b zs
covered_within a b xs ys zs h within x m = let r = h x m in record { from = r.from; listed = within r.from r.listed; is = r.is }

pub both_covered : (a b : Variable → ℕ) (xs us ys vs : List Variable) → AreCovered a xs b ys → AreCovered a us b vs → AreCovered a (xs ++ us) b (ys ++ vs)
both_covered a b xs us ys vs h g x m =
    ⊎_elim (λ i. covered_within a b xs ys (ys ++ vs) h (λ y j. in_append_left vs j) x i) (λ i. covered_within a b us vs (ys ++ vs) g (λ y j. in_append_right ys j) x i) (in_append xs us m)

pub term_covered : (a b : Variable → ℕ) (t u : Term) → apply_to (renaming a) t ≡ apply_to (renaming b) u → AreCovered a (variables_of t) b (variables_of u)
term_covered a b t u e x m = term_from b u (renamed a x) (subst (λ (v : Term). IsIn (renamed a x) (variables_of v)) e (term_onto a t x m))

pub terms_covered : (a b : Variable → ℕ) (ts us : List Term) → map (apply_to (renaming a)) ts ≡ map (apply_to (renaming b)) us → AreCovered a (variables_of_terms ts) b (variables_of_terms us)
terms_covered a b [] us e x m = elim m [ ]
terms_covered a b (t ∷ ts) [] e x m = absurd (cc)
terms_covered a b (t ∷ ts) (u ∷ us) e x m =
    let first : apply_to (renaming a) t ≡ apply_to (renaming b) u = cc in
    both_covered a b (variables_of t) (variables_of_terms ts) (variables_of u) (variables_of_terms us) (term_covered a b t u first) (terms_covered a b ts us (ap (drop 1) e)) x m

trace_covered : (a b : Variable → ℕ) (es ds : List (Event Term)) → map (event_map (apply_to (renaming a))) es ≡ map (event_map (apply_to (renaming b))) ds → AreCovered a (variables_of_trace es) b (variables_of_trace ds)
trace_covered a b es ds e x m =
    of_trace (ComesFrom b (variables_of_trace ds)) (renaming b) ds (λ y i z j. record { from = y; listed = i; is = is_renamed b y z j }) (renamed a x)
    (subst (λ (cs : List (Event Term)). IsIn (renamed a x) (variables_of_trace cs)) e (in_trace_under (renaming a) es x (renamed a x) m (renamed_in a x)))

strands_covered : (a b : Variable → ℕ) (ks ms ss : List SkeletonStrand) → ArePaired (IsSameStrandUnder (renaming a)) ks ss → ArePaired (IsSameStrandUnder (renaming b)) ms ss → AreCovered a (variables_of_strands ks) b (variables_of_strands ms)
strands_covered a b [] ms ss h g x m = elim m [ ]
strands_covered a b (k ∷ ks) ms [] h g x m = absurd h
strands_covered a b (k ∷ ks) [] (s ∷ ss) h g x m = absurd g
strands_covered a b (k ∷ ks) (m ∷ ms) (s ∷ ss) h g x i =
    both_covered a b (variables_of_trace (skeleton_trace k)) (variables_of_strands ks) (variables_of_trace (skeleton_trace m)) (variables_of_strands ms)
    (trace_covered a b (skeleton_trace k) (skeleton_trace m) (sym (trace_renamed (renaming a) k s h.0) ∙ trace_renamed (renaming b) m s g.0)) (strands_covered a b ks ms ss h.1 g.1) x i

atoms_covered : (a b : Variable → ℕ) (vs us ws : List AtomTerm) → AreImages (apply_to_atom (renaming a)) vs ws → AreImages (apply_to_atom (renaming b)) us ws → AreCovered a (variables_of_atoms vs) b (variables_of_atoms us)
atoms_covered a b vs us ws h g x m =
    let v = atom_with vs x m in
    let u = (g (apply_to_atom (renaming a) v.0)).0 ((h (apply_to_atom (renaming a) v.0)).1 (record { item = v.0; listed = v.1; image = refl })) in
    let r = atom_from b u.item (renamed a x) (subst (λ (w : AtomTerm). IsIn (renamed a x) (variables_of_atom w)) (sym u.image) (atom_onto a v.0 x v.2)) in
    record { from = r.from; listed = in_atoms us u.item r.from u.listed r.listed; is = r.is }

uniques_covered : (a b : Variable → ℕ) (vs us ws : List UniqueAt) → AreImages (unique_renamed (renaming a)) vs ws → AreImages (unique_renamed (renaming b)) us ws → AreCovered a (variables_of_uniques vs) b (variables_of_uniques us)
uniques_covered a b vs us ws h g x m =
    let v = unique_with vs x m in
    let u = (g (unique_renamed (renaming a) v.0)).0 ((h (unique_renamed (renaming a) v.0)).1 (record { item = v.0; listed = v.1; image = refl })) in
    let r = atom_from b u.item.value (renamed a x) (subst (λ (w : UniqueAt). IsIn (renamed a x) (variables_of_atom w.value)) (sym u.image) (atom_onto a v.0.value x v.2)) in
    record { from = r.from; listed = in_uniques us u.item r.from u.listed r.listed; is = r.is }

pub skeleton_covered : (a b : Variable → ℕ) (k m s : Skeleton) → IsSameSkeleton (renaming a) k s → IsSameSkeleton (renaming b) m s → AreCovered a (variables_of_skeleton k) b (variables_of_skeleton m)
skeleton_covered a b k m s h g =
    both_covered a b (variables_of_strands k.strands) (variables_of_assumptions k.assumptions) (variables_of_strands m.strands) (variables_of_assumptions m.assumptions)
    (strands_covered a b k.strands m.strands s.strands h.strands g.strands)
    (both_covered a b (variables_of_atoms k.assumptions.non_originating ++ variables_of_atoms k.assumptions.penetrator_non_originating) (variables_of_uniques k.assumptions.uniquely_originating)
    (variables_of_atoms m.assumptions.non_originating ++ variables_of_atoms m.assumptions.penetrator_non_originating) (variables_of_uniques m.assumptions.uniquely_originating)
    (both_covered a b (variables_of_atoms k.assumptions.non_originating) (variables_of_atoms k.assumptions.penetrator_non_originating) (variables_of_atoms m.assumptions.non_originating) (variables_of_atoms m.assumptions.penetrator_non_originating)
    (atoms_covered a b k.assumptions.non_originating m.assumptions.non_originating s.assumptions.non_originating h.assumptions.non g.assumptions.non)
    (atoms_covered a b k.assumptions.penetrator_non_originating m.assumptions.penetrator_non_originating s.assumptions.penetrator_non_originating h.assumptions.penetrator_non g.assumptions.penetrator_non))
    (uniques_covered a b k.assumptions.uniquely_originating m.assumptions.uniquely_originating s.assumptions.uniquely_originating h.assumptions.unique g.assumptions.unique))

-- ---- from the one to the other

module _ (a b : Variable → ℕ) (ys : List Variable) (one : IsOneToOne b ys) where
  abbrev f : Substitution
  f = renaming (through a b ys)

  strand_through : (k m s : SkeletonStrand) → IsSameStrandUnder (renaming a) k s → IsSameStrandUnder (renaming b) m s → ((y : Variable) → IsIn y (variables_of_trace (skeleton_trace m)) → IsIn y ys) → IsSameStrandUnder f k m
  strand_through (instance role height terms) (instance role' height' terms') (instance role'' height'' terms'') h g within = (
    h.0 ∙ sym g.0,
    h.1 ∙ sym g.1,
    λ x i.
        let j : IsIn x (variables_of_prefix role' height') = moved (h.0 ∙ sym g.0) (h.1 ∙ sym g.1) i in
        let e = sym (term_composed (as_substitution terms) (renaming a) (variable_term x)) ∙ h.2 x i ∙ sym (g.2 x j) ∙ term_composed (as_substitution terms') (renaming b) (variable_term x) in
        term_composed (as_substitution terms) f (variable_term x) ∙ term_in_two a b ys one (apply_to (as_substitution terms) (variable_term x)) ∙ ap (apply_to (renaming (back a b ys one))) e
        ∙ term_returned a b ys one (apply_to (as_substitution terms') (variable_term x)) (λ y n. within y (in_trace_under (as_substitution terms') (prefix_of role' height') x y j n)),
  )
    where
      moved : {r r' : Role} {n n' : ℕ} {x : Variable} → r ≡ r' → n ≡ n' → IsIn x (variables_of_prefix r n) → IsIn x (variables_of_prefix r' n')
      moved {r = r} {n' = n'} {x = x} p q i = subst (λ (c : Role). IsIn x (variables_of_prefix c n')) p (subst (λ (c : ℕ). IsIn x (variables_of_prefix r c)) q i)
  strand_through (listener t) (listener u) (listener v) h g within = term_through a b ys one t u (λ y m. within y (in_append_left _ m)) (h ∙ sym g)
  strand_through (instance role height terms) m (listener v) h g within = absurd h
  strand_through (listener t) m (instance role height terms) h g within = absurd h
  strand_through (instance role height terms) (listener u) (instance role' height' terms') h g within = absurd g
  strand_through (listener t) (instance role height terms) (listener v) h g within = absurd g

  strands_through : (ks ms ss : List SkeletonStrand) → ArePaired (IsSameStrandUnder (renaming a)) ks ss → ArePaired (IsSameStrandUnder (renaming b)) ms ss → ((y : Variable) → IsIn y (variables_of_strands ms) → IsIn y ys) → ArePaired (IsSameStrandUnder f) ks ms
  strands_through [] [] ss h g within = tt
  strands_through [] (m ∷ ms) [] h g within = absurd g
  strands_through [] (m ∷ ms) (s ∷ ss) h g within = absurd h
  strands_through (k ∷ ks) ms [] h g within = absurd h
  strands_through (k ∷ ks) [] (s ∷ ss) h g within = absurd g
  strands_through (k ∷ ks) (m ∷ ms) (s ∷ ss) h g within = (
    strand_through k m s h.0 g.0 (λ y i. within y (in_append_left (variables_of_strands ms) i)),
    strands_through ks ms ss h.1 g.1 (λ y i. within y (in_append_right (variables_of_trace (skeleton_trace m)) i)),
  )

  assumptions_through : (k m s : Assumptions) → AreSameAssumptions (renaming a) k s → AreSameAssumptions (renaming b) m s
      → ((v : AtomTerm) → IsIn v m.non_originating → (y : Variable) → IsIn y (variables_of_atom v) → IsIn y ys) → ((v : AtomTerm) → IsIn v m.penetrator_non_originating → (y : Variable) → IsIn y (variables_of_atom v) → IsIn y ys)
      → ((u : UniqueAt) → IsIn u m.uniquely_originating → (y : Variable) → IsIn y (variables_of_atom u.value) → IsIn y ys) → AreSameAssumptions f k m
  assumptions_through k m s h g non penetrator_non unique = record {
    non = images_through (apply_to_atom (renaming a)) (apply_to_atom (renaming b)) (apply_to_atom f) to k.non_originating m.non_originating s.non_originating h.non g.non
        (λ v i. atom_in_two a b ys one v) (λ v i. atom_returned a b ys one v (non v i));
    penetrator_non = images_through (apply_to_atom (renaming a)) (apply_to_atom (renaming b)) (apply_to_atom f) to k.penetrator_non_originating m.penetrator_non_originating s.penetrator_non_originating h.penetrator_non g.penetrator_non
        (λ v i. atom_in_two a b ys one v) (λ v i. atom_returned a b ys one v (penetrator_non v i));
    unique = images_through (unique_renamed (renaming a)) (unique_renamed (renaming b)) (unique_renamed f) (unique_renamed (renaming (back a b ys one))) k.uniquely_originating m.uniquely_originating s.uniquely_originating h.unique g.unique
        (λ u i. at u.origin (atom_in_two a b ys one u.value)) (λ u i. at u.origin (atom_returned a b ys one u.value (unique u i)));
  }
    where
      to : AtomTerm → AtomTerm
      to = apply_to_atom (renaming (back a b ys one))

      recorded : Node → AtomTerm → UniqueAt
      recorded n v = record { value = v; origin = n }

      at : (n : Node) {v w : AtomTerm} → v ≡ w → recorded n v ≡ recorded n w
      at n e = ap (recorded n) e

  terms_through : (ts us vs : List Term) → map (apply_to (renaming a)) ts ≡ vs → map (apply_to (renaming b)) us ≡ vs → ((y : Variable) → IsIn y (variables_of_terms us) → IsIn y ys) → map (apply_to f) ts ≡ us
  terms_through ts us vs h g within = two_maps ts ∙ ap (map (apply_to (renaming (back a b ys one)))) (h ∙ sym g) ∙ returned us within
    where
      two_maps : (rs : List Term) → map (apply_to f) rs ≡ map (apply_to (renaming (back a b ys one))) (map (apply_to (renaming a)) rs)
      two_maps [] = refl
      two_maps (r ∷ rs) = ap (λ t. t ∷ map (apply_to f) rs) (term_in_two a b ys one r) ∙ ap (λ qs. apply_to (renaming (back a b ys one)) (apply_to (renaming a) r) ∷ qs) (two_maps rs)

      returned : (rs : List Term) → ((y : Variable) → IsIn y (variables_of_terms rs) → IsIn y ys) → map (apply_to (renaming (back a b ys one))) (map (apply_to (renaming b)) rs) ≡ rs
      returned [] w = refl
      returned (r ∷ rs) w =
          ap (λ t. t ∷ map (apply_to (renaming (back a b ys one))) (map (apply_to (renaming b)) rs)) (term_returned a b ys one r (λ y i. w y (in_append_left (variables_of_terms rs) i)))
          ∙ ap (λ qs. r ∷ qs) (returned rs (λ y i. w y (in_append_right (variables_of r) i)))

  -- Skeletons that are the same as a third.
  pub skeleton_through : (k m s : Skeleton) → IsSameSkeleton (renaming a) k s → IsSameSkeleton (renaming b) m s → HasOwnAssumptions m → ((y : Variable) → IsIn y (variables_of_skeleton m) → IsIn y ys)
      → ((y : Variable) → IsIn y (variables_of_terms m.from_problem.values) → IsIn y ys) → IsSameSkeleton f k m
  skeleton_through k m s h g own within values = record {
    strands = strands_through k.strands m.strands s.strands h.strands g.strands (λ y i. within y (in_append_left (variables_of_assumptions m.assumptions) i));
    order = λ x y. (λ q. (g.order x y).1 ((h.order x y).0 q), λ q. (h.order x y).1 ((g.order x y).0 q));
    assumptions = assumptions_through k.assumptions m.assumptions s.assumptions h.assumptions g.assumptions non penetrator_non unique;
    mapped_strands = h.mapped_strands ∙ sym g.mapped_strands;
    mapped_values = terms_through k.from_problem.values m.from_problem.values s.from_problem.values h.mapped_values g.mapped_values values;
    own_assumptions = assumptions_through k.from_problem.assumptions m.from_problem.assumptions s.from_problem.assumptions h.own_assumptions g.own_assumptions
        (λ v i. non v (own.non v i)) (λ v i. penetrator_non v (own.penetrator_non v i)) (λ u i. unique u (own.unique u i));
    own_pairs = images_through (λ p. p) (λ p. p) (λ p. p) (λ p. p) k.from_problem.pairs m.from_problem.pairs s.from_problem.pairs h.own_pairs g.own_pairs (λ p i. refl) (λ p i. refl);
  }
    where
      assumed : (y : Variable) → IsIn y (variables_of_assumptions m.assumptions) → IsIn y ys
      assumed y i = within y (in_append_right (variables_of_strands m.strands) i)

      non : (v : AtomTerm) → IsIn v m.assumptions.non_originating → (y : Variable) → IsIn y (variables_of_atom v) → IsIn y ys
      non v i y j = assumed y (in_append_left (variables_of_uniques m.assumptions.uniquely_originating) (in_append_left (variables_of_atoms m.assumptions.penetrator_non_originating) (in_atoms m.assumptions.non_originating v y i j)))

      penetrator_non : (v : AtomTerm) → IsIn v m.assumptions.penetrator_non_originating → (y : Variable) → IsIn y (variables_of_atom v) → IsIn y ys
      penetrator_non v i y j = assumed y (in_append_left (variables_of_uniques m.assumptions.uniquely_originating) (in_append_right (variables_of_atoms m.assumptions.non_originating) (in_atoms m.assumptions.penetrator_non_originating v y i j)))

      unique : (u : UniqueAt) → IsIn u m.assumptions.uniquely_originating → (y : Variable) → IsIn y (variables_of_atom u.value) → IsIn y ys
      unique u i y j = assumed y (in_append_right (variables_of_atoms m.assumptions.non_originating ++ variables_of_atoms m.assumptions.penetrator_non_originating) (in_uniques m.assumptions.uniquely_originating u y i j))

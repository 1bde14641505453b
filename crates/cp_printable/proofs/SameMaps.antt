-- A skeleton and one that is the same up to names of variables and pairs that generate its order embed in each other, by the
-- renaming and back; and the second is one over the protocol too.
use Rattle.std.proofs.Common.{◌≡◌, ℕ, List, [], ◌∷◌, ◌++◌, Some, refl, sym, ap, ap₂, ◌∙◌, subst, le_refl}
use Rattle.std.specs.Prelude.{map}
use Rattle.cp_lists.specs.Lists.{item_at, IsIn}
use Rattle.cp_lists.proofs.Members.{in_append_left, in_append_right}
use Rattle.cp_lists.proofs.Mapped.{map_same}
use Rattle.cp_model.specs.Term.{variable_term, AtomTerm, Term, variables_of_atom, variables_of, Substitution, apply_to, apply_to_atom}
use Rattle.cp_model.specs.Bindings.{Binding, as_substitution}
use Rattle.cp_model.specs.declared.variable.Variable.{Variable}
use Rattle.cp_model.specs.Strand.{payload, Role, Protocol, prefix_of, variables_of_trace, Applies}
use Rattle.cp_model.specs.declared.strand.Event.{Event}
use Rattle.cp_model.specs.declared.strand.Event.TheVariants.{Send as send}
use Rattle.cp_model.specs.Bundle.{node_at}
use Rattle.cp_model.specs.declared.node.Node.{Node}
use Rattle.cp_model.specs.Problem.{variables_of_strands, variables_of_atoms, variables_of_uniques, variables_of_assumptions, variables_of_skeleton, variables_of_terms}
use Rattle.cp_model.specs.Skeleton.{SkeletonStrand, instance, listener, skeleton_trace, term_event_at, UniqueAt, Skeleton, IsOrderPair, IsOrigin, GivesAssumptions, IsSkeleton}
use Rattle.cp_model.specs.declared.node.OrderPair.{OrderPair}
use Rattle.cp_model.specs.Homomorphism.{SkeletonMap, IsHomomorphism, IsEmbedding}
use Rattle.cp_model.proofs.LawTerms.{term_composed, atom_composed, carried_under}
use Rattle.cp_model.proofs.LawAgreement.{agree_atom}
use Rattle.cp_model.proofs.LawPrefixes.{in_trace}
use Rattle.cp_model.proofs.LawStandings.{strand_of_event, event_on}
use Rattle.cp_model.proofs.OccurringVariables.{in_trace_under, in_strands, in_atoms, in_uniques}
use Rattle.cp_model.proofs.UnderVariables.{applies_at}
use Rattle.cp_report.specs.UpToNames.{renaming, IsOneToOne, unique_renamed, IsSameSkeleton}
use Rattle.cp_printable.proofs.BackRenamings.{f, g, atom_returned, term_returned}
use Rattle.cp_printable.proofs.SameStrands.{HasTerms, instance_from, instance_onto, listener_from, listener_onto, event_onto}

-- A map that leaves the strands where they are.
abbrev pub with_terms : Substitution → SkeletonMap
with_terms s = record { strands = λ n. n; terms = s }

-- ---- the renaming

module _ (s : Substitution) (k n : Skeleton) (same : IsSameSkeleton s k n) where
  -- The renaming is a homomorphism from the first skeleton to the second.
  pub forth_homomorphism : IsHomomorphism k n (with_terms s)
  forth_homomorphism = record {
    instances = λ a role height terms at.
        let r = instance_onto s k.strands n.strands same.strands a role height terms at in
        record { to_height = height; to_terms = r.0; on_instance = r.1; at_least = le_refl height; equal_terms = r.2 };
    listeners = λ a t at. listener_onto s k.strands n.strands same.strands a t at;
    ordered = λ x y before. (same.order x y).0 before;
    non = λ v m. (same.assumptions.non (apply_to_atom s v)).1 (record { item = v; listed = m; image = refl });
    penetrator_non = λ v m. (same.assumptions.penetrator_non (apply_to_atom s v)).1 (record { item = v; listed = m; image = refl });
    unique = λ u m. (same.assumptions.unique (unique_renamed s u)).1 (record { item = u; listed = m; image = refl });
  }

  -- It is an embedding over the problem.
  pub forth_embedding : IsEmbedding k n (with_terms s)
  forth_embedding = record {
    homomorphism = forth_homomorphism;
    injective = λ a b role height terms role' height' terms' at au e. e;
    same_strands = map_same (λ a. a) (λ a. refl) k.from_problem.strands ∙ same.mapped_strands;
    same_values = same.mapped_values;
  }

  -- ---- over the protocol

  -- A value of a role whose variables occur in the prefix.
  value_renamed : (role : Role) (height : ℕ) (terms terms' : List Binding) → HasTerms s role height terms terms' → (v : AtomTerm) → Applies role height v → apply_to_atom s (apply_to_atom (as_substitution terms) v) ≡ apply_to_atom (as_substitution terms') v
  value_renamed role height terms terms' has v applies = sym (atom_composed (as_substitution terms) s v) ∙ agree_atom _ (as_substitution terms') v (λ x m. has x (applies x m))

  -- A recorded origin of the first skeleton is one of the second.
  origin_renamed : (u : UniqueAt) → IsOrigin k u → IsOrigin n (unique_renamed s u)
  origin_renamed u o =
      let r = instance_onto s k.strands n.strands same.strands u.origin.strand o.role o.height o.terms o.on_instance in
      record {
        role = o.role;
        height = o.height;
        terms = r.0;
        on_instance = r.1;
        sent = apply_to s o.sent;
        transmission = event_onto s k.strands n.strands same.strands u.origin (send o.sent) o.transmission;
        carried = carried_under s o.carried;
      }

  -- The assumptions that a role gives to the first skeleton, it gives to the second.
  given_renamed : (a : ℕ) (role : Role) (height : ℕ) (terms terms' : List Binding) → HasTerms s role height terms terms' → GivesAssumptions k a role height terms → GivesAssumptions n a role height terms'
  given_renamed a role height terms terms' has gives = record {
    non = λ v m applies. subst (λ (w : AtomTerm). IsIn w n.assumptions.non_originating) (value_renamed role height terms terms' has v applies) (forth_homomorphism.non (apply_to_atom (as_substitution terms) v) (gives.non v m applies));
    penetrator_non = λ v m applies.
        subst (λ (w : AtomTerm). IsIn w n.assumptions.penetrator_non_originating) (value_renamed role height terms terms' has v applies) (forth_homomorphism.penetrator_non (apply_to_atom (as_substitution terms) v) (gives.penetrator_non v m applies));
    unique = λ v i m at.
        subst (λ (w : AtomTerm). IsIn (record { value = w; origin = node_at a i }) n.assumptions.uniquely_originating) (value_renamed role height terms terms' has v (applies_at role height v i at))
        (forth_homomorphism.unique (record { value = apply_to_atom (as_substitution terms) v; origin = node_at a i }) (gives.unique v i m at));
  }

  -- Where the pairs of the second go from transmissions to receptions of other strands, it is a skeleton over the protocol.
  pub same_is_skeleton : (protocol : Protocol) → IsSkeleton protocol k → ((p : OrderPair) → IsIn p n.pairs → IsOrderPair n p) → IsSkeleton protocol n
  same_is_skeleton protocol sk pairs = record {
    of_role = λ a role height terms' at. let r = instance_from s k.strands n.strands same.strands a role height terms' at in sk.of_role a role height r.0 r.1;
    heights = λ a role height terms' at. let r = instance_from s k.strands n.strands same.strands a role height terms' at in sk.heights a role height r.0 r.1;
    order_pairs = pairs;
    no_cycle = λ x before. sk.no_cycle x ((same.order x x).1 before);
    origins = λ u m. let r = (same.assumptions.unique u).0 m in subst (IsOrigin n) r.image (origin_renamed r.item (sk.origins r.item r.listed));
    given = λ a role height terms' at.
        let r = instance_from s k.strands n.strands same.strands a role height terms' at in
        given_renamed a role height r.0 terms' r.2 (sk.given a role height r.0 r.1);
  }

-- ---- and back

-- The variables of a non-originating value occur in the skeleton.
assumed_non : (k : Skeleton) (v : AtomTerm) → IsIn v k.assumptions.non_originating → (x : Variable) → IsIn x (variables_of_atom v) → IsIn x (variables_of_skeleton k)
assumed_non k v m x i =
    in_append_right (variables_of_strands k.strands) (in_append_left (variables_of_uniques k.assumptions.uniquely_originating)
    (in_append_left (variables_of_atoms k.assumptions.penetrator_non_originating) (in_atoms k.assumptions.non_originating v x m i)))

-- The variables of a penetrator-non-originating value occur in the skeleton.
assumed_penetrator_non : (k : Skeleton) (v : AtomTerm) → IsIn v k.assumptions.penetrator_non_originating → (x : Variable) → IsIn x (variables_of_atom v) → IsIn x (variables_of_skeleton k)
assumed_penetrator_non k v m x i =
    in_append_right (variables_of_strands k.strands) (in_append_left (variables_of_uniques k.assumptions.uniquely_originating)
    (in_append_right (variables_of_atoms k.assumptions.non_originating) (in_atoms k.assumptions.penetrator_non_originating v x m i)))

-- The variables of a unique value occur in the skeleton.
assumed_unique : (k : Skeleton) (u : UniqueAt) → IsIn u k.assumptions.uniquely_originating → (x : Variable) → IsIn x (variables_of_atom u.value) → IsIn x (variables_of_skeleton k)
assumed_unique k u m x i =
    in_append_right (variables_of_strands k.strands) (in_append_right (variables_of_atoms k.assumptions.non_originating ++ variables_of_atoms k.assumptions.penetrator_non_originating)
    (in_uniques k.assumptions.uniquely_originating u x m i))

module _ (number : Variable → ℕ) (xs : List Variable) (one : IsOneToOne number xs) (k n : Skeleton) (same : IsSameSkeleton (renaming number) k n) (within : (x : Variable) → IsIn x (variables_of_skeleton k) → IsIn x xs) where
  -- the renaming
  abbrev pub to : Substitution
  to = f number xs one

  -- and back
  abbrev pub from : Substitution
  from = g number xs one

  -- The variables of a non-originating value are among those that are renamed one to one;
  pub non_within : (v : AtomTerm) → IsIn v k.assumptions.non_originating → (x : Variable) → IsIn x (variables_of_atom v) → IsIn x xs
  non_within v m x i = within x (assumed_non k v m x i)

  -- so are those of a penetrator-non-originating value,
  pub penetrator_non_within : (v : AtomTerm) → IsIn v k.assumptions.penetrator_non_originating → (x : Variable) → IsIn x (variables_of_atom v) → IsIn x xs
  penetrator_non_within v m x i = within x (assumed_penetrator_non k v m x i)

  -- of a unique value,
  pub unique_within : (u : UniqueAt) → IsIn u k.assumptions.uniquely_originating → (x : Variable) → IsIn x (variables_of_atom u.value) → IsIn x xs
  unique_within u m x i = within x (assumed_unique k u m x i)

  -- of a strand,
  pub strand_within : (a : ℕ) (x : Variable) (st : SkeletonStrand) → item_at k.strands a ≡ Some st → IsIn x (variables_of_trace (skeleton_trace st)) → IsIn x xs
  strand_within a x st at i = within x (in_append_left (variables_of_assumptions k.assumptions) (in_strands k.strands a st x at i))

  -- and of an event.
  pub event_within : (m : Node) (e : Event Term) (x : Variable) → term_event_at k.strands m ≡ Some e → IsIn x (variables_of (payload e)) → IsIn x xs
  event_within m e x at i =
      let st = strand_of_event k.strands m e at in
      strand_within m.strand x st.0 st.1 (in_trace (skeleton_trace st.0) m.index e x (event_on k m st.0 e st.1 at) i)

  -- The terms of an instance, renamed and back, are these terms.
  instance_returned : (a : ℕ) (role : Role) (height : ℕ) (terms terms' : List Binding) → item_at k.strands a ≡ Some (instance role height terms) → HasTerms to role height terms terms' → HasTerms from role height terms' terms
  instance_returned a role height terms terms' at has x i =
      term_composed (as_substitution terms') from (variable_term x) ∙ ap (apply_to from) (sym (has x i) ∙ term_composed (as_substitution terms) to (variable_term x))
      ∙ term_returned number xs one (apply_to (as_substitution terms) (variable_term x)) (λ y m. strand_within a y (instance role height terms) at (in_trace_under (as_substitution terms) (prefix_of role height) x y i m))

  -- The way back is a homomorphism from the second skeleton to the first.
  pub back_homomorphism : IsHomomorphism n k (with_terms from)
  back_homomorphism = record {
    instances = λ a role height terms' at.
        let r = instance_from to k.strands n.strands same.strands a role height terms' at in
        record { to_height = height; to_terms = r.0; on_instance = r.1; at_least = le_refl height; equal_terms = instance_returned a role height r.0 terms' r.1 r.2 };
    listeners = λ a t' at.
        let r = listener_from to k.strands n.strands same.strands a t' at in
        r.1 ∙ ap (λ (t : Term). Some (listener t)) (sym (ap (apply_to from) (sym r.2) ∙ term_returned number xs one r.0 (λ x m. strand_within a x (listener r.0) r.1 (in_append_left _ m))));
    ordered = λ x y before. (same.order x y).1 before;
    non = λ v m.
        let r = (same.assumptions.non v).0 m in
        subst (λ (w : AtomTerm). IsIn w k.assumptions.non_originating) (sym (ap (apply_to_atom from) (sym r.image) ∙ atom_returned number xs one r.item (non_within r.item r.listed))) r.listed;
    penetrator_non = λ v m.
        let r = (same.assumptions.penetrator_non v).0 m in
        subst (λ (w : AtomTerm). IsIn w k.assumptions.penetrator_non_originating) (sym (ap (apply_to_atom from) (sym r.image) ∙ atom_returned number xs one r.item (penetrator_non_within r.item r.listed))) r.listed;
    unique = λ u m.
        let r = (same.assumptions.unique u).0 m in
        let e : record { value = apply_to_atom from u.value; origin = u.origin } ≡ r.item =
        ap (unique_renamed from) (sym r.image) ∙ ap (λ (w : AtomTerm). record { value = w; origin = r.item.origin }) (atom_returned number xs one r.item.value (unique_within r.item r.listed)) in
        subst (λ (w : UniqueAt). IsIn w k.assumptions.uniquely_originating) (sym e) r.listed;
  }

  module _ (values_within : (x : Variable) → IsIn x (variables_of_terms k.from_problem.values) → IsIn x xs) where
    -- Terms over these variables, renamed and back, are these terms.
    pub values_returned : (ts : List Term) → ((x : Variable) → IsIn x (variables_of_terms ts) → IsIn x xs) → map (apply_to from) (map (apply_to to) ts) ≡ ts
    values_returned [] w = refl
    values_returned (t ∷ ts) w =
        ap₂ (λ (u : Term) (us : List Term). u ∷ us) (term_returned number xs one t (λ x i. w x (in_append_left (variables_of_terms ts) i))) (values_returned ts (λ x i. w x (in_append_right (variables_of t) i)))

    -- The terms of the map from the problem, back from the second skeleton, are those of the first.
    pub map_returned : map (apply_to from) n.from_problem.values ≡ k.from_problem.values
    map_returned = ap (map (apply_to from)) (sym same.mapped_values) ∙ values_returned k.from_problem.values values_within

    -- The way back is an embedding over the problem.
    pub back_embedding : IsEmbedding n k (with_terms from)
    back_embedding = record {
      homomorphism = back_homomorphism;
      injective = λ a b role height terms role' height' terms' at au e. e;
      same_strands = map_same (λ a. a) (λ a. refl) n.from_problem.strands ∙ sym same.mapped_strands;
      same_values = map_returned;
    }

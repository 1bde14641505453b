-- A skeleton under a substitution stands where the skeleton does, under an assignment that solves it.
use Rattle.std.proofs.Common.{◌≡◌, ◌≢◌, ℕ, zero, suc, List, [], ◌∷◌, ◌++◌, Some, map, refl, sym, ap, ap₂, ◌∙◌, subst, subst₂}
use Rattle.cp_lists.specs.Lists.{item_at, IsIn, one_step, more_steps}
use Rattle.cp_model.specs.Message.{Atom, Message, atom}
use Rattle.cp_model.specs.Term.{AtomTerm, variable_term, Term, variables_of_atom, variables_of, Assignment, value_of, value_of_atom, Substitution, apply_to_atom, apply_to, after, composed, AgreeOn, AgreeOnTerms}
use Rattle.cp_model.specs.Bindings.{Binding, as_substitution}
use Rattle.cp_model.specs.declared.variable.Variable.{Variable}
use Rattle.cp_model.specs.Strand.{payload, event_map, Role, variables_of_trace, prefix_of, variables_of_prefix}
use Rattle.cp_model.specs.declared.strand.Event.{Event}
use Rattle.cp_model.specs.declared.strand.Event.TheVariants.{Send as send, Receive as recv}
use Rattle.cp_model.specs.Bundle.{node_at, event_at, KeepsNon, KeepsPenetratorNon, KeepsUnique, Bundle, Precedes}
use Rattle.cp_model.specs.declared.node.Node.{Node}
use Rattle.cp_model.specs.Skeleton.{SkeletonStrand, instance, listener, skeleton_trace, skeleton_trace_or_none, term_event_at, UniqueAt, Skeleton, OrderStep, along_strand_of, along_pair, Before}
use Rattle.cp_model.specs.Standing.{Standing, image_on, image_of, StandsOnRegular, StandsIn, StandsApart}
use Rattle.cp_model.specs.Homomorphism.{FactorsThrough, Covers}
use Rattle.cp_model.specs.Problem.{variables_of_strands, variables_of_atoms, variables_of_uniques, variables_of_assumptions}
use Rattle.cp_lists.proofs.Members.{in_append_left, in_append_right, from_map}
use Rattle.cp_lists.proofs.Items.{item_of_map}
use Rattle.cp_model.proofs.LawTerms.{value_after, atom_after, term_composed}
use Rattle.cp_theory.specs.Normal.{strand_under, unique_under, skeleton_under, variables_of_terms, IsSolution, terms_under}
use Rattle.cp_model.proofs.LawAgreement.{agree_atom_value, agree_value, agree_event}
use Rattle.cp_model.proofs.DeclaredTerms.{by_bindings}
use Rattle.cp_model.proofs.OccurringVariables.{in_trace_under, in_strands, in_atoms, in_uniques}

-- ---- traces and images under a substitution

-- The variables of the prefix have the composed terms.
pub terms_kept : (s : Substitution) (role : Role) (height : ℕ) (terms : List Binding) → AgreeOnTerms (variables_of_prefix role height) (as_substitution (terms_under s role height terms)) (composed (as_substitution terms) s)
terms_kept s role height terms x i = by_bindings (composed (as_substitution terms) s) (variables_of_prefix role height) x i

pub same_events : (s t : Substitution) (es : List (Event Term)) → AgreeOnTerms (variables_of_trace es) s t → map (event_map (apply_to s)) es ≡ map (event_map (apply_to t)) es
same_events s t [] a = refl
same_events s t (e ∷ es) a =
    ap₂ ◌∷◌ (agree_event s t e (λ x p. a x (in_append_left (variables_of_trace es) p))) (same_events s t es (λ x p. a x (in_append_right (variables_of (payload e)) p)))

event_under : (s t : Substitution) (e : Event Term) → event_map (apply_to (composed t s)) e ≡ event_map (apply_to s) (event_map (apply_to t) e)
event_under s t (send u) = ap send (term_composed t s u)
event_under s t (recv u) = ap recv (term_composed t s u)

pub events_under : (s t : Substitution) (es : List (Event Term)) → map (event_map (apply_to (composed t s))) es ≡ map (event_map (apply_to s)) (map (event_map (apply_to t)) es)
events_under s t [] = refl
events_under s t (e ∷ es) = ap₂ ◌∷◌ (event_under s t e) (events_under s t es)

pub strand_trace_under : (s : Substitution) (st : SkeletonStrand) → skeleton_trace (strand_under s st) ≡ map (event_map (apply_to s)) (skeleton_trace st)
strand_trace_under s (instance role height terms) =
    same_events (as_substitution (terms_under s role height terms)) (composed (as_substitution terms) s) (prefix_of role height) (terms_kept s role height terms)
    ∙ events_under s (as_substitution terms) (prefix_of role height)
strand_trace_under s (listener t) = refl

pub trace_under : (s : Substitution) (ss : List SkeletonStrand) (i : ℕ) → skeleton_trace_or_none (item_at (map (strand_under s) ss) i) ≡ map (event_map (apply_to s)) (skeleton_trace_or_none (item_at ss i))
trace_under s [] i = refl
trace_under s (st ∷ ss) zero = strand_trace_under s st
trace_under s (st ∷ ss) (suc i) = trace_under s ss i

image_strand : (s : Substitution) (st : SkeletonStrand) (start : Node) (i : ℕ) → image_on (Some (strand_under s st)) start i ≡ image_on (Some st) start i
image_strand s (instance role height terms) start i = refl
image_strand s (listener t) start i = refl

image_under : (s : Substitution) (ss : List SkeletonStrand) (j : ℕ) (start : Node) (i : ℕ) → image_on (item_at (map (strand_under s) ss) j) start i ≡ image_on (item_at ss j) start i
image_under s [] j start i = refl
image_under s (st ∷ ss) zero start i = image_strand s st start i
image_under s (st ∷ ss) (suc j) start i = image_under s ss j start i

pub same_image : (s : Substitution) (k : Skeleton) (h : Standing) (n : Node) → image_of (skeleton_under s k) h n ≡ image_of k h n
same_image s k h n = image_under s k.strands n.strand (h.nodes n.strand) n.index

-- The order is the same.
event_of_under : (s : Substitution) (k : Skeleton) (n : Node) (e : Event Term) → term_event_at (skeleton_under s k).strands n ≡ Some e → (f : Event Term) × (term_event_at k.strands n ≡ Some f) × (event_map (apply_to s) f ≡ e)
event_of_under s k n e ev =
    item_of_map (event_map (apply_to s)) (skeleton_trace_or_none (item_at k.strands n.strand)) n.index e (subst (λ (tr : List (Event Term)). item_at tr n.index ≡ Some e) (trace_under s k.strands n.strand) ev)

step_of_under : (s : Substitution) (k : Skeleton) {x y : Node} → OrderStep (skeleton_under s k) x y → OrderStep k x y
step_of_under s k (along_strand_of {s = a} {i = i} {e = e} ev) = along_strand_of (event_of_under s k (node_at a (suc i)) e ev).1
step_of_under s k (along_pair inp) = along_pair inp

pub before_of_under : (s : Substitution) (k : Skeleton) {x y : Node} → Before (skeleton_under s k) x y → Before k x y
before_of_under s k (one_step p) = one_step (step_of_under s k p)
before_of_under s k (more_steps p q) = more_steps (step_of_under s k p) (before_of_under s k q)

-- A role strand stands where one of its role and height does whose values are the same.
pub stands_on_equal : (b : Bundle) (h : Standing) (a : ℕ) (role : Role) (height : ℕ) (s t : List Binding) → StandsOnRegular b h a role height s →
    AgreeOn (variables_of_prefix role height) (after h.values (as_substitution t)) (after h.values (as_substitution s)) → StandsOnRegular b h a role height t
stands_on_equal b h a role height s t st agree = record {
  at_start = st.at_start;
  to_height = st.to_height;
  to_values = st.to_values;
  on_regular = st.on_regular;
  at_least = st.at_least;
  equal_values = λ x i. agree x i ∙ st.equal_values x i;
}

module _ (s : Substitution) (k : Skeleton) (b : Bundle) (h : Standing) (solution : IsSolution h.values s k) where
  abbrev g : Assignment
  g = h.values

  -- Values under the substitution are the values.
  agree_strands : (x : Variable) → IsIn x (variables_of_strands k.strands) → value_of (after g s) (variable_term x) ≡ value_of g (variable_term x)
  agree_strands x p = solution.inside x (in_append_left (variables_of_assumptions k.assumptions) p)

  agree_assumptions : (x : Variable) → IsIn x (variables_of_assumptions k.assumptions) → value_of (after g s) (variable_term x) ≡ value_of g (variable_term x)
  agree_assumptions x p = solution.inside x (in_append_right (variables_of_strands k.strands) p)

  same_atom : (v : AtomTerm) → AgreeOn (variables_of_atom v) (after g s) g → value_of_atom g (apply_to_atom s v) ≡ value_of_atom g v
  same_atom v a = sym (atom_after g s v) ∙ agree_atom_value (after g s) g v a

  same_term : (t : Term) → AgreeOn (variables_of t) (after g s) g → value_of g (apply_to s t) ≡ value_of g t
  same_term t a = sym (value_after g s t) ∙ agree_value (after g s) g t a

  -- Strands.
  abbrev StrandStands : ℕ → SkeletonStrand → Type 0
  StrandStands a (instance role height terms) = StandsOnRegular b h a role height terms
  StrandStands a (listener t) = event_at b.strands (h.nodes a) ≡ Some (recv (value_of g t))

  instance_under : (a : ℕ) (role : Role) (height : ℕ) (terms : List Binding) → item_at k.strands a ≡ Some (instance role height terms) → StandsOnRegular b h a role height terms → StandsOnRegular b h a role height (terms_under s role height terms)
  instance_under a role height terms at st = stands_on_equal b h a role height terms (terms_under s role height terms) st (λ x inx.
      value_after g (as_substitution (terms_under s role height terms)) (variable_term x)
      ∙ ap (value_of g) (terms_kept s role height terms x inx ∙ term_composed (as_substitution terms) s (variable_term x))
      ∙ same_term (apply_to (as_substitution terms) (variable_term x)) (λ y iny. agree_strands y (in_strands k.strands a (instance role height terms) y at (in_trace_under (as_substitution terms) (prefix_of role height) x y inx iny)))
      ∙ sym (value_after g (as_substitution terms) (variable_term x)))

  strand_stands : StandsIn k b h → (a : ℕ) (st : SkeletonStrand) → item_at k.strands a ≡ Some st → StrandStands a (strand_under s st)
  strand_stands stands a (instance role height terms) at = instance_under a role height terms at (stands.instances a role height terms at)
  strand_stands stands a (listener t) at =
      stands.listeners a t at ∙ ap (λ (m : Message). Some (recv m)) (sym (same_term t (λ x p. agree_strands x (in_strands k.strands a (listener t) x at (in_append_left (variables_of t ++ []) p)))))

  strand_stands_under : StandsIn k b h → (a : ℕ) (st : SkeletonStrand) → item_at (skeleton_under s k).strands a ≡ Some st → StrandStands a st
  strand_stands_under stands a st at =
      let m = item_of_map (strand_under s) k.strands a st at in
      subst (StrandStands a) m.2 (strand_stands stands a m.0 m.1)

  ordered_under : StandsIn k b h → (x y : Node) → Before (skeleton_under s k) x y → x.strand ≢ y.strand → Precedes b (image_of (skeleton_under s k) h x) (image_of (skeleton_under s k) h y)
  ordered_under stands x y before ne = subst₂ (Precedes b) (sym (same_image s k h x)) (sym (same_image s k h y)) (stands.ordered x y (before_of_under s k before) ne)

  -- What the substitution makes of an assumed atom has the atom's value.
  value_kept : (vs : List AtomTerm) → ((x : Variable) → IsIn x (variables_of_atoms vs) → IsIn x (variables_of_assumptions k.assumptions)) → (v : AtomTerm) → IsIn v (map (apply_to_atom s) vs) → (w : AtomTerm) × IsIn w vs × (value_of_atom g w ≡ value_of_atom g v)
  value_kept vs among v inv =
      let m = from_map (apply_to_atom s) vs inv in
      (m.0, m.1, sym (same_atom m.0 (λ x p. agree_assumptions x (among x (in_atoms vs m.0 x m.1 p)))) ∙ ap (value_of_atom g) m.2)

  non_under : StandsIn k b h → (v : AtomTerm) → IsIn v (skeleton_under s k).assumptions.non_originating → KeepsNon b.strands (atom (value_of_atom g v))
  non_under stands v inv =
      let m = value_kept k.assumptions.non_originating (λ x p. in_append_left (variables_of_uniques k.assumptions.uniquely_originating) (in_append_left (variables_of_atoms k.assumptions.penetrator_non_originating) p)) v inv in
      subst (λ (w : Atom). KeepsNon b.strands (atom w)) m.2 (stands.non m.0 m.1)

  penetrator_non_under : StandsIn k b h → (v : AtomTerm) → IsIn v (skeleton_under s k).assumptions.penetrator_non_originating → KeepsPenetratorNon b.strands (atom (value_of_atom g v))
  penetrator_non_under stands v inv =
      let m = value_kept k.assumptions.penetrator_non_originating (λ x p. in_append_left (variables_of_uniques k.assumptions.uniquely_originating) (in_append_right (variables_of_atoms k.assumptions.non_originating) p)) v inv in
      subst (λ (w : Atom). KeepsPenetratorNon b.strands (atom w)) m.2 (stands.penetrator_non m.0 m.1)

  unique_value_under : StandsIn k b h → (u : UniqueAt) → IsIn u k.assumptions.uniquely_originating → KeepsUnique b.strands (atom (value_of_atom g (apply_to_atom s u.value))) (image_of (skeleton_under s k) h u.origin)
  unique_value_under stands u inu =
      let same : value_of_atom g (apply_to_atom s u.value) ≡ value_of_atom g u.value =
      same_atom u.value (λ x p. agree_assumptions x (in_append_right (variables_of_atoms k.assumptions.non_originating ++ variables_of_atoms k.assumptions.penetrator_non_originating) (in_uniques k.assumptions.uniquely_originating u x inu p))) in
      subst₂ (λ (w : Atom) (n : Node). KeepsUnique b.strands (atom w) n) (sym same) (sym (same_image s k h u.origin)) (stands.unique u inu)

  unique_stands_under : StandsIn k b h → (u : UniqueAt) → IsIn u (skeleton_under s k).assumptions.uniquely_originating → KeepsUnique b.strands (atom (value_of_atom g u.value)) (image_of (skeleton_under s k) h u.origin)
  unique_stands_under stands u inu =
      let m = from_map (unique_under s) k.assumptions.uniquely_originating inu in
      subst (λ (w : UniqueAt). KeepsUnique b.strands (atom (value_of_atom g w.value)) (image_of (skeleton_under s k) h w.origin)) m.2 (unique_value_under stands m.0 m.1)

  pub stands_under : StandsIn k b h → StandsIn (skeleton_under s k) b h
  stands_under stands = record {
    instances = λ a role height terms at. strand_stands_under stands a (instance role height terms) at;
    listeners = λ a t at. strand_stands_under stands a (listener t) at;
    ordered = ordered_under stands;
    non = non_under stands;
    penetrator_non = penetrator_non_under stands;
    unique = unique_stands_under stands;
  }

instance_of_strand : (s : Substitution) (st : SkeletonStrand) (role : Role) (height : ℕ) (terms : List Binding) → strand_under s st ≡ instance role height terms → (t : List Binding) × (st ≡ instance role height t) × (terms_under s role height t ≡ terms)
instance_of_strand s (instance role' height' terms') role height terms e = let p : role' ≡ role = cc in let q : height' ≡ height = cc in let r : terms_under s role' height' terms' ≡ terms = cc in (terms', cc, ap₂ (λ (d : Role) (m : ℕ). terms_under s d m terms') (sym p) (sym q) ∙ r)
instance_of_strand s (listener t) role height terms e = absurd (cc)

pub instance_of_under : (s : Substitution) (k : Skeleton) (a : ℕ) (role : Role) (height : ℕ) (terms : List Binding) → item_at (skeleton_under s k).strands a ≡ Some (instance role height terms) →
    (t : List Binding) × (item_at k.strands a ≡ Some (instance role height t)) × (terms_under s role height t ≡ terms)
instance_of_under s k a role height terms at =
    let m = item_of_map (strand_under s) k.strands a (instance role height terms) at in
    let i = instance_of_strand s m.0 role height terms m.2 in
    (i.0, m.1 ∙ ap Some i.1, i.2)

pub apart_under : (s : Substitution) (k : Skeleton) (h : Standing) → StandsApart k h → StandsApart (skeleton_under s k) h
apart_under s k h apart x y role height terms role' height' terms' at au e =
    let i = instance_of_under s k x role height terms at in
    let j = instance_of_under s k y role' height' terms' au in
    apart x y role height i.0 role' height' j.0 i.1 j.1 e

values_under : (s : Substitution) (g : Assignment) (ts : List Term) → AgreeOn (variables_of_terms ts) (after g s) g → map (value_of g) ts ≡ map (value_of g) (map (apply_to s) ts)
values_under s g [] a = refl
values_under s g (t ∷ ts) a =
    ap₂ ◌∷◌ (sym (agree_value (after g s) g t (λ x p. a x (in_append_left (variables_of_terms ts) p))) ∙ value_after g s t)
    (values_under s g ts (λ x p. a x (in_append_right (variables_of t) p)))

pub factors_under : (s : Substitution) (k : Skeleton) (h : Standing) → IsSolution h.values s k → FactorsThrough k h (skeleton_under s k) h
factors_under s k h solution = record { strands = refl; values = values_under s h.values k.from_problem.values solution.of_problem }

pub factors_then : (problem k l : Skeleton) (f h g : Standing) → FactorsThrough problem f k h → FactorsThrough k h l g → FactorsThrough problem f l g
factors_then problem k l f h g first second = record { strands = first.strands ∙ second.strands; values = first.values ∙ second.values }

-- Where the standing of a problem factors through that of k, and this one through that of a skeleton of the list, the list covers it.
pub covers_then : (problem k l : Skeleton) (ks : List Skeleton) (b : Bundle) (f h g : Standing) → IsIn l ks → StandsIn l b g → StandsApart l g → FactorsThrough problem f k h → FactorsThrough k h l g → Covers ks problem b f
covers_then problem k l ks b f h g listed stands apart first second = record { skeleton = l; listed = listed; standing = g; stands = stands; apart = apart; factors = factors_then problem k l f h g first second }

-- Skeletons that have grown out of one that stands, and stand where it does.
use Rattle.std.proofs.Common.{◌≡◌, ℕ, [], ◌++◌, Some, refl, sym, ap, ◌∙◌, subst, ◌⊎◌, ⊎_elim, List}
use Rattle.std.proofs.Common.{subst₂}
use Rattle.cp_lists.specs.Lists.{item_at, IsIn, one_step}
use Rattle.cp_lists.proofs.Members.{in_append_left, in_append_right, in_pushed}
use Rattle.cp_model.specs.Message.{Atom, Message, atom}
use Rattle.cp_model.specs.Term.{AtomTerm, variable_term, variables_of, Assignment, value_of, value_of_atom, after, AgreeOn, apply_to}
use Rattle.cp_model.specs.Bindings.{Binding, as_substitution}
use Rattle.cp_model.specs.Strand.{Role, Protocol, prefix_of, variables_of_prefix}
use Rattle.cp_model.specs.declared.strand.Event.TheVariants.{Send as send, Receive as recv}
use Rattle.cp_model.specs.Bundle.{event_at, KeepsNon, KeepsPenetratorNon, KeepsUnique, Bundle, Precedes, IsBundle}
use Rattle.cp_model.specs.declared.node.Node.{Node}
use Rattle.cp_model.specs.declared.node.OrderPair.{OrderPair}
use Rattle.cp_model.specs.Skeleton.{SkeletonStrand, instance, listener, IsNodeOf, UniqueAt, Skeleton, along_pair, Before, IsSkeleton}
use Rattle.cp_model.specs.Standing.{Standing, image_of, StandsOnRegular, StandsIn, StandsApart}
use Rattle.cp_model.specs.Problem.{variables_of_strands, variables_of_atoms, variables_of_uniques, variables_of_assumptions}
use Rattle.cp_model.proofs.LawTerms.{value_after}
use Rattle.cp_model.proofs.LawAgreement.{agree_atom_value, agree_value}
use Rattle.cp_theory.specs.Normal.{variables_of_terms}
use Rattle.cp_model.proofs.OccurringVariables.{in_trace_under, in_strands, in_atoms, in_uniques}
use Rattle.cp_theory.proofs.Pairs.{ordered, no_cycle}
use Rattle.cp_theory.specs.Critical.{used_variables}
use Rattle.cp_theory.specs.Covering.{put_before}

-- A strand stands.
abbrev pub StrandStands : Bundle → Standing → ℕ → SkeletonStrand → Type 0
StrandStands b h a (instance role height terms) = StandsOnRegular b h a role height terms
StrandStands b h a (listener t) = event_at b.strands (h.nodes a) ≡ Some (recv (value_of h.values t))

pub strand_stands : (k : Skeleton) (b : Bundle) (h : Standing) → StandsIn k b h → (a : ℕ) (st : SkeletonStrand) → item_at k.strands a ≡ Some st → StrandStands b h a st
strand_stands k b h stands a (instance role height terms) at = stands.instances a role height terms at
strand_stands k b h stands a (listener t) at = stands.listeners a t at

-- It stands by other values, where they agree on the variables of the strands.
module _ (k : Skeleton) (b : Bundle) (h g : Standing) (agree : AgreeOn (variables_of_strands k.strands) h.values g.values) where
  pub equal_by : (a : ℕ) (role : Role) (height : ℕ) (terms : List Binding) (f : Assignment) → item_at k.strands a ≡ Some (instance role height terms) → AgreeOn (variables_of_prefix role height) (after h.values (as_substitution terms)) f →
      AgreeOn (variables_of_prefix role height) (after g.values (as_substitution terms)) f
  equal_by a role height terms f at equal x inx =
      value_after g.values (as_substitution terms) (variable_term x)
      ∙ sym (agree_value h.values g.values (apply_to (as_substitution terms) (variable_term x)) (λ y iny. agree y (in_strands k.strands a (instance role height terms) y at (in_trace_under (as_substitution terms) (prefix_of role height) x y inx iny))))
      ∙ sym (value_after h.values (as_substitution terms) (variable_term x))
      ∙ equal x inx

  pub strand_by : (a : ℕ) (st : SkeletonStrand) → item_at k.strands a ≡ Some st → h.nodes a ≡ g.nodes a → StrandStands b h a st → StrandStands b g a st
  strand_by a (instance role height terms) at same st = record {
    at_start = ap (λ (n : Node). n.index) (sym same) ∙ st.at_start;
    to_height = st.to_height;
    to_values = st.to_values;
    on_regular = ap (λ (n : Node). item_at b.strands n.strand) (sym same) ∙ st.on_regular;
    at_least = st.at_least;
    equal_values = equal_by a role height terms st.to_values at st.equal_values;
  }
  strand_by a (listener t) at same st =
      ap (event_at b.strands) (sym same) ∙ st
      ∙ ap (λ (m : Message). Some (recv m)) (agree_value h.values g.values t (λ x p. agree x (in_strands k.strands a (listener t) x at (in_append_left (variables_of t ++ []) p))))

-- Assumptions by other values.
module _ (k : Skeleton) (b : Bundle) (h g : Standing) (agree : AgreeOn (variables_of_assumptions k.assumptions) h.values g.values) where
  same_non : (v : AtomTerm) → IsIn v k.assumptions.non_originating → value_of_atom h.values v ≡ value_of_atom g.values v
  same_non v i = agree_atom_value h.values g.values v (λ x p. agree x (in_append_left (variables_of_uniques k.assumptions.uniquely_originating) (in_append_left (variables_of_atoms k.assumptions.penetrator_non_originating) (in_atoms k.assumptions.non_originating v x i p))))

  same_penetrator_non : (v : AtomTerm) → IsIn v k.assumptions.penetrator_non_originating → value_of_atom h.values v ≡ value_of_atom g.values v
  same_penetrator_non v i = agree_atom_value h.values g.values v (λ x p. agree x (in_append_left (variables_of_uniques k.assumptions.uniquely_originating) (in_append_right (variables_of_atoms k.assumptions.non_originating) (in_atoms k.assumptions.penetrator_non_originating v x i p))))

  same_unique : (u : UniqueAt) → IsIn u k.assumptions.uniquely_originating → value_of_atom h.values u.value ≡ value_of_atom g.values u.value
  same_unique u i = agree_atom_value h.values g.values u.value (λ x p. agree x (in_append_right (variables_of_atoms k.assumptions.non_originating ++ variables_of_atoms k.assumptions.penetrator_non_originating) (in_uniques k.assumptions.uniquely_originating u x i p)))

  pub non_by : StandsIn k b h → (v : AtomTerm) → IsIn v k.assumptions.non_originating → KeepsNon b.strands (atom (value_of_atom g.values v))
  non_by stands v i = subst (λ (a : Atom). KeepsNon b.strands (atom a)) (same_non v i) (stands.non v i)

  pub penetrator_non_by : StandsIn k b h → (v : AtomTerm) → IsIn v k.assumptions.penetrator_non_originating → KeepsPenetratorNon b.strands (atom (value_of_atom g.values v))
  penetrator_non_by stands v i = subst (λ (a : Atom). KeepsPenetratorNon b.strands (atom a)) (same_penetrator_non v i) (stands.penetrator_non v i)

  pub unique_by : StandsIn k b h → (u : UniqueAt) → IsIn u k.assumptions.uniquely_originating → (n : Node) → n ≡ image_of k h u.origin → KeepsUnique b.strands (atom (value_of_atom g.values u.value)) n
  unique_by stands u i n same = subst₂ (λ (a : Atom) (m : Node). KeepsUnique b.strands (atom a) m) (same_unique u i) (sym same) (stands.unique u i)

pub inside_strands : (k : Skeleton) (g f : Assignment) → AgreeOn (used_variables k) g f → AgreeOn (variables_of_strands k.strands) g f
inside_strands k g f agree x i = agree x (in_append_left (variables_of_terms k.from_problem.values) (in_append_left (variables_of_assumptions k.assumptions) i))

pub inside_assumptions : (k : Skeleton) (g f : Assignment) → AgreeOn (used_variables k) g f → AgreeOn (variables_of_assumptions k.assumptions) g f
inside_assumptions k g f agree x i = agree x (in_append_left (variables_of_terms k.from_problem.values) (in_append_right (variables_of_strands k.strands) i))

-- A skeleton stands by other values that agree on its variables.
pub stands_by_values : (k : Skeleton) (b : Bundle) (h : Standing) (f : Assignment) → AgreeOn (used_variables k) h.values f → StandsIn k b h → StandsIn k b (record { nodes = h.nodes; values = f })
stands_by_values k b h f agree stands =
    let g : Standing = record { nodes = h.nodes; values = f } in
    let strands = inside_strands k h.values f agree in
    let assumptions = inside_assumptions k h.values f agree in
    record {
      instances = λ a role height terms at. strand_by k b h g strands a (instance role height terms) at refl (stands.instances a role height terms at);
      listeners = λ a t at. strand_by k b h g strands a (listener t) at refl (stands.listeners a t at);
      ordered = stands.ordered;
      non = non_by k b h g assumptions stands;
      penetrator_non = penetrator_non_by k b h g assumptions stands;
      unique = λ u i. unique_by k b h g assumptions stands u i (image_of k g u.origin) refl;
    }

-- A skeleton e that has grown out of k, and stands by g but for its order: its strands stand, those of k where they stood,
-- and apart; it has the pairs of k; and each of its assumptions is one of k's, or kept.
pub record HasGrown (k e : Skeleton) (b : Bundle) (h g : Standing) : Type 0 where
  pub values : AgreeOn (used_variables k) h.values g.values
  pub nodes : (a : ℕ) (st : SkeletonStrand) → item_at k.strands a ≡ Some st → h.nodes a ≡ g.nodes a
  pub strands : (a : ℕ) (st : SkeletonStrand) → item_at e.strands a ≡ Some st → StrandStands b g a st
  pub images : (y : Node) → IsNodeOf k.strands y → image_of e g y ≡ image_of k h y
  pub pairs : e.pairs ≡ k.pairs
  pub non : (v : AtomTerm) → IsIn v e.assumptions.non_originating → IsIn v k.assumptions.non_originating ⊎ KeepsNon b.strands (atom (value_of_atom g.values v))
  pub penetrator_non : (v : AtomTerm) → IsIn v e.assumptions.penetrator_non_originating → IsIn v k.assumptions.penetrator_non_originating ⊎ KeepsPenetratorNon b.strands (atom (value_of_atom g.values v))
  pub unique : (u : UniqueAt) → IsIn u e.assumptions.uniquely_originating → IsIn u k.assumptions.uniquely_originating ⊎ KeepsUnique b.strands (atom (value_of_atom g.values u.value)) (image_of e g u.origin)
  pub apart : StandsApart e g
  pub from_problem : e.from_problem ≡ k.from_problem

-- It has grown at strand a: there it has an instance of this role and height, which goes to this strand of the bundle, with
-- these values.
pub record HasGrownAt (k e : Skeleton) (b : Bundle) (h : Standing) (a : ℕ) (role : Role) (height strand : ℕ) (values : Assignment) : Type 0 where
  pub standing : Standing
  pub grown : HasGrown k e b h standing
  pub terms : List Binding
  pub there : item_at e.strands a ≡ Some (instance role height terms)
  pub equal : AgreeOn (variables_of_prefix role height) (after standing.values (as_substitution terms)) values
  pub to : (standing.nodes a).strand ≡ strand

module _ (protocol : Protocol) (k e : Skeleton) (b : Bundle) (h g : Standing) (m n : Node) (sk : IsSkeleton protocol k) (stands : StandsIn k b h) (grown : HasGrown k e b h g)
    (precedes : Precedes b (image_of e g m) (image_of e g n)) where
  old_pair : (p : OrderPair) → IsIn p k.pairs → Precedes b (image_of e g p.earlier) (image_of e g p.later)
  old_pair p i =
      let o = sk.order_pairs p i in
      subst₂ (Precedes b) (sym (grown.images p.earlier (send o.sent, o.transmission))) (sym (grown.images p.later (recv o.received, o.reception)))
      (stands.ordered p.earlier p.later (one_step (along_pair i)) o.between_strands)

  pair_precedes : (p : OrderPair) → IsIn p (put_before m n e).pairs → Precedes b (image_of e g p.earlier) (image_of e g p.later)
  pair_precedes p i = ⊎_elim (λ j. old_pair p (subst (IsIn p) grown.pairs j))
      (λ (same : record { earlier = m; later = n } ≡ p). subst (λ (q : OrderPair). Precedes b (image_of e g q.earlier) (image_of e g q.later)) same precedes)
      (in_pushed e.pairs (record { earlier = m; later = n }) p i)

  origin_image : (u : UniqueAt) → IsIn u k.assumptions.uniquely_originating → image_of e g u.origin ≡ image_of k h u.origin
  origin_image u i = let o = sk.origins u i in grown.images u.origin (send o.sent, o.transmission)

  -- With m put before n it stands, where the image of m precedes that of n.
  pub grown_stands : StandsIn (put_before m n e) b g
  grown_stands =
      let assumptions = inside_assumptions k h.values g.values grown.values in
      record {
        instances = λ a role height terms at. grown.strands a (instance role height terms) at;
        listeners = λ a t at. grown.strands a (listener t) at;
        ordered = ordered (put_before m n e) b g (λ a role height terms at. grown.strands a (instance role height terms) at) pair_precedes;
        non = λ v i. ⊎_elim (non_by k b h g assumptions stands v) (λ q. q) (grown.non v i);
        penetrator_non = λ v i. ⊎_elim (penetrator_non_by k b h g assumptions stands v) (λ q. q) (grown.penetrator_non v i);
        unique = λ u i. ⊎_elim (λ j. unique_by k b h g assumptions stands u j (image_of e g u.origin) (origin_image u j)) (λ q. q) (grown.unique u i);
      }

  -- And its order has no cycle.
  pub grown_acyclic : IsBundle protocol b → (y : Node) → Before (put_before m n e) y y → ⊥
  grown_acyclic is y before = no_cycle (put_before m n e) b g (λ a role height terms at. grown.strands a (instance role height terms) at) pair_precedes protocol y is before

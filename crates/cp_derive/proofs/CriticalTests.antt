-- The first component of a received message that cannot be derived makes a test.
use Rattle.std.proofs.Common.{◌≡◌, List, [], ◌∷◌, Option, Some, sym, ap, subst, ◌∙◌, ⊎_elim}
use Rattle.std.specs.Prelude.{◌↔◌}
use Rattle.cp_lists.specs.Lists.{IsIn, here, item_at}
use Rattle.cp_lists.proofs.Members.{only_item, in_append, in_append_right, from_map}
use Rattle.cp_model.specs.Term.{Term, tag_term, atom_term, pair_term, enc_term}
use Rattle.cp_model.specs.declared.node.Node.{Node}
use Rattle.cp_model.specs.Skeleton.{Skeleton, SkeletonStrand, skeleton_trace, skeleton_trace_or_none, term_event_at}
use Rattle.cp_model.specs.Derivable.{DerivableAt}
use Rattle.cp_model.specs.declared.step.Step.{Step}
use Rattle.cp_model.specs.declared.step.Step.TheVariants.{Left, Right}
use Rattle.cp_model.specs.declared.strand.Event.{Event}
use Rattle.cp_model.specs.declared.strand.Event.TheVariants.{Receive as recv}
use Rattle.cp_derive.specs.Components.{Component, components_below, components_of, IsFirstUnderivable}
use Rattle.cp_derive.specs.Given.{Given, IsDerivable}
use Rattle.cp_derive.specs.Unrealised.{IsRealisedAt}
use Rattle.cp_theory.specs.Critical.{whole_part, part_of_left, part_of_right, IsComponent, IsTest}

-- The one component of what is no pair is the whole.
alone : (d : Component) (t : Term) → ((a b : Term) → t ≡ pair_term a b → ⊥) → IsIn d (record { path = []; term = t } ∷ []) → IsComponent d.term t
alone d t none i =
    let same : d.term ≡ t = ap (λ (c : Component). c.term) (only_item i) in
    subst (λ (u : Term). IsComponent u t) (sym same) (record { part = whole_part; no_pair = none })

component : (t : Term) (d : Component) → IsIn d (components_of t) → IsComponent d.term t
component (tag_term bytes) d i = alone d (tag_term bytes) (λ a b e. cc) i
component (atom_term v) d i = alone d (atom_term v) (λ a b e. cc) i
component (enc_term body key) d i = alone d (enc_term body key) (λ a b e. cc) i
component (pair_term a b) d i =
    ⊎_elim
    (λ (j : IsIn d (components_below Left (components_of a))).
    let m = from_map (λ (c : Component). record { path = Left ∷ c.path; term = c.term }) (components_of a) j in
    let r = component a m.0 m.1 in
    let same : m.0.term ≡ d.term = ap (λ (c : Component). c.term) m.2 in
    subst (λ (u : Term). IsComponent u (pair_term a b)) same (record { part = part_of_left r.part; no_pair = r.no_pair }))
    (λ (j : IsIn d (components_below Right (components_of b))).
    let m = from_map (λ (c : Component). record { path = Right ∷ c.path; term = c.term }) (components_of b) j in
    let r = component b m.0 m.1 in
    let same : m.0.term ≡ d.term = ap (λ (c : Component). c.term) m.2 in
    subst (λ (u : Term). IsComponent u (pair_term a b)) same (record { part = part_of_right r.part; no_pair = r.no_pair }))
    (in_append (components_below Left (components_of a)) (components_below Right (components_of b)) i)

pub critical_is_test : (k : Skeleton) (n : Node) (m : Term) (path : List Step) (c : Term) → term_event_at k.strands n ≡ Some (recv m) → IsFirstUnderivable (DerivableAt k n) m path c → IsTest k n c
critical_is_test k n m path c reception critical =
    let found : Component = record { path = path; term = c } in
    let among : IsIn found (components_of m) = subst (IsIn found) (sym critical.among) (in_append_right critical.before here) in
    record {
      message = m;
      reception = reception;
      component = component m found among;
      underivable = critical.underivable;
    }

-- What cannot be derived from what is known at a node cannot be derived there.
pub first_there : (k : Skeleton) (n : Node) (g : Given) → ((t : Term) → IsDerivable g t ↔ DerivableAt k n t) → (m : Term) (path : List Step) (c : Term) → IsFirstUnderivable (IsDerivable g) m path c →
    IsFirstUnderivable (DerivableAt k n) m path c
first_there k n g exact m path c f = record {
  before = f.before;
  after = f.after;
  among = f.among;
  underivable = λ d. f.underivable ((exact c).1 d);
  derivable = λ d i. (exact d.term).0 (f.derivable d i);
}

-- The event of a strand is the one at the node.
pub event_there : (k : Skeleton) (n : Node) (s : SkeletonStrand) (e : Option (Event Term)) → item_at k.strands n.strand ≡ Some s → e ≡ item_at (skeleton_trace s) n.index → term_event_at k.strands n ≡ e
event_there k n s e at is = ap (λ (o : Option SkeletonStrand). item_at (skeleton_trace_or_none o) n.index) at ∙ sym is

-- A node that receives what can be derived there is realised.
pub realised_by : (k : Skeleton) (n : Node) (m : Term) → term_event_at k.strands n ≡ Some (recv m) → DerivableAt k n m → IsRealisedAt k n
realised_by k n m at derivable t also =
    let events : Some (recv m) ≡ Some (recv t) = sym at ∙ also in
    let same : m ≡ t = cc in
    subst (DerivableAt k n) same derivable

-- The first component of the message that a node receives is the same, whatever the message is called.
pub first_received : (k : Skeleton) (n : Node) (m : Term) (path : List Step) (c : Term) → term_event_at k.strands n ≡ Some (recv m) → IsFirstUnderivable (DerivableAt k n) m path c →
    (t : Term) → term_event_at k.strands n ≡ Some (recv t) → (path : List Step) × IsFirstUnderivable (DerivableAt k n) t path c
first_received k n m path c at first t also =
    let events : Some (recv m) ≡ Some (recv t) = sym at ∙ also in
    let same : m ≡ t = cc in
    (path, subst (λ (x : Term). IsFirstUnderivable (DerivableAt k n) x path c) same first)

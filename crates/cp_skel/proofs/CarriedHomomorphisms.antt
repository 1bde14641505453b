-- A skeleton that is changed goes on to carry the homomorphism from its problem, to keep what that states itself, and to be
-- sound.
use Rattle.std.proofs.Common.{◌≡◌, ◌≢◌, ◌⊎◌, inl, inr, ℕ, zero, suc, ◌<◌, ◌≤◌, List, [], ◌∷◌, ◌++◌, map, length, refl, sym, ap, ◌∙◌, subst, le_trans, le_refl, lt_of_lt_of_le, arith}
use Rattle.std.specs.Prelude.{Some}
use Rattle.std.proofs.lemmas.Bool.{cases_eq}
use Rattle.cp_lists.specs.Lists.{item_at, IsIn, there, one_step, more_steps}
use Rattle.cp_model.specs.Term.{AtomTerm, Term, apply_to, apply_to_atom, AgreeOnTerms}
use Rattle.cp_model.specs.Bindings.{Binding, as_substitution}
use Rattle.cp_model.specs.declared.variable.Declaration.{Declaration}
use Rattle.cp_model.specs.Strand.{Role, Protocol, variables_of_prefix}
use Rattle.cp_model.specs.Bundle.{node_at}
use Rattle.cp_model.specs.declared.node.Node.{Node}
use Rattle.cp_model.specs.Skeleton.{SkeletonStrand, instance, listener, UniqueAt, Assumptions, FromProblem, Skeleton, skeleton_of, OrderStep, along_strand_of, along_pair, Before, IsOrderPair, IsOrigin, GivesAssumptions, IsSkeleton}
use Rattle.cp_model.specs.declared.node.OrderPair.{OrderPair}
use Rattle.cp_model.specs.Homomorphism.{SkeletonMap, mapped, GoesToInstance, IsHomomorphism, substitution_by, strand_in, map_from_problem, CarriesHomomorphism}
use Rattle.cp_model.specs.Stated.{KeepsStated}
use Rattle.cp_lists.proofs.Members.{in_append_left}
use Rattle.cp_model.proofs.LawPrefixes.{variables_of_higher}
use Rattle.cp_lists.proofs.Items.{item_below, item_there}
use Rattle.cp_model.proofs.StatedStays.{HasAssumptionsOf, own_stays, stated_stays}
use Rattle.cp_model.specs.GivenAssumptions.{AddsOnce}
use Rattle.cp_model.specs.Extensions.{AddsListener, AddsStrand, CanExtend, Extends}
use Rattle.cp_skel.specs.Ordered.{IsOrdered, ordered_by, DiffersInOrder}
use Rattle.cp_skel.specs.KeptByChanges.{KeptByChanges}
use Rattle.cp_skel.specs.Sound.{IsSound}
use Rattle.cp_model.specs.Declares.{DeclaresItsVariables}
use Rattle.cp_skel.proofs.Grown.{Grows}
use Rattle.cp_skel.proofs.OrderKept.{more_ordered}
use Rattle.cp_skel.proofs.StaySkeletons.{stays, appended-grows, extended-grows}

-- ---- what is kept

-- What one skeleton says another says too, at the same strands, and with the same way from the problem.
pub record SaysMore (old new : Skeleton) : Type 0 where
  pub instances : (s : ℕ) (role : Role) (height : ℕ) (terms : List Binding) → item_at old.strands s ≡ Some (instance role height terms) →
      (h : ℕ) × (ts : List Binding) × (item_at new.strands s ≡ Some (instance role h ts)) × (height ≤ h) × AgreeOnTerms (variables_of_prefix role height) (as_substitution terms) (as_substitution ts)
  pub listeners : (s : ℕ) (t : Term) → item_at old.strands s ≡ Some (listener t) → item_at new.strands s ≡ Some (listener t)
  pub ordered : (x y : Node) → Before old x y → Before new x y
  pub non : (v : AtomTerm) → IsIn v old.assumptions.non_originating → IsIn v new.assumptions.non_originating
  pub penetrator_non : (v : AtomTerm) → IsIn v old.assumptions.penetrator_non_originating → IsIn v new.assumptions.penetrator_non_originating
  pub unique : (u : UniqueAt) → IsIn u old.assumptions.uniquely_originating → IsIn u new.assumptions.uniquely_originating
  pub from_problem : new.from_problem ≡ old.from_problem

module _ (problem old new : Skeleton) (more : SaysMore old new) (carries : CarriesHomomorphism problem old) where
  abbrev f : SkeletonMap
  f = map_from_problem old

  instance_goes : (s : ℕ) (role : Role) (height : ℕ) (terms : List Binding) → item_at problem.strands s ≡ Some (instance role height terms) → GoesToInstance new f s role height terms
  instance_goes s role height terms at =
      let first = carries.homomorphism.instances s role height terms at in
      let second = more.instances (f.strands s) role first.to_height first.to_terms first.on_instance in
      let low = first.at_least in
      record {
        to_height = second.0;
        to_terms = second.1;
        on_instance = second.2;
        at_least = le_trans low second.3;
        equal_terms = λ x i. first.equal_terms x i ∙ second.4 x (variables_of_higher role height first.to_height low x i);
      }

  still_homomorphism : IsHomomorphism problem new f
  still_homomorphism = record {
    instances = instance_goes;
    listeners = λ s t at. more.listeners (f.strands s) (apply_to f.terms t) (carries.homomorphism.listeners s t at);
    ordered = λ x y before. more.ordered (mapped f x) (mapped f y) (carries.homomorphism.ordered x y before);
    non = λ v i. more.non (apply_to_atom f.terms v) (carries.homomorphism.non v i);
    penetrator_non = λ v i. more.penetrator_non (apply_to_atom f.terms v) (carries.homomorphism.penetrator_non v i);
    unique = λ u i. more.unique (record { value = apply_to_atom f.terms u.value; origin = mapped f u.origin }) (carries.homomorphism.unique u i);
  }

  pub carries_on : CarriesHomomorphism problem new
  carries_on =
      let back : old.from_problem ≡ new.from_problem = sym more.from_problem in
      record {
        homomorphism = subst (λ (p : FromProblem). IsHomomorphism problem new (record { strands = strand_in p.strands; terms = substitution_by p.values })) back still_homomorphism;
        strands = subst (λ (p : FromProblem). map (strand_in p.strands) problem.from_problem.strands ≡ p.strands) back carries.strands;
        values = subst (λ (p : FromProblem). map (apply_to (substitution_by p.values)) problem.from_problem.values ≡ p.values) back carries.values;
      }

-- ---- what a skeleton has from its problem

all_below : (m n : ℕ) → ((s : ℕ) → s < m → s < n) → m ≤ n
all_below zero n h = omega arith
all_below (suc m) n h = let l : m < n = h m (omega arith) in omega (arith, l)

module _ (old new : Skeleton) (more : SaysMore old new) where
  strand_too : (s : ℕ) (st : SkeletonStrand) → item_at old.strands s ≡ Some st → s < length new.strands
  strand_too s (instance role height terms) at = let r = more.instances s role height terms at in item_below new.strands s (instance role r.0 r.1) r.2
  strand_too s (listener t) at = item_below new.strands s (listener t) (more.listeners s t at)

  as_many : length old.strands ≤ length new.strands
  as_many = all_below (length old.strands) (length new.strands) (λ s below. let st = item_there old.strands s below in strand_too s st.0 st.1)

  has_assumptions : HasAssumptionsOf old new
  has_assumptions = record { non = more.non; penetrator_non = more.penetrator_non; unique = more.unique }

  pub keeps_stated : (problem : Skeleton) → KeepsStated problem old → KeepsStated problem new
  keeps_stated problem = stated_stays problem old new (sym more.from_problem) as_many has_assumptions more.ordered

  -- A sound skeleton that says more than it did, and is one over a protocol whose roles declare their variables, is sound.
  pub sound_on : (protocol : Protocol) → ((role : Role) → IsIn role protocol.roles → DeclaresItsVariables role) → IsSkeleton protocol new → IsSound old → IsSound new
  sound_on protocol declared skeleton s = record {
    protocol = protocol;
    declared = declared;
    skeleton = skeleton;
    in_range = λ n i. lt_of_lt_of_le (s.in_range n (subst (λ (f : FromProblem). IsIn n f.strands) more.from_problem i)) as_many;
    assumed = own_stays old new (sym more.from_problem) has_assumptions s.assumed;
    ordered = λ p i. more.ordered p.earlier p.later (s.ordered p (subst (λ (f : FromProblem). IsIn p f.pairs) more.from_problem i));
  }

-- ---- strands more, and a longer one

module _ (old new : Skeleton) (grows : Grows old new) where
  step_too : {x y : Node} → OrderStep old x y → OrderStep new x y
  step_too (along_strand_of {s = s} {i = i} {e = e} at) = along_strand_of (grows.events (node_at s (suc i)) e at)
  step_too (along_pair {p = p} i) = along_pair (subst (IsIn p) (sym grows.pairs) i)

  pub before_too : {x y : Node} → Before old x y → Before new x y
  before_too (one_step s) = one_step (step_too s)
  before_too (more_steps s p) = more_steps (step_too s) (before_too p)

adds_keeps : {A : Type 0} {P : A → Type 0} {old new : List A} → AddsOnce P old new → (x : A) → IsIn x old → IsIn x new
adds_keeps a x i = subst (IsIn x) (sym a.behind) (in_append_left a.more i)

agree_itself : (role : Role) (height : ℕ) (terms : List Binding) → AgreeOnTerms (variables_of_prefix role height) (as_substitution terms) (as_substitution terms)
agree_itself role height terms x i = refl

pub listener_says_more : (t : Term) (old new : Skeleton) → AddsListener t old new → SaysMore old new
listener_says_more t old new adds =
    let behind : new.strands ≡ old.strands ++ listener t ∷ [] = ap (λ (k : Skeleton). k.strands) adds in
    let pairs : new.pairs ≡ old.pairs = ap (λ (k : Skeleton). k.pairs) adds in
    let assumptions : old.assumptions ≡ new.assumptions = sym (ap (λ (k : Skeleton). k.assumptions) adds) in
    record {
      instances = λ s role height terms at. (height, terms, stays old new (listener t) behind pairs s (instance role height terms) at, le_refl height, agree_itself role height terms);
      listeners = λ s u at. stays old new (listener t) behind pairs s (listener u) at;
      ordered = λ x y b. before_too old new (appended-grows old new (listener t) behind pairs) b;
      non = λ v i. subst (λ (a : Assumptions). IsIn v a.non_originating) assumptions i;
      penetrator_non = λ v i. subst (λ (a : Assumptions). IsIn v a.penetrator_non_originating) assumptions i;
      unique = λ u i. subst (λ (a : Assumptions). IsIn u a.uniquely_originating) assumptions i;
      from_problem = ap (λ (k : Skeleton). k.from_problem) adds;
    }

pub strand_says_more : (role : Role) (height : ℕ) (values : List Term) (old new : Skeleton) → AddsStrand role height values old new → SaysMore old new
strand_says_more role height values old new adds =
    let strand : SkeletonStrand = instance role height adds.terms in
    record {
      instances = λ s r h ts at. (h, ts, stays old new strand adds.strands adds.pairs s (instance r h ts) at, le_refl h, agree_itself r h ts);
      listeners = λ s u at. stays old new strand adds.strands adds.pairs s (listener u) at;
      ordered = λ x y b. before_too old new (appended-grows old new strand adds.strands adds.pairs) b;
      non = adds_keeps adds.assumptions.non;
      penetrator_non = adds_keeps adds.assumptions.penetrator_non;
      unique = adds_keeps adds.assumptions.unique;
      from_problem = adds.from_problem;
    }

module _ (s height : ℕ) (values : List Term) (old new : Skeleton) (x : Extends s height values old new) where
  module _ (higher : x.before ≤ height) where
    only : (before : ℕ) (role : Role) (terms : List Binding) → item_at old.strands s ≡ Some (instance role before terms) → before ≤ height
    only before role terms at =
        let both : Some (instance x.role x.before x.old_terms) ≡ Some (instance role before terms) = sym x.was_instance ∙ at in
        let same : x.before ≡ before = cc in
        subst (λ n. n ≤ height) same higher

    instance_more : (t : ℕ) (role : Role) (h : ℕ) (ts : List Binding) → (t ≡ s) ⊎ (t ≢ s) → item_at old.strands t ≡ Some (instance role h ts) →
        (h' : ℕ) × (ts' : List Binding) × (item_at new.strands t ≡ Some (instance role h' ts')) × (h ≤ h') × AgreeOnTerms (variables_of_prefix role h) (as_substitution ts) (as_substitution ts')
    instance_more t role h ts (inl is_s) at =
        let both : Some (instance x.role x.before x.old_terms) ≡ Some (instance role h ts) = sym x.was_instance ∙ ap (item_at old.strands) (sym is_s) ∙ at in
        let same_role : x.role ≡ role = cc in
        let same_height : x.before ≡ h = cc in
        let same_terms : x.old_terms ≡ ts = cc in
        let one : AgreeOnTerms (variables_of_prefix role x.before) (as_substitution x.old_terms) (as_substitution x.terms) = subst (λ (r : Role). AgreeOnTerms (variables_of_prefix r x.before) (as_substitution x.old_terms) (as_substitution x.terms)) same_role x.keeps in
        let two : AgreeOnTerms (variables_of_prefix role h) (as_substitution x.old_terms) (as_substitution x.terms) = subst (λ (n : ℕ). AgreeOnTerms (variables_of_prefix role n) (as_substitution x.old_terms) (as_substitution x.terms)) same_height one in (
          height,
          x.terms,
          ap (item_at new.strands) is_s ∙ x.on_instance ∙ ap (λ (r : Role). Some (instance r height x.terms)) same_role,
          subst (λ n. n ≤ height) same_height higher,
          subst (λ (d : List Binding). AgreeOnTerms (variables_of_prefix role h) (as_substitution d) (as_substitution x.terms)) same_terms two,
        )
    instance_more t role h ts (inr other) at = (h, ts, x.others t other ∙ at, le_refl h, agree_itself role h ts)

    listener_stays : (t : ℕ) (u : Term) → (t ≡ s) ⊎ (t ≢ s) → item_at old.strands t ≡ Some (listener u) → item_at new.strands t ≡ Some (listener u)
    listener_stays t u (inl is_s) at =
        let both : Some (instance x.role x.before x.old_terms) ≡ Some (listener u) = sym x.was_instance ∙ ap (item_at old.strands) (sym is_s) ∙ at in
        absurd (cc)
    listener_stays t u (inr other) at = x.others t other ∙ at

    pub extended_says_more : SaysMore old new
    extended_says_more = record {
      instances = λ t role h ts at. instance_more t role h ts (cases_eq t s) at;
      listeners = λ t u at. listener_stays t u (cases_eq t s) at;
      ordered = λ n m b. before_too old new (extended-grows s height values old new only x) b;
      non = adds_keeps x.assumptions.non;
      penetrator_non = adds_keeps x.assumptions.penetrator_non;
      unique = adds_keeps x.assumptions.unique;
      from_problem = x.from_problem;
    }

  -- What can grow grows to a height that is not less.
  pub extension_fits : CanExtend old s height values → x.before ≤ height
  extension_fits can =
      let both : Some (instance can.role can.before can.terms) ≡ Some (instance x.role x.before x.old_terms) = sym can.on_instance ∙ x.was_instance in
      let same_height : can.before ≡ x.before = cc in
      subst (λ n. n ≤ height) same_height can.higher

-- ---- another order

pub reordered_says_more : (old new : Skeleton) → DiffersInOrder old new → ((x y : Node) → Before old x y → Before new x y) → SaysMore old new
reordered_says_more old new same before =
    let strands : old.strands ≡ new.strands = sym same.strands in
    let assumptions : old.assumptions ≡ new.assumptions = sym same.assumptions in
    record {
      instances = λ s role height terms at. (height, terms, subst (λ (ss : List SkeletonStrand). item_at ss s ≡ Some (instance role height terms)) strands at, le_refl height, agree_itself role height terms);
      listeners = λ s u at. subst (λ (ss : List SkeletonStrand). item_at ss s ≡ Some (listener u)) strands at;
      ordered = before;
      non = λ v i. subst (λ (a : Assumptions). IsIn v a.non_originating) assumptions i;
      penetrator_non = λ v i. subst (λ (a : Assumptions). IsIn v a.penetrator_non_originating) assumptions i;
      unique = λ u i. subst (λ (a : Assumptions). IsIn u a.uniquely_originating) assumptions i;
      from_problem = same.from_problem;
    }

module _ (k : Skeleton) (pairs : List OrderPair) (wider : (p : OrderPair) → IsIn p k.pairs → IsIn p pairs) where
  step_wider : {x y : Node} → OrderStep k x y → OrderStep (ordered_by k pairs) x y
  step_wider (along_strand_of at) = along_strand_of at
  step_wider (along_pair {p = p} i) = along_pair (wider p i)

  pub before_wider : {x y : Node} → Before k x y → Before (ordered_by k pairs) x y
  before_wider (one_step s) = one_step (step_wider s)
  before_wider (more_steps s p) = more_steps (step_wider s) (before_wider p)

pub pair_says_more : (k : Skeleton) (p : OrderPair) → SaysMore k (ordered_by k (p ∷ k.pairs))
pair_says_more k p = reordered_says_more k (ordered_by k (p ∷ k.pairs)) (record { strands = refl; assumptions = refl; from_problem = refl }) (λ x y b. before_wider k (p ∷ k.pairs) (λ q i. there i) b)

-- What holds of each skeleton that says more is kept by all changes.
pub kept_by_changes : (P : Skeleton → Type 0) → ((old new : Skeleton) → SaysMore old new → P old → P new) → KeptByChanges P
kept_by_changes P keeps = record {
  listener = λ old new t adds. keeps old new (listener_says_more t old new adds);
  strand = λ old new role height values adds. keeps old new (strand_says_more role height values old new adds);
  extended = λ old new s height values x higher. keeps old new (extended_says_more s height values old new x higher);
  pair = λ k p. keeps k (ordered_by k (p ∷ k.pairs)) (pair_says_more k p);
  reordered = λ old new same before. keeps old new (reordered_says_more old new same before);
}

-- ---- skeletons over a protocol

module _ (protocol : Protocol) (k : Skeleton) (is : IsSkeleton protocol k) (variables : List Declaration) (pairs : List OrderPair) where
  -- The skeleton with this table and these pairs.
  abbrev with_both : Skeleton
  with_both = skeleton_of variables k.strands pairs k.assumptions k.from_problem

  origin_too : (u : UniqueAt) → IsOrigin k u → IsOrigin with_both u
  origin_too u o = record { role = o.role; height = o.height; terms = o.terms; on_instance = o.on_instance; sent = o.sent; transmission = o.transmission; carried = o.carried }

  given_too : (s : ℕ) (role : Role) (height : ℕ) (terms : List Binding) → GivesAssumptions k s role height terms → GivesAssumptions with_both s role height terms
  given_too s role height terms g = record { non = g.non; penetrator_non = g.penetrator_non; unique = g.unique }

  both_is_skeleton : IsOrdered with_both → IsSkeleton protocol with_both
  both_is_skeleton ordered = record {
    of_role = is.of_role;
    heights = is.heights;
    order_pairs = ordered.order_pairs;
    no_cycle = ordered.no_cycle;
    origins = λ u i. origin_too u (is.origins u i);
    given = λ s role height terms at. given_too s role height terms (is.given s role height terms at);
  }

pub ordered_is_skeleton : (protocol : Protocol) (k : Skeleton) → IsSkeleton protocol k → (pairs : List OrderPair) → IsOrdered (ordered_by k pairs) → IsSkeleton protocol (ordered_by k pairs)
ordered_is_skeleton protocol k is pairs ordered = both_is_skeleton protocol k is k.variables pairs ordered

pub reordered_stays_skeleton : (protocol : Protocol) (old new : Skeleton) → IsSkeleton protocol old → DiffersInOrder old new → IsOrdered new → IsSkeleton protocol new
reordered_stays_skeleton protocol old new is same ordered =
    let whole : skeleton_of new.variables old.strands new.pairs old.assumptions old.from_problem ≡ new =
    sym (λ i. record { variables = new.variables; strands = same.strands i; pairs = new.pairs; assumptions = same.assumptions i; from_problem = same.from_problem i }) in
    subst (IsSkeleton protocol) whole (both_is_skeleton protocol old is new.variables new.pairs (subst IsOrdered (sym whole) ordered))

pub pair_stays_skeleton : (protocol : Protocol) (k : Skeleton) (p : OrderPair) → IsSkeleton protocol k → IsOrderPair k p → (Before k p.later p.earlier → ⊥) → IsSkeleton protocol (ordered_by k (p ∷ k.pairs))
pair_stays_skeleton protocol k p is pair free = ordered_is_skeleton protocol k is (p ∷ k.pairs) (more_ordered k p (record { order_pairs = is.order_pairs; no_cycle = is.no_cycle }) pair free)

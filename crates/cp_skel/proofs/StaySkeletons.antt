-- Skeletons over a protocol stay so, with a strand more and with a longer strand.
use Rattle.std.proofs.Common.{◌≡◌, ◌≢◌, ℕ, ◌<◌, ◌≤◌, List, [], ◌∷◌, ◌++◌, length, refl, sym, ap, ◌∙◌, subst, ◌⊎◌, inl, inr, arith}
use Rattle.std.specs.Prelude.{Option, Some, None}
use Rattle.std.proofs.lemmas.Bool.{cases_eq}
use Rattle.cp_lists.specs.Lists.{item_at, IsIn}
use Rattle.cp_model.specs.Term.{Term, apply_to, apply_to_atom}
use Rattle.cp_model.specs.Bindings.{Binding, as_substitution}
use Rattle.cp_model.specs.Strand.{event_map, Role, Protocol, prefix_of, IsHeight}
use Rattle.cp_model.specs.declared.strand.Event.{Event}
use Rattle.cp_model.specs.declared.strand.Event.TheVariants.{Send as send}
use Rattle.cp_model.specs.Bundle.{node_at}
use Rattle.cp_model.specs.declared.node.Node.{Node}
use Rattle.cp_model.specs.Skeleton.{SkeletonStrand, instance, listener, skeleton_trace, skeleton_trace_or_none, term_event_at, UniqueAt, Skeleton, IsOrigin, GivesAssumptions, IsSkeleton}
use Rattle.cp_lists.proofs.Members.{in_append, in_append_left}
use Rattle.cp_lists.proofs.Items.{item_of_take, take_of_item, item_of_map, map_of_item, item_of_push, item_still, item_last}
use Rattle.cp_model.proofs.LawPrefixes.{in_trace}
use Rattle.cp_model.proofs.LawTerms.{carried_under}
use Rattle.cp_model.proofs.LawAgreement.{agree_event}
use Rattle.cp_model.specs.GivenAssumptions.{IsGivenUnique, AddsOnce, AddsGiven}
use Rattle.cp_model.specs.Extensions.{AddsListener, AddsStrand, CanExtend, Extends}
use Rattle.cp_skel.proofs.Grown.{Grows, pairs-stay, origin-stays, cycles-stay-out}

-- ---- what each strand must be

-- An instance is of a role of the protocol and of a height of it, and what it gives is assumed.
abbrev pub IsRight : Protocol → Skeleton → ℕ → SkeletonStrand → Type 0
IsRight protocol k s (instance role height terms) = IsIn role protocol.roles × IsHeight role height × GivesAssumptions k s role height terms
IsRight protocol k s (listener t) = Unit {0}

right-one : (protocol : Protocol) (k : Skeleton) → IsSkeleton protocol k → (s : ℕ) (strand : SkeletonStrand) → item_at k.strands s ≡ Some strand → IsRight protocol k s strand
right-one protocol k is s (instance role height terms) at = (is.of_role s role height terms at, is.heights s role height terms at, is.given s role height terms at)
right-one protocol k is s (listener t) at = tt

adds-keeps : {A : Type 0} {P : A → Type 0} {old new : List A} → AddsOnce P old new → (x : A) → IsIn x old → IsIn x new
adds-keeps a x i = subst (IsIn x) (sym a.behind) (in_append_left a.more i)

-- ---- what one instance gives

module _ (protocol : Protocol) (old new : Skeleton) (is : IsSkeleton protocol old) (grows : Grows old new) (role : Role) (height : ℕ) (terms : List Binding) (s : ℕ)
    (adds : AddsGiven role height terms s old.assumptions new.assumptions) (at : item_at new.strands s ≡ Some (instance role height terms)) where
  pub given-all : GivesAssumptions new s role height terms
  given-all = record {
    non = λ v i a. adds.non.all (apply_to_atom (as_substitution terms) v) (record { atom = v; listed = i; applies = a; same = refl });
    penetrator_non = λ v i a. adds.penetrator_non.all (apply_to_atom (as_substitution terms) v) (record { atom = v; listed = i; applies = a; same = refl });
    unique = λ v n i a. adds.unique.all (record { value = apply_to_atom (as_substitution terms) v; origin = node_at s n }) (record { atom = v; index = n; listed = i; applies = a; same = refl });
  }

  given-kept : (t : ℕ) (r : Role) (h : ℕ) (ts : List Binding) → GivesAssumptions old t r h ts → GivesAssumptions new t r h ts
  given-kept t r h ts g = record {
    non = λ v i a. adds-keeps adds.non (apply_to_atom (as_substitution ts) v) (g.non v i a);
    penetrator_non = λ v i a. adds-keeps adds.penetrator_non (apply_to_atom (as_substitution ts) v) (g.penetrator_non v i a);
    unique = λ v n i a. adds-keeps adds.unique (record { value = apply_to_atom (as_substitution ts) v; origin = node_at t n }) (g.unique v n i a);
  }

  pub right-kept : (t : ℕ) (strand : SkeletonStrand) → IsRight protocol old t strand → IsRight protocol new t strand
  right-kept t (instance r h ts) p = (p.0, p.1, given-kept t r h ts p.2)
  right-kept t (listener m) p = tt

  new-origin : (u : UniqueAt) → IsGivenUnique role height terms s u → IsOrigin new u
  new-origin u g =
      let o = g.applies.0 in
      let trace = prefix_of role height in
      let event : item_at (skeleton_trace (instance role height terms)) g.index ≡ Some (send (apply_to (as_substitution terms) o.sent)) =
      map_of_item (event_map (apply_to (as_substitution terms))) trace g.index (send o.sent) (take_of_item height role.trace g.index (send o.sent) g.applies.1 o.transmission) in
      subst (IsOrigin new) (sym g.same) (record {
        role = role;
        height = height;
        terms = terms;
        on_instance = at;
        sent = apply_to (as_substitution terms) o.sent;
        transmission = ap (λ k. item_at (skeleton_trace_or_none k) g.index) at ∙ event;
        carried = carried_under (as_substitution terms) o.carried;
      })

  old-or-new : (u : UniqueAt) → IsIn u old.assumptions.uniquely_originating ⊎ IsIn u adds.unique.more → IsOrigin new u
  old-or-new u (inl i) = origin-stays old new grows is.order_pairs u (is.origins u i)
  old-or-new u (inr i) = new-origin u (adds.unique.only_given u i)

  -- It is a skeleton, where each strand is right.
  pub still-skeleton : ((t : ℕ) (strand : SkeletonStrand) → item_at new.strands t ≡ Some strand → IsRight protocol new t strand) → IsSkeleton protocol new
  still-skeleton right = record {
    of_role = λ t r h ts e. (right t (instance r h ts) e).0;
    heights = λ t r h ts e. (right t (instance r h ts) e).1;
    order_pairs = pairs-stay old new grows is.order_pairs;
    no_cycle = cycles-stay-out old new grows is.order_pairs is.no_cycle;
    origins = λ u i. old-or-new u (in_append old.assumptions.uniquely_originating adds.unique.more (subst (IsIn u) adds.unique.behind i));
    given = λ t r h ts e. (right t (instance r h ts) e).2;
  }

-- ---- a strand more

-- An event of a strand that stays, or whose events stay.
event-stays : (o p : Option SkeletonStrand) (i : ℕ) (e : Event Term) → ((k : SkeletonStrand) → o ≡ Some k → item_at (skeleton_trace k) i ≡ Some e → item_at (skeleton_trace_or_none p) i ≡ Some e) →
    item_at (skeleton_trace_or_none o) i ≡ Some e → item_at (skeleton_trace_or_none p) i ≡ Some e
event-stays None p i e h ev = absurd (cc)
event-stays (Some k) p i e h ev = h k refl ev

module _ (old new : Skeleton) (strand : SkeletonStrand) (behind : new.strands ≡ old.strands ++ strand ∷ []) (pairs : new.pairs ≡ old.pairs) where
  pub stays : (s : ℕ) (k : SkeletonStrand) → item_at old.strands s ≡ Some k → item_at new.strands s ≡ Some k
  stays s k e = ap (λ ss. item_at ss s) behind ∙ item_still old.strands (strand ∷ []) s k e

  pub appended-grows : Grows old new
  appended-grows = record {
    events = λ n e. event-stays (item_at old.strands n.strand) (item_at new.strands n.strand) n.index e (λ k at ev. ap (λ o. item_at (skeleton_trace_or_none o) n.index) (stays n.strand k at) ∙ ev);
    instances = λ s role height terms e. (height, terms, stays s (instance role height terms) e);
    pairs = pairs;
  }

  pub appended-last : item_at new.strands (length old.strands) ≡ Some strand
  appended-last = ap (λ ss. item_at ss (length old.strands)) behind ∙ item_last old.strands strand

  pub appended-each : (P : ℕ → SkeletonStrand → Type 0) → ((s : ℕ) (k : SkeletonStrand) → item_at old.strands s ≡ Some k → P s k) → P (length old.strands) strand →
      (s : ℕ) (k : SkeletonStrand) → item_at new.strands s ≡ Some k → P s k
  appended-each P before last s k e = pick (item_of_push old.strands strand s k (ap (λ ss. item_at ss s) (sym behind) ∙ e))
    where
      pick : (item_at old.strands s ≡ Some k) ⊎ ((s ≡ length old.strands) × (strand ≡ k)) → P s k
      pick (inl at) = before s k at
      pick (inr p) = subst (P s) p.1 (subst (λ n. P n strand) (sym p.0) last)

pub strand-stays-skeleton : (protocol : Protocol) (role : Role) (height : ℕ) (values : List Term) (old new : Skeleton) → IsIn role protocol.roles → IsHeight role height →
    IsSkeleton protocol old → AddsStrand role height values old new → IsSkeleton protocol new
strand-stays-skeleton protocol role height values old new of_role is_height is adds =
    let strand = instance role height adds.terms in
    let grows = appended-grows old new strand adds.strands adds.pairs in
    let at = appended-last old new strand adds.strands adds.pairs in
    let s = length old.strands in
    still-skeleton protocol old new is grows role height adds.terms s adds.assumptions at
    (appended-each old new strand adds.strands adds.pairs (IsRight protocol new)
    (λ t k e. right-kept protocol old new is grows role height adds.terms s adds.assumptions at t k (right-one protocol old is t k e))
    (of_role, is_height, given-all protocol old new is grows role height adds.terms s adds.assumptions at))

right-again : (protocol : Protocol) (old : Skeleton) (ss : List SkeletonStrand) (s : ℕ) (strand : SkeletonStrand) → IsRight protocol old s strand → IsRight protocol (record old { strands = ss }) s strand
right-again protocol old ss s (instance r h ts) p = (p.0, p.1, record { non = p.2.non; penetrator_non = p.2.penetrator_non; unique = p.2.unique })
right-again protocol old ss s (listener m) p = tt

listener-behind : (protocol : Protocol) (t : Term) (old : Skeleton) → IsSkeleton protocol old → IsSkeleton protocol (record old { strands = old.strands ++ listener t ∷ [] })
listener-behind protocol t old is =
    let k : Skeleton = record old { strands = old.strands ++ listener t ∷ [] } in
    let grows = appended-grows old k (listener t) refl refl in
    let right = appended-each old k (listener t) refl refl (IsRight protocol k) (λ s strand e. right-again protocol old k.strands s strand (right-one protocol old is s strand e)) tt in
    record {
      of_role = λ s r h ts e. (right s (instance r h ts) e).0;
      heights = λ s r h ts e. (right s (instance r h ts) e).1;
      order_pairs = pairs-stay old k grows is.order_pairs;
      no_cycle = cycles-stay-out old k grows is.order_pairs is.no_cycle;
      origins = λ u i. origin-stays old k grows is.order_pairs u (is.origins u i);
      given = λ s r h ts e. (right s (instance r h ts) e).2;
    }

pub listener-stays-skeleton : (protocol : Protocol) (t : Term) (old new : Skeleton) → IsSkeleton protocol old → AddsListener t old new → IsSkeleton protocol new
listener-stays-skeleton protocol t old new is adds = subst (IsSkeleton protocol) (sym adds) (listener-behind protocol t old is)

-- ---- a longer strand

module _ (s height : ℕ) (values : List Term) (old new : Skeleton) (higher : (before : ℕ) (role : Role) (terms : List Binding) → item_at old.strands s ≡ Some (instance role before terms) → before ≤ height) (x : Extends s height values old new) where
  longer : (i : ℕ) (e : Event Term) → item_at (skeleton_trace (instance x.role x.before x.old_terms)) i ≡ Some e → item_at (skeleton_trace (instance x.role height x.terms)) i ≡ Some e
  longer i e ev =
      let r = item_of_map (event_map (apply_to (as_substitution x.old_terms))) (prefix_of x.role x.before) i e ev in
      let d = r.0 in
      let below = item_of_take x.before x.role.trace i d r.1 in
      let le : x.before ≤ height = higher x.before x.role x.old_terms x.was_instance in
      let lt : i < x.before = below.0 in
      let there : item_at (prefix_of x.role height) i ≡ Some d = take_of_item height x.role.trace i d (omega (arith, le, lt)) below.1 in
      let agree = agree_event (as_substitution x.old_terms) (as_substitution x.terms) d (λ y p. x.keeps y (in_trace (prefix_of x.role x.before) i d y r.1 p)) in
      map_of_item (event_map (apply_to (as_substitution x.terms))) (prefix_of x.role height) i d there ∙ ap Some (sym agree ∙ r.2)

  events-at : (n : Node) (e : Event Term) → (n.strand ≡ s) ⊎ (n.strand ≢ s) → term_event_at old.strands n ≡ Some e → term_event_at new.strands n ≡ Some e
  events-at n e (inl here) ev =
      let was : item_at old.strands n.strand ≡ Some (instance x.role x.before x.old_terms) = ap (item_at old.strands) here ∙ x.was_instance in
      let now : item_at new.strands n.strand ≡ Some (instance x.role height x.terms) = ap (item_at new.strands) here ∙ x.on_instance in
      ap (λ o. item_at (skeleton_trace_or_none o) n.index) now ∙ longer n.index e (ap (λ o. item_at (skeleton_trace_or_none o) n.index) (sym was) ∙ ev)
  events-at n e (inr other) ev = ap (λ o. item_at (skeleton_trace_or_none o) n.index) (x.others n.strand other) ∙ ev

  instances-at : (t : ℕ) (role : Role) (h : ℕ) (ts : List Binding) → (t ≡ s) ⊎ (t ≢ s) → item_at old.strands t ≡ Some (instance role h ts) → (h' : ℕ) × (t' : List Binding) × (item_at new.strands t ≡ Some (instance role h' t'))
  instances-at t role h ts (inl here) e =
      let both : Some (instance x.role x.before x.old_terms) ≡ Some (instance role h ts) = sym x.was_instance ∙ ap (item_at old.strands) (sym here) ∙ e in
      let same : x.role ≡ role = cc in
      (height, x.terms, ap (item_at new.strands) here ∙ x.on_instance ∙ ap (λ r. Some (instance r height x.terms)) same)
  instances-at t role h ts (inr other) e = (h, ts, x.others t other ∙ e)

  pub extended-grows : Grows old new
  extended-grows = record {
    events = λ n e. events-at n e (cases_eq n.strand s);
    instances = λ t role h ts. instances-at t role h ts (cases_eq t s);
    pairs = x.pairs;
  }

pub extended-stays-skeleton : (protocol : Protocol) (s height : ℕ) (values : List Term) (old new : Skeleton) → CanExtend old s height values →
    IsSkeleton protocol old → Extends s height values old new → IsSkeleton protocol new
extended-stays-skeleton protocol s height values old new can is x =
    still-skeleton protocol old new is grows x.role height x.terms s x.assumptions x.on_instance (λ t k e. each t k (cases_eq t s) e)
  where
    at-most : (before : ℕ) (role : Role) (terms : List Binding) → item_at old.strands s ≡ Some (instance role before terms) → before ≤ height
    at-most before role terms e =
        let both : Some (instance can.role can.before can.terms) ≡ Some (instance role before terms) = sym can.on_instance ∙ e in
        let same : can.before ≡ before = cc in
        subst (λ n. n ≤ height) same can.higher

    grows : Grows old new
    grows = extended-grows s height values old new at-most x

    is_height : IsHeight x.role height
    is_height =
        let both : Some (instance can.role can.before can.terms) ≡ Some (instance x.role x.before x.old_terms) = sym can.on_instance ∙ x.was_instance in
        let same : can.role ≡ x.role = cc in
        let first : 1 ≤ x.before = (is.heights s x.role x.before x.old_terms x.was_instance).0 in
        let le : x.before ≤ height = at-most x.before x.role x.old_terms x.was_instance in
        (omega (arith, first, le), subst (λ r. height ≤ length r.trace) same can.reached)

    grown : IsRight protocol new s (instance x.role height x.terms)
    grown = (is.of_role s x.role x.before x.old_terms x.was_instance, is_height, given-all protocol old new is grows x.role height x.terms s x.assumptions x.on_instance)

    each : (t : ℕ) (k : SkeletonStrand) → (t ≡ s) ⊎ (t ≢ s) → item_at new.strands t ≡ Some k → IsRight protocol new t k
    each t k (inl here) e =
        let both : Some (instance x.role height x.terms) ≡ Some k = sym x.on_instance ∙ ap (item_at new.strands) (sym here) ∙ e in
        let same : instance x.role height x.terms ≡ k = cc in
        subst (λ n. IsRight protocol new n k) (sym here) (subst (IsRight protocol new s) same grown)
    each t k (inr other) e = right-kept protocol old new is grows x.role height x.terms s x.assumptions x.on_instance t k (right-one protocol old is t k (sym (x.others t other) ∙ e))

-- Each child of a cohort comes of contracting, of a strand that is displaced or added, or of a listener.
use Rattle.std.proofs.Common.{◌≡◌, ◌≢◌, ℕ, List, [], ◌++◌, length, Some, sym, subst, ⊎_elim}
use Rattle.cp_lists.specs.Lists.{item_at, IsIn}
use Rattle.cp_lists.proofs.Members.{not_in_none, only_item, in_append, from_map}
use Rattle.cp_model.specs.Term.{Term, Substitution}
use Rattle.cp_model.specs.Bindings.{Binding}
use Rattle.cp_model.specs.Strand.{payload, Role, Protocol}
use Rattle.cp_model.specs.declared.strand.Event.TheVariants.{Send as send}
use Rattle.cp_model.specs.Bundle.{node_at}
use Rattle.cp_model.specs.declared.node.Node.{Node}
use Rattle.cp_model.specs.Skeleton.{instance, term_event_at, Skeleton, Before}
use Rattle.cp_model.specs.Tree.{Pattern}
use Rattle.cp_model.specs.declared.tree.Operation.{Operation}
use Rattle.cp_model.specs.declared.tree.Operation.TheVariants.{Contracted as by_contraction, Displaced as by_displacement, AddedListener as by_added_listener}
use Rattle.cp_model.specs.declared.step.Step.{Step}
use Rattle.cp_model.specs.Positions.{term_at}
use Rattle.cp_theory.specs.Normal.{skeleton_under}
use Rattle.cp_collapse.specs.SameSkeletons.{SaysTheSame}
use Rattle.cp_normal.specs.Exact.{HasForms}
use Rattle.cp_model.specs.Extensions.{AddsListener}
use Rattle.cp_skel.specs.Events.{LocatedEvent, events_of}
use Rattle.cp_skel.specs.Tables.{HaveTable}
use Rattle.cp_theory.specs.Covering.{put_before}
use Rattle.cp_pattern.specs.Unifiers.{UnifiesMostGenerally}
use Rattle.cp_model.specs.Problem.{numbers_from}
use Rattle.cp_cohort.specs.Releases.{Release, PartialSolution}
use Rattle.cp_cohort.specs.Stages.{IsFirstUnder, SolvesRelease, on_the_way}
use Rattle.cp_cohort.specs.GatheredLists.{EachGives, StartsGiving, terms_onto}
use Rattle.cp_cohort.specs.CoveringChildren.{Child, child, IsTransmissionBefore, HasGrown}
use Rattle.cp_cohort.specs.Cohort.{GuardedTest, Contracts, AreContracted, release_at, DisplacesEvent, DisplacesStrand, positions, AddsAt, AddsEvent, StartsEvent, AreFirstAdded, FreesCritical, by_key, by_body, by_nothing, OpensPattern, Listens, AreListeners, IsCohort, is_before, is_displaced, is_added, of_listener, of_node, of_role, is_inside, is_critical, cyclic}
use Rattle.cp_cohort.specs.Cohort as cohort
use Rattle.cp_cohort.specs.Released.{SetsFree, critical_key, critical_body, pattern_key}
use Rattle.cp_cohort.proofs.Listed.{IsGiven, given, started, those_have, of_terms_onto}

-- What is listened to may set the critical term free.
module _ (q : GuardedTest) where
  freed : (frees : List Term) → FreesCritical q frees → (t : Term) → IsIn t frees → SetsFree q t
  freed frees (by_key e none) t i = subst (SetsFree q) (sym (only_item i)) (critical_key e none)
  freed frees (by_body e some) t i = subst (SetsFree q) (sym (only_item i)) (critical_body e some)
  freed frees (by_nothing none) t i = absurd (not_in_none i)

  opened : (p : Pattern) (ts : List Term) → IsIn p q.patterns → OpensPattern p ts → (t : Term) → IsIn t ts → SetsFree q t
  opened p ts listed o t i = subst (SetsFree q) (sym (only_item (subst (IsIn t) o.inverse i))) (pattern_key listed o.is_pattern)

  heard : (children : List Child) (are : AreListeners q children) (t : Term) → IsIn t (terms_onto [] (are.frees ++ are.opens)) → SetsFree q t
  heard children are t i =
      ⊎_elim
      (λ (none : IsIn t []). absurd (not_in_none none))
      (λ m.
      ⊎_elim (λ f. freed are.frees are.critical t f) (λ o. let one = given are.patterns t o in opened one.giver one.given one.listed one.gives_it t one.among) (in_append are.frees are.opens m))
      (of_terms_onto [] (are.frees ++ are.opens) t i)

-- The skeleton is a normal form of the test's under a most general unifier of what stands at the position.
pub record ComesOfContracting (q : GuardedTest) (o : LocatedEvent) (path : List Step) (r : Skeleton) : Type 0 where
  pub term : Term
  pub unifier : Substitution
  pub under : Skeleton
  pub forms : List Skeleton
  pub at : term_at (payload o.event) path ≡ Some term
  pub unifies : UnifiesMostGenerally term q.critical unifier
  pub same : SaysTheSame (skeleton_under unifier q.skeleton) under
  pub has : HasForms under forms
  pub table : HaveTable q.skeleton.variables forms
  pub listed : IsIn r forms

-- The partial solution comes from the grown skeleton, put before the node, under a most general unifier of what stands there.
pub record ComesOfReleasing (q : GuardedTest) (release : Release) (grown : Skeleton) (x : PartialSolution) : Type 0 where
  pub message : Term
  pub term : Term
  pub unifier : Substitution
  pub first : PartialSolution
  pub settled : List PartialSolution
  pub acyclic : (y : Node) → Before (put_before (node_at release.strand release.index) q.node grown) y y → ⊥
  pub sent : term_event_at grown.strands (node_at release.strand release.index) ≡ Some (send message)
  pub at : term_at message release.path ≡ Some term
  pub unifies : UnifiesMostGenerally term q.critical unifier
  pub is_first : IsFirstUnder (put_before (node_at release.strand release.index) q.node grown) unifier first
  pub settles : SolvesRelease release on_the_way first settled
  pub listed : IsIn x settled

-- What a position of event j gives, where strand s is made high enough to have the event.
pub record DisplacesAt (q : GuardedTest) (s : ℕ) (role : Role) (height j : ℕ) (path : List Step) (children : List Child) : Type 0 where
  pub grown : Skeleton
  pub grows : HasGrown s role height j q.skeleton grown
  pub releases : cohort.Releases q (by_displacement (node_at s j)) (release_at q s j path) grown children

-- The skeleton is a normal form of the test's with a listener, put before the node.
pub record ComesOfListening (q : GuardedTest) (t : Term) (r : Skeleton) : Type 0 where
  pub added : Skeleton
  pub adds : AddsListener t q.skeleton added
  pub forms : List Skeleton
  pub normal : HasForms (put_before (node_at (length q.skeleton.strands) 1) q.node added) forms
  pub table : HaveTable q.skeleton.variables forms
  pub listed : IsIn r forms

module _ (q : GuardedTest) (P : Child → Type 0) where
  -- A property of children that holds of each normal form holds of what a position gives.
  pub of_contracted : (o : LocatedEvent) (path : List Step) → ((r : Skeleton) → ComesOfContracting q o path r → P (child (by_contraction o.node) path r)) →
      (children : List Child) → Contracts q o path children → (d : Child) → IsIn d children → P d
  of_contracted o path holds children (is_inside inside) d i = absurd (not_in_none i)
  of_contracted o path holds children (is_critical at) d i = absurd (not_in_none i)
  of_contracted o path holds children (cohort.never_equal at never) d i = absurd (not_in_none i)
  of_contracted o path holds children (cohort.unified {t = t} {s = s} {l = l} {forms = forms} outside at ne unifies same has table) d i =
      let m = from_map (child (by_contraction o.node) path) forms i in
      subst P m.2 (holds m.0 (record { term = t; unifier = s; under = l; forms = forms; at = at; unifies = unifies; same = same; has = has; table = table; listed = m.1 }))

  -- A property of children that holds of what solves the release holds of what a grown skeleton gives.
  pub of_released : (operation : Operation) (release : Release) (grown : Skeleton) →
      ((x : PartialSolution) → ComesOfReleasing q release grown x → P (child operation release.path x.skeleton)) →
      (children : List Child) → cohort.Releases q operation release grown children → (d : Child) → IsIn d children → P d
  of_released operation release grown holds children (cyclic before) d i = absurd (not_in_none i)
  of_released operation release grown holds children (cohort.never_equal sent at never) d i = absurd (not_in_none i)
  of_released operation release grown holds children (cohort.unified {t = t} {u = u} {s = s} {x = x} {settled = settled} none sent at unifies is_first settles) d i =
      let o = from_map (λ (x : PartialSolution). child operation release.path x.skeleton) settled i in
      subst P o.2 (holds o.0 (record { message = t; term = u; unifier = s; first = x; settled = settled; acyclic = none; sent = sent; at = at; unifies = unifies; is_first = is_first; settles = settles; listed = o.1 }))

  -- A property of children that holds of each normal form holds of what a listener gives.
  pub of_listened : (t : Term) → ((r : Skeleton) → ComesOfListening q t r → P (child (by_added_listener (length q.skeleton.strands)) [] r)) →
      (children : List Child) → Listens q t children → (d : Child) → IsIn d children → P d
  of_listened t holds children l d i =
      let m = from_map (child (by_added_listener (length q.skeleton.strands)) []) l.forms (subst (IsIn d) l.are_children i) in
      subst P m.2 (holds m.0 (record { added = l.added; adds = l.adds; forms = l.forms; normal = l.normal; table = l.table; listed = m.1 }))

module _ (protocol : Protocol) (q : GuardedTest) (P : Child → Type 0) where
  -- The property holds of what each position of an event gives, and of what each listener does.
  pub record HoldsOfGiven : Type 0 where
    pub contracted : (o : LocatedEvent) → IsIn o (events_of q.skeleton) → IsTransmissionBefore q.skeleton q.node o → (path : List Step) (children : List Child) → Contracts q o path children → (d : Child) → IsIn d children → P d
    pub displaced : (s : ℕ) (role : Role) (height : ℕ) (terms : List Binding) → item_at q.skeleton.strands s ≡ Some (instance role height terms) → s ≢ q.node.strand → (j : ℕ) (t : Term) → item_at role.trace j ≡ Some (send t)
        → (Before q.skeleton (node_at s j) q.node → ⊥) → (path : List Step) (children : List Child) → DisplacesAt q s role height j path children → (d : Child) → IsIn d children → P d
    pub added : (role : Role) → IsIn role protocol.roles → (j : ℕ) (t : Term) → item_at role.trace j ≡ Some (send t) → (path : List Step) (children : List Child) → AddsAt q role j path children → (d : Child) → IsIn d children → P d
    pub listened : (t : Term) → SetsFree q t → (children : List Child) → Listens q t children → (d : Child) → IsIn d children → P d

  module _ (holds : HoldsOfGiven) where
    each_contracted : (children : List Child) → AreContracted q children → (d : Child) → IsIn d children → P d
    each_contracted children are d i =
        let event = given are.each d i in
        let path = given event.gives_it d event.among in
        let has = those_have are.before event.giver event.listed in
        holds.contracted event.giver has.0 has.1 path.giver path.given path.gives_it d path.among

    displaced_event : (s : ℕ) (role : Role) (height : ℕ) (terms : List Binding) → item_at q.skeleton.strands s ≡ Some (instance role height terms) → s ≢ q.node.strand → (j : ℕ) (children : List Child) → DisplacesEvent q s role height j children
        → (d : Child) → IsIn d children → P d
    displaced_event s role height terms on apart j children (cohort.is_reception there_is) d i = absurd (not_in_none i)
    displaced_event s role height terms on apart j children (is_before before) d i = absurd (not_in_none i)
    displaced_event s role height terms on apart j children (is_displaced {t = t} {grown = grown} there_is none grows sends each) d i =
        let one = given each d i in
        holds.displaced s role height terms on apart j t there_is none one.giver one.given (record { grown = grown; grows = grows; releases = one.gives_it }) d one.among

    displaced_strand : (s : ℕ) (children : List Child) → DisplacesStrand q s children → (d : Child) → IsIn d children → P d
    displaced_strand s children (of_listener there_is) d i = absurd (not_in_none i)
    displaced_strand s children (of_node same) d i = absurd (not_in_none i)
    displaced_strand s children (of_role {role = role} {height = height} {terms = terms} there_is ne each) d i =
        let one = given each d i in displaced_event s role height terms there_is ne one.giver one.given one.gives_it d one.among

    added_event : (role : Role) → IsIn role protocol.roles → (j : ℕ) (children : List Child) → AddsEvent q role j children → (d : Child) → IsIn d children → P d
    added_event role in_roles j children (cohort.is_reception there_is) d i = absurd (not_in_none i)
    added_event role in_roles j children (is_added {t = t} there_is each) d i = let one = given each d i in holds.added role in_roles j t there_is one.giver one.given one.gives_it d one.among

    added_role : (role : Role) → IsIn role protocol.roles → (children : List Child) → EachGives (AddsEvent q role) (numbers_from 0 role.trace) children → (d : Child) → IsIn d children → P d
    added_role role in_roles children each d i = let event = given each d i in added_event role in_roles event.giver event.given event.gives_it d event.among

    first_of_event : (role : Role) → IsIn role protocol.roles → (j : ℕ) (children : List Child) → StartsEvent q role j children → (d : Child) → IsIn d children → P d
    first_of_event role in_roles j children s d i =
        let one : IsGiven (AddsAt q role j) (positions s.message) d = ⊎_elim (λ r. r) (λ r. r) (started s.start d i) in
        holds.added role in_roles j s.message s.sent one.giver one.given one.gives_it d one.among

    first_of_role : (role : Role) → IsIn role protocol.roles → (children : List Child) → StartsGiving (AddsEvent q role) (StartsEvent q role) (numbers_from 0 role.trace) children → (d : Child) → IsIn d children → P d
    first_of_role role in_roles children start d i =
        ⊎_elim (λ event. added_event role in_roles event.giver event.given event.gives_it d event.among) (λ event. first_of_event role in_roles event.giver event.given event.gives_it d event.among) (started start d i)

    -- Then it holds of each of the first children with an added strand.
    pub each_first_added : (children : List Child) → AreFirstAdded protocol q children → (d : Child) → IsIn d children → P d
    each_first_added children start d i =
        ⊎_elim (λ role. added_role role.giver role.listed role.given role.gives_it d role.among) (λ role. first_of_role role.giver role.listed role.given role.gives_it d role.among) (started start d i)

    -- And it holds of each child.
    pub each_child : (children : List Child) → IsCohort protocol q children → (d : Child) → IsIn d children → P d
    each_child children is d i =
        ⊎_elim (λ m. each_contracted is.contracted is.are_contracted d m)
        (λ m. ⊎_elim each_displaced (λ n. ⊎_elim each_added each_listened (in_append is.added is.listeners n)) (in_append is.displaced (is.added ++ is.listeners) m))
        (in_append is.contracted (is.displaced ++ (is.added ++ is.listeners)) (subst (IsIn d) is.whole i))
      where
        each_displaced : IsIn d is.displaced → P d
        each_displaced n = let one = given is.are_displaced d n in displaced_strand one.giver one.given one.gives_it d one.among

        each_added : IsIn d is.added → P d
        each_added n = let role = given is.are_added d n in added_role role.giver role.listed role.given role.gives_it d role.among

        each_listened : IsIn d is.listeners → P d
        each_listened n = let one = given is.are_listeners.each d n in holds.listened one.giver (heard q is.listeners is.are_listeners one.giver one.listed) one.given one.gives_it d one.among

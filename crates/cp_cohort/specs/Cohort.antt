-- The cohort of a test: its children, all of them, in their order.
use Rattle.std.specs.Prelude.{◌≡◌, ◌≢◌, ℕ, suc, List, [], ◌∷◌, ◌++◌, length, map, Some, true}
use Rattle.cp_lists.specs.Lists.{item_at}
use Rattle.cp_model.specs.Term.{KeyTerm, key_term, inverse_term, Term, atom_term, enc_term, Substitution}
use Rattle.cp_model.specs.Bindings.{Binding}
use Rattle.cp_model.specs.Identity.{unchanged}
use Rattle.cp_model.specs.Strand.{payload, Role, Protocol}
use Rattle.cp_model.specs.declared.strand.Event.TheVariants.{Send as send, Receive as recv}
use Rattle.cp_model.specs.Bundle.{node_at}
use Rattle.cp_model.specs.declared.node.Node.{Node}
use Rattle.cp_model.specs.Skeleton.{instance, listener, term_event_at, Skeleton, Before}
use Rattle.cp_model.specs.Derivable.{DerivableAt}
use Rattle.cp_model.specs.Problem.{numbers_from}
use Rattle.cp_model.specs.Tree.{Pattern}
use Rattle.cp_model.specs.declared.tree.Operation.{Operation}
use Rattle.cp_model.specs.declared.tree.Operation.TheVariants.{Contracted as by_contraction, Displaced as by_displacement, AddedStrand as by_added_strand, AddedListener as by_added_listener}
use Rattle.cp_model.specs.declared.step.Step.{Step}
use Rattle.cp_model.specs.Positions.{term_at, positions_where}
use Rattle.cp_theory.specs.Normal.{skeleton_under}
use Rattle.cp_collapse.specs.SameSkeletons.{SaysTheSame}
use Rattle.cp_normal.specs.Exact.{HasForms}
use Rattle.cp_model.specs.PrefixVariables.{prefix_variables}
use Rattle.cp_model.specs.Extensions.{AddsListener, AddsStrand}
use Rattle.cp_skel.specs.Events.{LocatedEvent, events_of}
use Rattle.cp_theory.specs.Inside.{IsInside}
use Rattle.cp_theory.specs.Fresh.{fresh_terms}
use Rattle.cp_theory.specs.Covering.{put_before}
use Rattle.cp_pattern.specs.Unifiers.{UnifiesMostGenerally, NeverEqual}
use Rattle.cp_cohort.specs.Releases.{Release, PartialSolution}
use Rattle.cp_cohort.specs.Stages.{IsFirstUnder, SolvesRelease, on_the_way}
use Rattle.cp_cohort.specs.GatheredLists.{EachGives, AreThoseWith, terms_onto, StartsGiving}
use Rattle.cp_skel.specs.Tables.{HaveTable}
use Rattle.cp_cohort.specs.CoveringChildren.{Child, child, declarations_among, IsTransmissionBefore, HasGrown}

-- What is asked: under which patterns the critical component of the message received at the node of the skeleton is to be
-- released.
pub record GuardedTest : Type 0 where
  pub skeleton : Skeleton
  pub node : Node
  pub critical : Term
  pub patterns : List Pattern

abbrev pub guarded_test_of : Skeleton → Node → Term → List Pattern → GuardedTest
guarded_test_of k n c ps = record { skeleton = k; node = n; critical = c; patterns = ps }

-- All carried positions of a term, in preorder.
abbrev pub positions : Term → List (List Step)
positions = positions_where (λ t. true)

-- ---- contracted

-- What the position of a transmission before the node gives. Inside the patterns, or where the critical term stands already
-- or nothing ever equals it, nothing; else the normal forms of the skeleton under the most general unifier.
pub data Contracts (q : GuardedTest) (o : LocatedEvent) (path : List Step) : List Child → Type 0 where
  is_inside : IsInside q.patterns unchanged (payload o.event) path → Contracts q o path []
  is_critical : term_at (payload o.event) path ≡ Some q.critical → Contracts q o path []
  never_equal : {t : Term} → term_at (payload o.event) path ≡ Some t → NeverEqual t q.critical → Contracts q o path []
  unified : {t : Term} {s : Substitution} {l : Skeleton} {forms : List Skeleton} → (IsInside q.patterns unchanged (payload o.event) path → ⊥) → term_at (payload o.event) path ≡ Some t → t ≢ q.critical
      → UnifiesMostGenerally t q.critical s → SaysTheSame (skeleton_under s q.skeleton) l → HasForms l forms → HaveTable q.skeleton.variables forms → Contracts q o path (map (child (by_contraction o.node) path) forms)

-- Each transmission of a role strand before the node, by strand and index, and each carried position of it.
pub record AreContracted (q : GuardedTest) (children : List Child) : Type 0 where
  pub sent : List LocatedEvent
  pub before : AreThoseWith (IsTransmissionBefore q.skeleton q.node) (events_of q.skeleton) sent
  pub each : EachGives (λ o. EachGives (Contracts q o) (positions (payload o.event))) sent children

-- ---- displaced and added

-- What a grown skeleton gives, in which event j of strand s is to release the term at the position: nothing, where put before
-- the node it closes a cycle, or where what stands at the position never equals the critical term; else what solves the
-- release, from the skeleton under the most general unifier.
pub data Releases (q : GuardedTest) (operation : Operation) (r : Release) (grown : Skeleton) : List Child → Type 0 where
  cyclic : {y : Node} → Before (put_before (node_at r.strand r.index) q.node grown) y y → Releases q operation r grown []
  never_equal : {t u : Term} → term_event_at grown.strands (node_at r.strand r.index) ≡ Some (send t) → term_at t r.path ≡ Some u → NeverEqual u q.critical → Releases q operation r grown []
  unified : {t u : Term} {s : Substitution} {x : PartialSolution} {settled : List PartialSolution} → ((y : Node) → Before (put_before (node_at r.strand r.index) q.node grown) y y → ⊥)
      → term_event_at grown.strands (node_at r.strand r.index) ≡ Some (send t) → term_at t r.path ≡ Some u → UnifiesMostGenerally u q.critical s
      → IsFirstUnder (put_before (node_at r.strand r.index) q.node grown) s x → SolvesRelease r on_the_way x settled
      → Releases q operation r grown (map (λ x. child operation r.path x.skeleton) settled)

-- What is to be released at a position of event j of strand s.
abbrev pub release_at : GuardedTest → ℕ → ℕ → List Step → Release
release_at q s j path = record { patterns = q.patterns; critical = q.critical; strand = s; index = j; path = path }

-- What event j of the role of strand s gives: nothing where it is a reception, or before the node already; else, with the
-- strand made high enough to have the event, what each carried position of the message sent there does.
pub data DisplacesEvent (q : GuardedTest) (s : ℕ) (role : Role) (height j : ℕ) : List Child → Type 0 where
  is_reception : {t : Term} → item_at role.trace j ≡ Some (recv t) → DisplacesEvent q s role height j []
  is_before : Before q.skeleton (node_at s j) q.node → DisplacesEvent q s role height j []
  is_displaced : {t sent : Term} {grown : Skeleton} {children : List Child} → item_at role.trace j ≡ Some (send t) → (Before q.skeleton (node_at s j) q.node → ⊥)
      → HasGrown s role height j q.skeleton grown → term_event_at grown.strands (node_at s j) ≡ Some (send sent)
      → EachGives (λ path. Releases q (by_displacement (node_at s j)) (release_at q s j path) grown) (positions sent) children → DisplacesEvent q s role height j children

-- What strand s gives: nothing where it is a listener or the node's own; else what each event of its role does.
pub data DisplacesStrand (q : GuardedTest) (s : ℕ) : List Child → Type 0 where
  of_listener : {t : Term} → item_at q.skeleton.strands s ≡ Some (listener t) → DisplacesStrand q s []
  of_node : s ≡ q.node.strand → DisplacesStrand q s []
  of_role : {role : Role} {height : ℕ} {terms : List Binding} {children : List Child} → item_at q.skeleton.strands s ≡ Some (instance role height terms) → s ≢ q.node.strand
      → EachGives (DisplacesEvent q s role height) (numbers_from 0 role.trace) children → DisplacesStrand q s children

-- What a position of event j of a role gives: a new strand of the role ends with that event; its variables, in the order in
-- which the role declares them, are later than all others.
pub record AddsAt (q : GuardedTest) (role : Role) (j : ℕ) (path : List Step) (children : List Child) : Type 0 where
  pub grown : Skeleton
  pub adds : AddsStrand role (suc j) (fresh_terms (length q.skeleton.variables) (prefix_variables role (suc j))) q.skeleton grown
  pub variables : grown.variables ≡ q.skeleton.variables ++ declarations_among role (prefix_variables role (suc j))
  pub releases : Releases q (by_added_strand (length q.skeleton.strands)) (release_at q (length q.skeleton.strands) j path) grown children

-- What event j of a role gives: nothing where it is a reception, else what each of its carried positions does.
pub data AddsEvent (q : GuardedTest) (role : Role) (j : ℕ) : List Child → Type 0 where
  is_reception : {t : Term} → item_at role.trace j ≡ Some (recv t) → AddsEvent q role j []
  is_added : {t : Term} {children : List Child} → item_at role.trace j ≡ Some (send t) → EachGives (AddsAt q role j) (positions t) children → AddsEvent q role j children

-- The first of the children that event j of a role gives, up to all those of one position.
pub record StartsEvent (q : GuardedTest) (role : Role) (j : ℕ) (children : List Child) : Type 0 where
  pub message : Term
  pub sent : item_at role.trace j ≡ Some (send message)
  pub start : StartsGiving (AddsAt q role j) (AddsAt q role j) (positions message) children

-- The first of the children with an added strand, up to all those of one position.
abbrev pub AreFirstAdded : Protocol → GuardedTest → List Child → Type 0
AreFirstAdded protocol q = StartsGiving (λ role. EachGives (AddsEvent q role) (numbers_from 0 role.trace)) (λ role. StartsGiving (AddsEvent q role) (StartsEvent q role) (numbers_from 0 role.trace)) protocol.roles

-- ---- listeners

-- What may set the critical term free: where it is an encryption, its key, if that is not derivable at the node, and else its
-- plaintext.
pub data FreesCritical (q : GuardedTest) : List Term → Type 0 where
  by_key : {body : Term} {key : KeyTerm} → q.critical ≡ enc_term body key → (DerivableAt q.skeleton q.node (atom_term (key_term key)) → ⊥) → FreesCritical q (atom_term (key_term key) ∷ [])
  by_body : {body : Term} {key : KeyTerm} → q.critical ≡ enc_term body key → DerivableAt q.skeleton q.node (atom_term (key_term key)) → FreesCritical q (body ∷ [])
  by_nothing : ((body : Term) (key : KeyTerm) → q.critical ≢ enc_term body key) → FreesCritical q []

-- The inverse of the pattern's key.
pub record OpensPattern (p : Pattern) (ts : List Term) : Type 0 where
  pub body : Term
  pub key : KeyTerm
  pub is_pattern : p.term ≡ enc_term body key
  pub inverse : ts ≡ atom_term (key_term (inverse_term key)) ∷ []

-- What a listener on the term gives: its transmission is put before the node.
pub record Listens (q : GuardedTest) (t : Term) (children : List Child) : Type 0 where
  pub added : Skeleton
  pub adds : AddsListener t q.skeleton added
  pub forms : List Skeleton
  pub normal : HasForms (put_before (node_at (length q.skeleton.strands) 1) q.node added) forms
  pub table : HaveTable q.skeleton.variables forms
  pub are_children : children ≡ map (child (by_added_listener (length q.skeleton.strands)) []) forms

-- The listeners: on what may set the critical term free, and then, for each pattern in order, on the inverse of its key; each
-- term once.
pub record AreListeners (q : GuardedTest) (children : List Child) : Type 0 where
  pub frees : List Term
  pub opens : List Term
  pub critical : FreesCritical q frees
  pub patterns : EachGives OpensPattern q.patterns opens
  pub each : EachGives (Listens q) (terms_onto [] (frees ++ opens)) children

-- ---- the cohort

-- The children of a test, all of them, in their order: contracted, displaced, with a strand added, with a listener added.
pub record IsCohort (protocol : Protocol) (q : GuardedTest) (children : List Child) : Type 0 where
  pub contracted : List Child
  pub displaced : List Child
  pub added : List Child
  pub listeners : List Child
  pub are_contracted : AreContracted q contracted
  pub are_displaced : EachGives (DisplacesStrand q) (numbers_from 0 q.skeleton.strands) displaced
  pub are_added : EachGives (λ role. EachGives (AddsEvent q role) (numbers_from 0 role.trace)) protocol.roles added
  pub are_listeners : AreListeners q listeners
  pub whole : children ≡ contracted ++ (displaced ++ (added ++ listeners))

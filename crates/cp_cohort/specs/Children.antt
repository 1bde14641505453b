-- How a list of children grows, and how skeletons do.
use Rattle.std.specs.Prelude.{◌≡◌, ℕ, suc, List, [], ◌∷◌, ◌++◌, length, map, Some, false}
use Rattle.cp_lists.specs.Lists.{item_at}
use Rattle.cp_model.specs.Term.{Term, variable_term}
use Rattle.cp_model.specs.Strand.{payload, Role}
use Rattle.cp_model.specs.declared.strand.Event.{Event}
use Rattle.cp_model.specs.declared.strand.Event.TheVariants.{Send as send, Receive as recv}
use Rattle.cp_model.specs.declared.variable.Declaration.{Declaration}
use Rattle.cp_model.specs.declared.node.Node.{Node}
use Rattle.cp_model.specs.Skeleton.{term_event_at, listener, Skeleton}
use Rattle.cp_model.specs.declared.tree.Operation.{Operation}
use Rattle.cp_model.specs.declared.step.Step.{Step}
use Rattle.cp_model.specs.Positions.{term_at}
use Rattle.cp_model.specs.PrefixVariables.{prefix_variables}
use Rattle.cp_normal.specs.Exact.{HasForms}
use Rattle.cp_pattern.specs.Candidates.{may_equal, carries_where}
use Rattle.cp_model.specs.Extensions.{AddsStrand}
use Rattle.cp_strand.specs.View.{InstanceData, instance_view}
use Rattle.cp_skel.specs.Tables.{HaveTable, DiffersInTable}
use Rattle.cp_skel.specs.Events.{LocatedEvent}
use Rattle.cp_theory.specs.Covering.{put_before}
use Rattle.cp_theory.specs.Fresh.{fresh_terms}
use Rattle.cp_cohort.specs.GatheredLists.{EachGives, StartsGiving}
use Rattle.cp_cohort.specs.CoveringChildren.{Child, child, declarations_among, IsTransmissionBefore, HasGrown}
use Rattle.cp_cohort.specs.Cohort.{GuardedTest, positions, Contracts, Releases, release_at}

-- Event j of these is a reception, or a transmission of a message that carries nothing that values make equal to the term.
pub data NeverSends (c : Term) (trace : List (Event Term)) (j : ℕ) : Type 0 where
  receives : {t : Term} → item_at trace j ≡ Some (recv t) → NeverSends c trace j
  sends_others : {t : Term} → item_at trace j ≡ Some (send t) → carries_where (may_equal c) t ≡ false → NeverSends c trace j

-- A listener on the term is added as strand number s, and its transmission is put before the node.
abbrev pub AddsListenerBefore : GuardedTest → Term → ℕ → Skeleton → Type 0
AddsListenerBefore q t s new = new ≡ put_before (record { strand = s; index = 1 }) q.node (record q.skeleton { strands = q.skeleton.strands ++ listener t ∷ [] })

-- These are the normal forms of a skeleton with its variables, as children.
pub record AreChildrenOfForms (operation : Operation) (path : List Step) (k : Skeleton) (children : List Child) : Type 0 where
  pub forms : List Skeleton
  pub normal : HasForms k forms
  pub table : HaveTable k.variables forms
  pub are_children : children ≡ map (child operation path) forms

-- What an event gives that is not the transmission of a role strand before the node: nothing; and what one gives that is.
pub data ContractsEvent (q : GuardedTest) (o : LocatedEvent) : List Child → Type 0 where
  not_before : (IsTransmissionBefore q.skeleton q.node o → ⊥) → ContractsEvent q o []
  is_before : {children : List Child} → IsTransmissionBefore q.skeleton q.node o → EachGives (Contracts q o) (positions (payload o.event)) children → ContractsEvent q o children

-- A new variable is declared as d is, later than all others, and put behind the values as a term; all else stays.
pub record Declares (d : Declaration) (old new : Skeleton) (values values' : List Term) : Type 0 where
  pub declared : new.variables ≡ old.variables ++ d ∷ []
  pub count : length new.variables ≡ suc (length old.variables)
  pub rest : DiffersInTable old new
  pub put : values' ≡ values ++ variable_term (record { sort = d.sort; number = length old.variables }) ∷ []

-- The path is a carried position of the term.
pub record IsPosition (t : Term) (path : List Step) : Type 0 where
  pub part : Term
  pub there : term_at t path ≡ Some part

-- Strand number s is this instance.
abbrev pub IsThere : Skeleton → ℕ → InstanceData → Type 0
IsThere k s i = item_at k.strands s ≡ Some (instance_view i)

-- The strand has grown, and is an instance of its role that has event j.
pub record IsGrown (q : GuardedTest) (s : ℕ) (role : Role) (height j : ℕ) (k : Skeleton) : Type 0 where
  pub grows : HasGrown s role height j q.skeleton k

-- A strand of the role is added, which ends with event j.
pub record AddsRoleStrand (q : GuardedTest) (role : Role) (j : ℕ) (k : Skeleton) : Type 0 where
  pub adds : AddsStrand role (suc j) (fresh_terms (length q.skeleton.variables) (prefix_variables role (suc j))) q.skeleton k
  pub variables : k.variables ≡ q.skeleton.variables ++ declarations_among role (prefix_variables role (suc j))

-- What a grown skeleton gives at one position of the message that is sent at the node.
abbrev pub ReleasesAt : GuardedTest → Operation → Node → Skeleton → List Step → List Child → Type 0
ReleasesAt q operation m grown path children = Releases q operation (release_at q m.strand m.index path) grown children

-- What it gives at each of them.
abbrev pub ReleasesEach : GuardedTest → Operation → Node → Skeleton → List Child → Type 0
ReleasesEach q operation m grown children = (t : Term) → term_event_at grown.strands m ≡ Some (send t) → EachGives (ReleasesAt q operation m grown) (positions t) children

-- What it gives at one position of the message, where it has been put before the node.
abbrev pub ReleasesPut : GuardedTest → Operation → Node → Skeleton → Term → List Step → List Child → Type 0
ReleasesPut q operation m put t path children = (grown : Skeleton) → put ≡ put_before m q.node grown → term_event_at grown.strands m ≡ Some (send t) → ReleasesAt q operation m grown path children

-- The first of what it gives, up to all that one position of the message gives.
abbrev pub StartsReleasing : GuardedTest → Operation → Node → Skeleton → List Child → Type 0
StartsReleasing q operation m grown children = (t : Term) → term_event_at grown.strands m ≡ Some (send t) → StartsGiving (ReleasesAt q operation m grown) (ReleasesAt q operation m grown) (positions t) children

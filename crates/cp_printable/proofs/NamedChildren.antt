-- The node or strand that a child of a test names is one of its skeleton.
use Rattle.std.proofs.Common.{◌≡◌, ℕ, ◌<◌, List, [], length, Option, Some, None, refl, sym, ap, subst, ⊎_elim}
use Rattle.cp_lists.specs.Lists.{item_at, IsIn}
use Rattle.cp_lists.proofs.Items.{item_below, item_last, there_or_none}
use Rattle.cp_model.specs.Term.{Term}
use Rattle.cp_model.specs.Strand.{Role, Protocol}
use Rattle.cp_model.specs.declared.strand.Event.TheVariants.{Send as send}
use Rattle.cp_model.specs.Bundle.{node_at}
use Rattle.cp_model.specs.declared.node.Node.{Node}
use Rattle.cp_model.specs.Skeleton.{SkeletonStrand, listener, skeleton_trace_or_none, IsNodeOf, Skeleton}
use Rattle.cp_model.specs.declared.tree.Operation.{Operation}
use Rattle.cp_model.specs.declared.tree.Operation.TheVariants.{Problem as by_problem, Collapsed as by_collapse, Contracted as by_contraction, Displaced as by_displacement, AddedStrand as by_added_strand, AddedListener as by_added_listener, Generalised as by_generalising}
use Rattle.cp_model.specs.declared.step.Step.{Step}
use Rattle.cp_model.specs.Extensions.{AddsListener}
use Rattle.cp_skel.specs.Events.{LocatedEvent, events_of}
use Rattle.cp_skel.proofs.EventLists.{listed_event}
use Rattle.cp_theory.specs.Covering.{put_before}
use Rattle.cp_cohort.specs.Releases.{Release}
use Rattle.cp_cohort.specs.declared.child.Child.{Child}
use Rattle.cp_cohort.specs.CoveringChildren.{child}
use Rattle.cp_cohort.specs.Cohort.{GuardedTest, release_at, AddsAt, IsCohort}
use Rattle.cp_cohort.specs.Cohort as cohort
use Rattle.cp_cohort.proofs.EachChild.{DisplacesAt, ComesOfContracting, ComesOfListening, of_contracted, of_released, of_listened, each_child}
use Rattle.cp_printable.proofs.KeptNodes.{nodes_like_under, nodes_forms, nodes_settle}

-- The operation is a step that a test allows, and the node or strand that it names is one of the skeleton.
abbrev pub NamesIn : Skeleton → Operation → Type 0
NamesIn k by_problem = ⊥
NamesIn k (by_collapse ps) = ⊥
NamesIn k (by_contraction n) = IsNodeOf k.strands n
NamesIn k (by_displacement n) = IsNodeOf k.strands n
NamesIn k (by_added_strand s) = s < length k.strands
NamesIn k (by_added_listener s) = s < length k.strands
NamesIn k by_generalising = ⊥

abbrev pub IsNamed : Child → Type 0
IsNamed c = NamesIn c.skeleton c.operation

-- The strand of a node is there.
strand_of_node : (ss : List SkeletonStrand) (n : Node) → IsNodeOf ss n → n.strand < length ss
strand_of_node ss n is =
    ⊎_elim
    (λ (h : (x : SkeletonStrand) × (item_at ss n.strand ≡ Some x)). item_below ss n.strand h.0 h.1)
    (λ (e : item_at ss n.strand ≡ None).
    absurd (let past : item_at (skeleton_trace_or_none None) n.index ≡ Some is.0 = subst (λ (o : Option SkeletonStrand). item_at (skeleton_trace_or_none o) n.index ≡ Some is.0) e is.1 in cc))
    (there_or_none (item_at ss n.strand))

-- The transmission of a new listener.
listener_node : (t : Term) (k l : Skeleton) → AddsListener t k l → IsNodeOf l.strands (node_at (length k.strands) 1)
listener_node t k l adds =
    subst (λ (x : Skeleton). IsNodeOf x.strands (node_at (length k.strands) 1)) (sym adds) (send t, ap (λ (o : Option SkeletonStrand). item_at (skeleton_trace_or_none o) 1) (item_last k.strands (listener t)))

module _ (q : GuardedTest) where
  -- ---- contracted

  contracted_named : (o : LocatedEvent) → IsIn o (events_of q.skeleton) → (path : List Step) (r : Skeleton) → ComesOfContracting q o path r → IsNamed (child (by_contraction o.node) path r)
  contracted_named o there_is path r c = nodes_forms c.under c.forms c.has r c.listed o.node (nodes_like_under c.unifier q.skeleton c.under c.same o.node (o.event, listed_event q.skeleton o there_is))

  -- ---- released

  -- The child was made by the operation, and the node is one of its skeleton.
  record HasReleased (operation : Operation) (n : Node) (d : Child) : Type 0 where
    by : d.operation ≡ operation
    node : IsNodeOf d.skeleton.strands n

  releases_node : (operation : Operation) (r : Release) (grown : Skeleton) (children : List Child) → cohort.Releases q operation r grown children
      → (d : Child) → IsIn d children → HasReleased operation (node_at r.strand r.index) d
  releases_node operation r grown =
      of_released q (HasReleased operation (node_at r.strand r.index)) operation r grown
      (λ x c.
      let n = node_at r.strand r.index in
      let put : Skeleton = put_before n q.node grown in
      record { by = refl; node = nodes_settle r c.settles x c.listed n (nodes_like_under c.unifier put c.first.skeleton c.is_first.same n (send c.message, c.sent)) })

  displaced_at : (s : ℕ) (role : Role) (height j : ℕ) (path : List Step) (children : List Child) → DisplacesAt q s role height j path children → (d : Child) → IsIn d children → IsNamed d
  displaced_at s role height j path children a d i =
      let h = releases_node (by_displacement (node_at s j)) (release_at q s j path) a.grown children a.releases d i in
      subst (NamesIn d.skeleton) (sym h.by) h.node

  added_at : (role : Role) (j : ℕ) (path : List Step) (children : List Child) → AddsAt q role j path children → (d : Child) → IsIn d children → IsNamed d
  added_at role j path children a d i =
      let s = length q.skeleton.strands in
      let h = releases_node (by_added_strand s) (release_at q s j path) a.grown children a.releases d i in
      subst (NamesIn d.skeleton) (sym h.by) (strand_of_node d.skeleton.strands (node_at s j) h.node)

  -- ---- listeners

  listened_named : (t : Term) (r : Skeleton) → ComesOfListening q t r → IsNamed (child (by_added_listener (length q.skeleton.strands)) [] r)
  listened_named t r l =
      let s = length q.skeleton.strands in
      let put : Skeleton = put_before (node_at s 1) q.node l.added in
      strand_of_node r.strands (node_at s 1) (nodes_forms put l.forms l.normal r l.listed (node_at s 1) (listener_node t q.skeleton l.added l.adds))

  -- ---- the cohort

  pub named_child : (protocol : Protocol) (children : List Child) → IsCohort protocol q children → (d : Child) → IsIn d children → IsNamed d
  named_child protocol = each_child protocol q IsNamed (record {
    contracted = λ o there_is before path. of_contracted q IsNamed o path (contracted_named o there_is path);
    displaced = λ s role height terms on apart j t sent none. displaced_at s role height j;
    added = λ role listed j t sent. added_at role j;
    listened = λ t free. of_listened q IsNamed t (listened_named t);
  })

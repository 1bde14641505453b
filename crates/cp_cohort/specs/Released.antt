-- What the operation of a child says of it.
use Rattle.std.specs.Prelude.{◌≡◌, ◌≢◌, ℕ, suc, ◌<◌, length, map, Some, List}
use Rattle.cp_lists.specs.Lists.{item_at, IsIn}
use Rattle.cp_model.specs.Term.{KeyTerm, key_term, inverse_term, Term, atom_term, enc_term, Substitution, apply_to}
use Rattle.cp_model.specs.Bindings.{Binding}
use Rattle.cp_model.specs.Strand.{payload, Role}
use Rattle.cp_model.specs.declared.strand.Event.{Event}
use Rattle.cp_model.specs.declared.strand.Event.TheVariants.{Send as send}
use Rattle.cp_model.specs.Bundle.{node_at}
use Rattle.cp_model.specs.declared.node.Node.{Node}
use Rattle.cp_model.specs.Skeleton.{instance, listener, term_event_at, Before}
use Rattle.cp_model.specs.Derivable.{IsOnInstance, DerivableAt}
use Rattle.cp_model.specs.Homomorphism.{IsHomomorphism}
use Rattle.cp_model.specs.Tree.{Pattern}
use Rattle.cp_model.specs.declared.tree.Operation.{Operation}
use Rattle.cp_model.specs.declared.tree.Operation.TheVariants.{Contracted as by_contraction, Displaced as by_displacement, AddedStrand as by_added_strand, AddedListener as by_added_listener}
use Rattle.cp_model.specs.Positions.{term_at}
use Rattle.cp_theory.specs.Inside.{IsInside, CarriesInsideAlone}
use Rattle.cp_cohort.specs.CoveringChildren.{Child}
use Rattle.cp_cohort.specs.Cohort.{GuardedTest}

-- A substitution by which the child comes from the test's skeleton: its strands stay where they are, and so do those of the
-- problem.
pub record IsChildBySubstitution (q : GuardedTest) (c : Child) : Type 0 where
  pub substitution : Substitution
  pub homomorphism : IsHomomorphism q.skeleton c.skeleton (record { strands = λ s. s; terms = substitution })
  pub problem_strands : q.skeleton.from_problem.strands ≡ c.skeleton.from_problem.strands
  pub problem_values : map (apply_to substitution) q.skeleton.from_problem.values ≡ c.skeleton.from_problem.values

-- In the child the node, before that of the test, is a transmission that carries the critical term at the child's position.
pub record CarriesCritical (q : GuardedTest) (c : Child) (by : IsChildBySubstitution q c) (node : Node) : Type 0 where
  pub message : Term
  pub sent : term_event_at c.skeleton.strands node ≡ Some (send message)
  pub before : Before c.skeleton node q.node
  pub stands : term_at message c.path ≡ Some (apply_to by.substitution q.critical)

-- It carries the term there outside the patterns, and the earlier events of its strand carry the term inside them alone.
pub record ReleasesCritical (q : GuardedTest) (c : Child) (by : IsChildBySubstitution q c) (node : Node) : Type 0 where
  pub carries : CarriesCritical q c by node
  pub outside : IsInside q.patterns by.substitution carries.message c.path → ⊥
  pub inside_before : (i : ℕ) (event : Event Term) → i < node.index → term_event_at c.skeleton.strands (node_at node.strand i) ≡ Some event → CarriesInsideAlone q.patterns by.substitution (apply_to by.substitution q.critical) (payload event)

-- The node is of an instance of the test's skeleton, and before the test there already; in the child it carries the critical
-- term.
pub record CarriesAlready (q : GuardedTest) (c : Child) (by : IsChildBySubstitution q c) (node : Node) : Type 0 where
  pub on_instance : IsOnInstance q.skeleton node
  pub before_already : Before q.skeleton node q.node
  pub carries : CarriesCritical q c by node

-- The node is of an instance of the child, on a strand that is an instance of the test's skeleton, other than the test's own;
-- it was not before the test there, and in the child it releases the critical term.
pub record ReleasesFromElsewhere (q : GuardedTest) (c : Child) (by : IsChildBySubstitution q c) (node : Node) : Type 0 where
  pub on_instance : IsOnInstance c.skeleton node
  pub was_instance : IsOnInstance q.skeleton node
  pub apart : node.strand ≢ q.node.strand
  pub not_before : Before q.skeleton node q.node → ⊥
  pub releases : ReleasesCritical q c by node

-- Strand s of the child is new, an instance that ends with a node that releases the critical term.
pub record EndsByReleasing (q : GuardedTest) (c : Child) (by : IsChildBySubstitution q c) (s : ℕ) : Type 0 where
  pub is_new : s ≡ length q.skeleton.strands
  pub role : Role
  pub index : ℕ
  pub terms : List Binding
  pub on_instance : item_at c.skeleton.strands s ≡ Some (instance role (suc index) terms)
  pub releases : ReleasesCritical q c by (node_at s index)

-- What may set the critical term free. Where it is an encryption: its key, if that is not derivable at the test, and else its
-- plaintext. And always the inverse of a pattern's key.
pub data SetsFree (q : GuardedTest) : Term → Type 0 where
  critical_key : {body : Term} {key : KeyTerm} → q.critical ≡ enc_term body key → (DerivableAt q.skeleton q.node (atom_term (key_term key)) → ⊥) → SetsFree q (atom_term (key_term key))
  critical_body : {body : Term} {key : KeyTerm} → q.critical ≡ enc_term body key → DerivableAt q.skeleton q.node (atom_term (key_term key)) → SetsFree q body
  pattern_key : {p : Pattern} {body : Term} {key : KeyTerm} → IsIn p q.patterns → p.term ≡ enc_term body key → SetsFree q (atom_term (key_term (inverse_term key)))

-- Strand s of the child is new, a listener on what may set the critical term free, and before the node of the test.
pub record HasNewListenerBefore (q : GuardedTest) (c : Child) (by : IsChildBySubstitution q c) (s : ℕ) : Type 0 where
  pub is_new : s ≡ length q.skeleton.strands
  pub term : Term
  pub sets_free : SetsFree q term
  pub on_listener : item_at c.skeleton.strands s ≡ Some (listener (apply_to by.substitution term))
  pub before : Before c.skeleton (node_at s 1) q.node

-- What the operation says of the child.
abbrev pub Says : (q : GuardedTest) (c : Child) → IsChildBySubstitution q c → Operation → Type 0
Says q c by (by_contraction node) = CarriesAlready q c by node
Says q c by (by_displacement node) = ReleasesFromElsewhere q c by node
Says q c by (by_added_strand s) = EndsByReleasing q c by s
Says q c by (by_added_listener s) = HasNewListenerBefore q c by s
Says q c by _ = ⊥

-- The child comes by a substitution from the test's skeleton, and is what its operation says.
pub record HasItsOperation (q : GuardedTest) (c : Child) : Type 0 where
  pub by : IsChildBySubstitution q c
  pub is_so : Says q c by c.operation

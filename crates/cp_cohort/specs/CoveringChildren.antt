-- Children of a test, and what they are made of: new variables, transmissions, grown strands and normal forms.
use Rattle.std.specs.Prelude.{◌≡◌, ◌⊎◌, ℕ, suc, ◌<◌, ◌≤◌, List, [], ◌∷◌, ◌++◌, length, Option, Some, None, true}
use Rattle.cp_lists.specs.Lists.{item_at}
use Rattle.cp_model.specs.Term.{Term}
use Rattle.cp_model.specs.declared.variable.Variable.{Variable}
use Rattle.cp_model.specs.Strand.{Role}
use Rattle.cp_model.specs.declared.strand.Event.TheVariants.{Send as send}
use Rattle.cp_model.specs.declared.variable.Declaration.{Declaration}
use Rattle.cp_model.specs.declared.node.Node.{Node}
use Rattle.cp_model.specs.Skeleton.{Skeleton, Before}
use Rattle.cp_model.specs.declared.tree.Operation.{Operation}
use Rattle.cp_model.specs.declared.step.Step.{Step}
use Rattle.cp_model.specs.PrefixVariables.{added_variables}
use Rattle.cp_model.specs.Extensions.{Extends}
use Rattle.cp_skel.specs.Events.{LocatedEvent}
use Rattle.cp_theory.specs.Fresh.{fresh_terms}
-- A child of a test: its skeleton, whose table has the variables made for it, the operation that made it, and the position at
-- which the event that the operation names carries the critical term; none for a listener.
pub use Rattle.cp_cohort.specs.declared.child.Child.{Child}

abbrev pub child : Operation → List Step → Skeleton → Child
child operation path k = record { skeleton = k; operation = operation; path = path }

-- The declarations of a role's variables.
abbrev pub declaration_onto : Option Declaration → List Declaration → List Declaration
declaration_onto None ds = ds
declaration_onto (Some d) ds = d ∷ ds

abbrev pub declarations_among : Role → List Variable → List Declaration
declarations_among role [] = []
declarations_among role (x ∷ xs) = declaration_onto (item_at role.variables x.number) (declarations_among role xs)

-- The event is a transmission of a role strand before the node.
pub record IsTransmissionBefore (k : Skeleton) (n : Node) (o : LocatedEvent) : Type 0 where
  pub by_role : o.by_role ≡ true
  pub message : Term
  pub sent : o.event ≡ send message
  pub before : Before k o.node n

-- Strand s, an instance of the role of this height in the old skeleton, has event j in the new one: it was high enough, and
-- nothing changes; or it has grown to it, and its new variables, in the order in which the role declares them, are later than
-- all others.
pub record HasGrown (s : ℕ) (role : Role) (height j : ℕ) (old new : Skeleton) : Type 0 where
  pub how : ((j < height) × (new ≡ old))
      ⊎ ((height ≤ j) × (new.variables ≡ old.variables ++ declarations_among role (added_variables role height (suc j))) × Extends s (suc j) (fresh_terms (length old.variables) (added_variables role height (suc j))) old new)

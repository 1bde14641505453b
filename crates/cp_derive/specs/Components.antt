-- The components of a message, and the first one that cannot be derived.
use Rattle.std.specs.Prelude.{◌≡◌, List, [], ◌∷◌, ◌++◌, map}
use Rattle.cp_lists.specs.Lists.{IsIn}
use Rattle.cp_model.specs.Term.{Term, tag_term, atom_term, pair_term, enc_term}
use Rattle.cp_model.specs.declared.step.Step.{Step}
use Rattle.cp_model.specs.declared.step.Step.TheVariants.{Left, Right}

-- A component, and the path to it.
pub record Component : Type 0 where
  pub path : List Step
  pub term : Term

abbrev pub components_below : Step → List Component → List Component
components_below s components = map (λ c. record { path = s ∷ c.path; term = c.term }) components

-- The components of a term: the parts of its pair tree that are no pairs, from left to right.
abbrev pub components_of : Term → List Component
components_of (tag_term bytes) = record { path = []; term = tag_term bytes } ∷ []
components_of (atom_term a) = record { path = []; term = atom_term a } ∷ []
components_of (pair_term a b) = components_below Left (components_of a) ++ components_below Right (components_of b)
components_of (enc_term a k) = record { path = []; term = enc_term a k } ∷ []

-- The component at this path is the first of the term's that cannot be derived, where these terms can: all before it
-- can.
pub record IsFirstUnderivable (CanBeDerived : Term → Type 0) (t : Term) (path : List Step) (component : Term) : Type 0 where
  pub before : List Component
  pub after : List Component
  pub among : components_of t ≡ before ++ (record { path = path; term = component } ∷ after)
  pub underivable : CanBeDerived component → ⊥
  pub derivable : (d : Component) → IsIn d before → CanBeDerived d.term

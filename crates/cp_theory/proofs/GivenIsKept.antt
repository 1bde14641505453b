-- What a role gives to a strand is kept in the bundle by the strand that it goes to.
use Rattle.std.proofs.Common.{◌≡◌, ℕ, ◌<◌, ◌≤◌, List, Some, sym, ap, ◌∙◌, subst, ◌⊎◌, inl, inr, ⊎_elim, arith}
use Rattle.std.proofs.Common.{subst₂}
use Rattle.cp_lists.specs.Lists.{item_at, IsIn}
use Rattle.cp_lists.proofs.Members.{in_append}
use Rattle.cp_model.specs.Message.{Atom, atom}
use Rattle.cp_model.specs.Term.{AtomTerm, Assignment, value_of_atom, after, AgreeOn, apply_to_atom}
use Rattle.cp_model.specs.Bindings.{Binding, as_substitution}
use Rattle.cp_model.specs.Strand.{Role, Protocol, variables_of_prefix, prefix_of, Applies, AppliesAt, regular}
use Rattle.cp_model.specs.declared.strand.Event.TheVariants.{Send as send}
use Rattle.cp_model.specs.Bundle.{node_at, KeepsNon, KeepsPenetratorNon, KeepsUnique, KeepsRole, Bundle, IsBundle}
use Rattle.cp_model.specs.declared.node.Node.{Node}
use Rattle.cp_model.specs.Skeleton.{UniqueAt}
use Rattle.cp_model.proofs.LawTerms.{atom_after}
use Rattle.cp_model.proofs.LawAgreement.{agree_atom_value}
use Rattle.cp_model.proofs.LawPrefixes.{variables_of_higher, in_trace}
use Rattle.cp_lists.proofs.Items.{take_of_item}
use Rattle.cp_model.specs.GivenAssumptions.{IsGivenNon, IsGivenPenetratorNon, IsGivenUnique, AddsOnce}
use Rattle.cp_model.proofs.UnderVariables.{carried_variables}

-- An item of the new list is one of the old, or given.
pub old_or_given : {A : Type 0} {given : A → Type 0} {old new : List A} → AddsOnce given old new → (x : A) → IsIn x new → IsIn x old ⊎ given x
old_or_given {old = old} a x i = ⊎_elim inl (λ j. inr (a.only_given x j)) (in_append old a.more (subst (IsIn x) a.behind i))

module _ (protocol : Protocol) (b : Bundle) (is : IsBundle protocol b) (role : Role) (strand to_height : ℕ) (to_values : Assignment) (on : item_at b.strands strand ≡ Some (regular role to_height to_values))
    (height : ℕ) (at_least : height ≤ to_height) (terms : List Binding) (g : Assignment) (equal : AgreeOn (variables_of_prefix role height) (after g (as_substitution terms)) to_values) where
  kept : KeepsRole b.strands strand role to_height to_values
  kept = is.of_protocol.kept strand role to_height to_values on

  higher : (v : AtomTerm) → Applies role height v → Applies role to_height v
  higher v applies x i = variables_of_higher role height to_height at_least x (applies x i)

  value : (v : AtomTerm) → Applies role height v → value_of_atom to_values v ≡ value_of_atom g (apply_to_atom (as_substitution terms) v)
  value v applies = sym (agree_atom_value (after g (as_substitution terms)) to_values v (λ x i. equal x (applies x i))) ∙ atom_after g (as_substitution terms) v

  pub given_non_kept : (v : AtomTerm) → IsGivenNon role height terms v → KeepsNon b.strands (atom (value_of_atom g v))
  given_non_kept v given = subst (λ (a : Atom). KeepsNon b.strands (atom a)) (value given.atom given.applies ∙ ap (value_of_atom g) (sym given.same)) (kept.non given.atom given.listed (higher given.atom given.applies))

  pub given_penetrator_non_kept : (v : AtomTerm) → IsGivenPenetratorNon role height terms v → KeepsPenetratorNon b.strands (atom (value_of_atom g v))
  given_penetrator_non_kept v given = subst (λ (a : Atom). KeepsPenetratorNon b.strands (atom a)) (value given.atom given.applies ∙ ap (value_of_atom g) (sym given.same)) (kept.penetrator_non given.atom given.listed (higher given.atom given.applies))

  -- A value that originates in a prefix applies to it.
  applies_there : (v : AtomTerm) (i : ℕ) → AppliesAt role height v i → Applies role height v
  applies_there v i applies x inx =
      let o = applies.0 in
      in_trace (prefix_of role height) i (send o.sent) x (take_of_item height role.trace i (send o.sent) applies.1 o.transmission) (carried_variables o.carried x inx)

  pub given_unique_kept : (a : ℕ) (u : UniqueAt) (n : Node) → (given : IsGivenUnique role height terms a u) → n ≡ node_at strand given.index → KeepsUnique b.strands (atom (value_of_atom g u.value)) n
  given_unique_kept a u n given same =
      let below : given.index < height = given.applies.1 in
      let unique = kept.unique given.atom given.index given.listed (given.applies.0, omega arith) in
      subst₂ (λ (w : Atom) (m : Node). KeepsUnique b.strands (atom w) m) (value given.atom (applies_there given.atom given.index given.applies) ∙ ap (λ (z : UniqueAt). value_of_atom g z.value) (sym given.same)) (sym same) unique

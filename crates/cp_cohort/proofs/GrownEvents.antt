-- What a strand sends that has grown.
use Rattle.std.proofs.Common.{◌≡◌, ℕ, suc, List, length, Some, sym, ap, ◌∙◌, arith, inl, inr}
use Rattle.cp_lists.specs.Lists.{item_at}
use Rattle.cp_model.specs.Term.{Term, apply_to}
use Rattle.cp_model.specs.Bindings.{Binding, as_substitution}
use Rattle.cp_model.specs.Strand.{Role}
use Rattle.cp_model.specs.declared.strand.Event.TheVariants.{Send as send}
use Rattle.cp_model.specs.Bundle.{node_at}
use Rattle.cp_model.specs.declared.node.Node.{Node}
use Rattle.cp_model.specs.Skeleton.{instance, term_event_at, Skeleton}
use Rattle.cp_model.proofs.LawStandings.{event_of_higher}
use Rattle.cp_model.specs.Extensions.{Extends}
use Rattle.cp_model.specs.PrefixVariables.{added_variables}
use Rattle.cp_theory.specs.Fresh.{fresh_terms}
use Rattle.cp_cohort.specs.CoveringChildren.{HasGrown}

-- The node sends an instance of the term.
pub record Sends (k : Skeleton) (m : Node) (t : Term) : Type 0 where
  pub terms : List Binding
  pub there : term_event_at k.strands m ≡ Some (send (apply_to (as_substitution terms) t))

module _ (k : Skeleton) (s : ℕ) (role : Role) (height j : ℕ) (terms : List Binding) (t : Term) (on : item_at k.strands s ≡ Some (instance role height terms)) (sent : item_at role.trace j ≡ Some (send t))
    (grown : Skeleton) (grows : HasGrown s role height j k grown) where
  extended_sends : Extends s (suc j) (fresh_terms (length k.variables) (added_variables role height (suc j))) k grown → Sends grown (node_at s j) t
  extended_sends x =
      let both : Some (instance role height terms) ≡ Some (instance x.role x.before x.old_terms) = sym on ∙ x.was_instance in
      let same : x.role ≡ role = cc in
      let is : item_at grown.strands s ≡ Some (instance role (suc j) x.terms) = x.on_instance ∙ ap (λ (r : Role). Some (instance r (suc j) x.terms)) same in
      record { terms = x.terms; there = event_of_higher grown.strands s j role (suc j) x.terms (send t) is (omega arith) sent }

  pub grown_sends : Sends grown (node_at s j) t
  grown_sends = elim grows.how [
    | inl h ↦ record {
      terms = terms;
      there = ap (λ (l : Skeleton). term_event_at l.strands (node_at s j)) h.1 ∙ event_of_higher k.strands s j role height terms (send t) on h.0 sent;
    }
    | inr h ↦ extended_sends h.2
  ]

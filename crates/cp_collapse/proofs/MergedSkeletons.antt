-- A skeleton over a protocol whose strands are merged is one, where the merged order has no cycle.
use Rattle.std.proofs.Common.{◌≡◌, ◌≢◌, ℕ, List, Some, sym, ◌∙◌, subst}
use Rattle.cp_lists.specs.Lists.{item_at, IsIn}
use Rattle.cp_model.specs.Term.{AtomTerm, apply_to, apply_to_atom, composed, variable_term}
use Rattle.cp_model.specs.Bindings.{Binding, as_substitution}
use Rattle.cp_model.specs.Strand.{Role, Protocol, Applies}
use Rattle.cp_model.specs.declared.strand.Event.TheVariants.{Send as send, Receive as recv}
use Rattle.cp_model.specs.Bundle.{node_at}
use Rattle.cp_model.specs.Skeleton.{instance, UniqueAt, Skeleton, IsOrderPair, IsOrigin, GivesAssumptions, IsSkeleton}
use Rattle.cp_model.specs.declared.node.OrderPair.{OrderPair}
use Rattle.cp_model.proofs.LawTerms.{atom_composed}
use Rattle.cp_model.proofs.LawAgreement.{agree_atom}
use Rattle.cp_theory.proofs.Skeletons.{origin_along}
use Rattle.cp_collapse.specs.Partitions.{place_in}
use Rattle.cp_collapse.specs.Collapses.{onto_blocks, collapsed_pair, HasInstance, IsCollapsed, HasNoCycle}
use Rattle.cp_collapse.proofs.AssumptionImages.{assumptions_are}
use Rattle.cp_model.proofs.UnderVariables.{applies_at}
use Rattle.cp_collapse.proofs.Merged.{event_in}

module _ (k l : Skeleton) (p : List ℕ) (c : IsCollapsed k p l) where
  pair_goes : (q : OrderPair) → IsOrderPair k q → place_in p q.earlier.strand ≢ place_in p q.later.strand → IsOrderPair l (collapsed_pair p q)
  pair_goes q o other = record {
    sent = apply_to c.unifier o.sent;
    received = apply_to c.unifier o.received;
    transmission = event_in k l p c q.earlier (send o.sent) o.transmission;
    reception = event_in k l p c q.later (recv o.received) o.reception;
    between_strands = other;
  }

  -- The pairs of the merged skeleton are order pairs.
  pub merged_pairs : ((q : OrderPair) → IsIn q k.pairs → IsOrderPair k q) → (r : OrderPair) → IsIn r l.pairs → IsOrderPair l r
  merged_pairs order_pairs r listed =
      let h = (c.pairs r).0 listed in
      let q = h.0.0 in
      subst (IsOrderPair l) h.0.2 (pair_goes q (order_pairs q h.0.1) (subst (λ (d : OrderPair). d.earlier.strand ≢ d.later.strand) (sym h.0.2) h.1))

  merged_origins : ((u : UniqueAt) → IsIn u k.assumptions.uniquely_originating → IsOrigin k u) → (w : UniqueAt) → IsIn w l.assumptions.uniquely_originating → IsOrigin l w
  merged_origins origins w inw =
      let h = ((assumptions_are k l p c).unique w).0 inw in
      let u = h.0 in
      let o = origins u h.1 in
      subst (IsOrigin l) h.2 (origin_along k l (onto_blocks p c.unifier) u o (c.instances u.origin.strand o.role o.height o.terms o.on_instance) (event_in k l p c u.origin (send o.sent) o.transmission))

  -- What the merged strand's role gives, an instance of the block gave already.
  module _ (place : ℕ) (role : Role) (height : ℕ) (terms : List Binding) (at : item_at l.strands place ≡ Some (instance role height terms)) where
    abbrev one : HasInstance k p place role height
    one = c.tallest place role height terms at

    same_value : (v : AtomTerm) → Applies role height v → apply_to_atom c.unifier (apply_to_atom (as_substitution one.terms) v) ≡ apply_to_atom (as_substitution terms) v
    same_value v applies =
        let g = c.instances one.strand role height one.terms one.on_instance in
        let e : Some (instance role g.to_height g.to_terms) ≡ Some (instance role height terms) = sym g.on_instance ∙ subst (λ (s : ℕ). item_at l.strands s ≡ Some (instance role height terms)) (sym one.at_place) at in
        let t : g.to_terms ≡ terms = cc in
        sym (atom_composed (as_substitution one.terms) c.unifier v)
        ∙ agree_atom (composed (as_substitution one.terms) c.unifier) (as_substitution terms) v
        (λ x inx. subst (λ (d : List Binding). apply_to (composed (as_substitution one.terms) c.unifier) (variable_term x) ≡ apply_to (as_substitution d) (variable_term x)) t (g.equal_terms x (applies x inx)))

    merged_gives : GivesAssumptions k one.strand role height one.terms → GivesAssumptions l place role height terms
    merged_gives gives = record {
      non = λ v inv applies. ((assumptions_are k l p c).non (apply_to_atom (as_substitution terms) v)).1 (apply_to_atom (as_substitution one.terms) v, gives.non v inv applies, same_value v applies);
      penetrator_non = λ v inv applies. ((assumptions_are k l p c).penetrator_non (apply_to_atom (as_substitution terms) v)).1 (apply_to_atom (as_substitution one.terms) v, gives.penetrator_non v inv applies, same_value v applies);
      unique = λ v i inv applies.
          ((assumptions_are k l p c).unique (record { value = apply_to_atom (as_substitution terms) v; origin = node_at place i })).1 (
            record { value = apply_to_atom (as_substitution one.terms) v; origin = node_at one.strand i },
            gives.unique v i inv applies,
            λ j. record { value = same_value v (applies_at role height v i applies) j; origin = node_at (one.at_place j) i },
          );
    }

  pub merged_is_skeleton : (protocol : Protocol) → IsSkeleton protocol k → HasNoCycle l → IsSkeleton protocol l
  merged_is_skeleton protocol sk no_cycle = record {
    of_role = λ place role height terms at. let i = c.tallest place role height terms at in sk.of_role i.strand role height i.terms i.on_instance;
    heights = λ place role height terms at. let i = c.tallest place role height terms at in sk.heights i.strand role height i.terms i.on_instance;
    order_pairs = merged_pairs sk.order_pairs;
    no_cycle = no_cycle;
    origins = merged_origins sk.origins;
    given = λ place role height terms at. let i = c.tallest place role height terms at in merged_gives place role height terms at (sk.given i.strand role height i.terms i.on_instance);
  }

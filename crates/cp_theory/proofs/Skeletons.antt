-- A skeleton over a protocol is one under a substitution, and with pairs from recorded origins that close no cycle.
use Rattle.std.proofs.Common.{◌≡◌, ◌∙◌, ◌≢◌, ℕ, List, Some, map, sym, subst, ◌⊎◌, inl, inr}
use Rattle.cp_lists.specs.Lists.{item_at, IsIn}
use Rattle.cp_model.specs.Term.{AtomTerm, Term, Substitution, apply_to, apply_to_atom, composed}
use Rattle.cp_model.specs.Bindings.{Binding, as_substitution}
use Rattle.cp_model.specs.Strand.{event_map, Role, Protocol, Applies}
use Rattle.cp_model.specs.declared.strand.Event.{Event}
use Rattle.cp_model.specs.declared.strand.Event.TheVariants.{Send as send, Receive as recv}
use Rattle.cp_model.specs.Bundle.{node_at}
use Rattle.cp_model.specs.declared.node.Node.{Node}
use Rattle.cp_model.specs.Skeleton.{instance, skeleton_trace_or_none, term_event_at, UniqueAt, Skeleton, Before, IsOrderPair, IsOrigin, GivesAssumptions, IsSkeleton}
use Rattle.cp_model.specs.declared.node.OrderPair.{OrderPair}
use Rattle.cp_model.specs.Homomorphism.{SkeletonMap, mapped, GoesToInstance}
use Rattle.cp_model.specs.Stated.{unique_image}
use Rattle.cp_lists.proofs.Members.{into_map, from_map}
use Rattle.cp_lists.proofs.Items.{map_of_item}
use Rattle.cp_model.proofs.LawTerms.{carried_under, atom_composed}
use Rattle.cp_model.proofs.LawAgreement.{agree_atom}
use Rattle.cp_model.proofs.UnderVariables.{applies_at}
use Rattle.cp_theory.specs.Normal.{terms_under, IsOriginPair, with_pairs, AddOnlyOriginPairs, strand_under, unique_under, skeleton_under}
use Rattle.cp_theory.proofs.Under.{terms_kept, trace_under, before_of_under, instance_of_under}

pub event_under : (s : Substitution) (k : Skeleton) (n : Node) (e : Event Term) → term_event_at k.strands n ≡ Some e → term_event_at (skeleton_under s k).strands n ≡ Some (event_map (apply_to s) e)
event_under s k n e ev =
    subst (λ (tr : List (Event Term)). item_at tr n.index ≡ Some (event_map (apply_to s) e)) (sym (trace_under s k.strands n.strand)) (map_of_item (event_map (apply_to s)) (skeleton_trace_or_none (item_at k.strands n.strand)) n.index e ev)

pub pair_under : (s : Substitution) (k : Skeleton) (p : OrderPair) → IsOrderPair k p → IsOrderPair (skeleton_under s k) p
pair_under s k p o = record {
  sent = apply_to s o.sent;
  received = apply_to s o.received;
  transmission = event_under s k p.earlier (send o.sent) o.transmission;
  reception = event_under s k p.later (recv o.received) o.reception;
  between_strands = o.between_strands;
}

-- Where the strand of a recorded origin goes to one of its role, and its event with it, the image is a recorded origin.
pub origin_along : (k l : Skeleton) (f : SkeletonMap) (u : UniqueAt) (o : IsOrigin k u) → GoesToInstance l f u.origin.strand o.role o.height o.terms →
    term_event_at l.strands (mapped f u.origin) ≡ Some (send (apply_to f.terms o.sent)) → IsOrigin l (unique_image f u)
origin_along k l f u o g sent_there =
    record { role = o.role; height = g.to_height; terms = g.to_terms; on_instance = g.on_instance; sent = apply_to f.terms o.sent; transmission = sent_there; carried = carried_under f.terms o.carried }

pub origin_under : (s : Substitution) (k : Skeleton) (u : UniqueAt) → IsOrigin k u → IsOrigin (skeleton_under s k) (unique_under s u)
origin_under s k u o = record {
  role = o.role;
  height = o.height;
  terms = terms_under s o.role o.height o.terms;
  on_instance = map_of_item (strand_under s) k.strands u.origin.strand (instance o.role o.height o.terms) o.on_instance;
  sent = apply_to s o.sent;
  transmission = event_under s k u.origin (send o.sent) o.transmission;
  carried = carried_under s o.carried;
}

-- What applies to an instance has variables of its prefix alone.
value_under : (s : Substitution) (role : Role) (height : ℕ) (terms : List Binding) (v : AtomTerm) → Applies role height v → apply_to_atom s (apply_to_atom (as_substitution terms) v) ≡ apply_to_atom (as_substitution (terms_under s role height terms)) v
value_under s role height terms v applies =
    sym (atom_composed (as_substitution terms) s v) ∙ sym (agree_atom (as_substitution (terms_under s role height terms)) (composed (as_substitution terms) s) v (λ x i. terms_kept s role height terms x (applies x i)))

given_under : (s : Substitution) (k : Skeleton) (a : ℕ) (role : Role) (height : ℕ) (terms : List Binding) → GivesAssumptions k a role height terms → GivesAssumptions (skeleton_under s k) a role height (terms_under s role height terms)
given_under s k a role height terms gives = record {
  non = λ v inv applies. subst (λ (w : AtomTerm). IsIn w (map (apply_to_atom s) k.assumptions.non_originating)) (value_under s role height terms v applies) (into_map (apply_to_atom s) (gives.non v inv applies));
  penetrator_non = λ v inv applies. subst (λ (w : AtomTerm). IsIn w (map (apply_to_atom s) k.assumptions.penetrator_non_originating)) (value_under s role height terms v applies) (into_map (apply_to_atom s) (gives.penetrator_non v inv applies));
  unique = λ v i inv applies. subst (λ (w : AtomTerm). IsIn (record { value = w; origin = node_at a i }) (map (unique_under s) k.assumptions.uniquely_originating)) (value_under s role height terms v (applies_at role height v i applies)) (into_map (unique_under s) (gives.unique v i inv applies));
}

pub skeleton_under_is_skeleton : (protocol : Protocol) (s : Substitution) (k : Skeleton) → IsSkeleton protocol k → IsSkeleton protocol (skeleton_under s k)
skeleton_under_is_skeleton protocol s k sk = record {
  of_role = λ a role height terms at. let i = instance_of_under s k a role height terms at in sk.of_role a role height i.0 i.1;
  heights = λ a role height terms at. let i = instance_of_under s k a role height terms at in sk.heights a role height i.0 i.1;
  order_pairs = λ p inp. pair_under s k p (sk.order_pairs p inp);
  no_cycle = λ n before. sk.no_cycle n (before_of_under s k before);
  origins = λ u inu. let m = from_map (unique_under s) k.assumptions.uniquely_originating inu in subst (IsOrigin (skeleton_under s k)) m.2 (origin_under s k m.0 (sk.origins m.0 m.1));
  given = λ a role height terms at.
      let i = instance_of_under s k a role height terms at in
      subst (GivesAssumptions (skeleton_under s k) a role height) i.2 (given_under s k a role height i.0 (sk.given a role height i.0 i.1));
}

added_pair : (protocol : Protocol) (k : Skeleton) (pairs : List OrderPair) (p : OrderPair) → IsSkeleton protocol k → p.earlier.strand ≢ p.later.strand → IsIn p k.pairs ⊎ IsOriginPair k p → IsOrderPair (with_pairs k pairs) p
added_pair protocol k pairs p sk ne (inl inp) =
    let o = sk.order_pairs p inp in
    record { sent = o.sent; received = o.received; transmission = o.transmission; reception = o.reception; between_strands = ne }
added_pair protocol k pairs p sk ne (inr op) =
    let o = sk.origins op.entry op.listed in
    record {
      sent = o.sent;
      received = op.received;
      transmission = subst (λ (n : Node). term_event_at k.strands n ≡ Some (send o.sent)) (sym op.from_origin) o.transmission;
      reception = op.reception;
      between_strands = ne;
    }

pub with_pairs_is_skeleton : (protocol : Protocol) (k : Skeleton) (pairs : List OrderPair) → IsSkeleton protocol k → AddOnlyOriginPairs k pairs → ((p : OrderPair) → IsIn p pairs → p.earlier.strand ≢ p.later.strand) →
    ((n : Node) → Before (with_pairs k pairs) n n → ⊥) → IsSkeleton protocol (with_pairs k pairs)
with_pairs_is_skeleton protocol k pairs sk add between no_cycle = record {
  of_role = sk.of_role;
  heights = sk.heights;
  order_pairs = λ p inp. added_pair protocol k pairs p sk (between p inp) (add p inp);
  no_cycle = no_cycle;
  origins = λ u inu.
      let o = sk.origins u inu in
      record { role = o.role; height = o.height; terms = o.terms; on_instance = o.on_instance; sent = o.sent; transmission = o.transmission; carried = o.carried };
  given = λ a role height terms at.
      let g = sk.given a role height terms at in
      record { non = g.non; penetrator_non = g.penetrator_non; unique = g.unique };
}

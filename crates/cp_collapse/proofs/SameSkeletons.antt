-- A skeleton that says the same as one over a protocol is one.
use Rattle.std.proofs.Common.{◌≡◌, ℕ, sym, ◌∙◌, subst, List}
use Rattle.cp_lists.specs.Lists.{IsIn}
use Rattle.cp_model.specs.Term.{AtomTerm, apply_to_atom, AgreeOnTerms}
use Rattle.cp_model.specs.Bindings.{Binding, as_substitution}
use Rattle.cp_model.specs.Strand.{Role, Protocol, variables_of_prefix, Applies}
use Rattle.cp_model.specs.Bundle.{node_at}
use Rattle.cp_model.specs.declared.node.Node.{Node}
use Rattle.cp_model.specs.Skeleton.{UniqueAt, Assumptions, Skeleton, Before, IsOrderPair, IsOrigin, GivesAssumptions, IsSkeleton}
use Rattle.cp_model.specs.declared.node.OrderPair.{OrderPair}
use Rattle.cp_model.proofs.LawAgreement.{agree_atom}
use Rattle.cp_model.proofs.UnderVariables.{applies_at}
use Rattle.cp_collapse.specs.SameSkeletons.{SaysTheSame}
use Rattle.cp_collapse.proofs.SameStrands.{all_same_back, instance_at}
use Rattle.cp_collapse.proofs.SameFacts.{says_back, same_event, same_before}

module _ (k l : Skeleton) (s : SaysTheSame k l) where
  pub same_order_pair : (p : OrderPair) → IsOrderPair k p → IsOrderPair l p
  same_order_pair p o = record {
    sent = o.sent;
    received = o.received;
    transmission = sym (same_event k l s p.earlier) ∙ o.transmission;
    reception = sym (same_event k l s p.later) ∙ o.reception;
    between_strands = o.between_strands;
  }

  pub same_order_pairs : ((p : OrderPair) → IsIn p k.pairs → IsOrderPair k p) → (p : OrderPair) → IsIn p l.pairs → IsOrderPair l p
  same_order_pairs all p i = same_order_pair p (all p (subst (IsIn p) (sym s.pairs) i))

  pub same_no_cycle : ((n : Node) → Before k n n → ⊥) → (n : Node) → Before l n n → ⊥
  same_no_cycle never n before = never n (same_before l k (says_back k l s) before)

  pub same_origin : (u : UniqueAt) → IsOrigin k u → IsOrigin l u
  same_origin u o =
      let i = instance_at (all_same_back s.strands) u.origin.strand o.role o.height o.terms o.on_instance in
      record { role = o.role; height = o.height; terms = i.0; on_instance = i.1; sent = o.sent; transmission = sym (same_event k l s u.origin) ∙ o.transmission; carried = o.carried }

  pub same_origins : ((u : UniqueAt) → IsIn u k.assumptions.uniquely_originating → IsOrigin k u) → (u : UniqueAt) → IsIn u l.assumptions.uniquely_originating → IsOrigin l u
  same_origins all u i = same_origin u (all u (subst (λ (a : Assumptions). IsIn u a.uniquely_originating) (sym s.assumptions) i))

  same_given : (a : ℕ) (role : Role) (height : ℕ) (own terms : List Binding) → AgreeOnTerms (variables_of_prefix role height) (as_substitution own) (as_substitution terms) → GivesAssumptions k a role height own → GivesAssumptions l a role height terms
  same_given a role height own terms agree gives =
      let same : (v : AtomTerm) → Applies role height v → apply_to_atom (as_substitution own) v ≡ apply_to_atom (as_substitution terms) v = λ v applies. agree_atom (as_substitution own) (as_substitution terms) v (λ x i. agree x (applies x i)) in
      record {
        non = λ v inv applies. subst (λ (c : Assumptions). IsIn (apply_to_atom (as_substitution terms) v) c.non_originating) s.assumptions (subst (λ (w : AtomTerm). IsIn w k.assumptions.non_originating) (same v applies) (gives.non v inv applies));
        penetrator_non = λ v inv applies. subst (λ (c : Assumptions). IsIn (apply_to_atom (as_substitution terms) v) c.penetrator_non_originating) s.assumptions (subst (λ (w : AtomTerm). IsIn w k.assumptions.penetrator_non_originating) (same v applies) (gives.penetrator_non v inv applies));
        unique = λ v i inv applies.
            subst (λ (c : Assumptions). IsIn (record { value = apply_to_atom (as_substitution terms) v; origin = node_at a i }) c.uniquely_originating) s.assumptions
            (subst (λ (w : AtomTerm). IsIn (record { value = w; origin = node_at a i }) k.assumptions.uniquely_originating) (same v (applies_at role height v i applies)) (gives.unique v i inv applies));
      }

  pub same_is_skeleton : (protocol : Protocol) → IsSkeleton protocol k → IsSkeleton protocol l
  same_is_skeleton protocol sk = record {
    of_role = λ a role height terms at. let i = instance_at s.strands a role height terms at in sk.of_role a role height i.0 i.1;
    heights = λ a role height terms at. let i = instance_at s.strands a role height terms at in sk.heights a role height i.0 i.1;
    order_pairs = same_order_pairs sk.order_pairs;
    no_cycle = same_no_cycle sk.no_cycle;
    origins = same_origins sk.origins;
    given = λ a role height terms at. let i = instance_at s.strands a role height terms at in same_given a role height i.0 terms i.2 (sk.given a role height i.0 i.1);
  }

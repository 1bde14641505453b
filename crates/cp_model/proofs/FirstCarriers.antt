-- The first event of a strand that carries a message.
use Rattle.std.proofs.Common.{◌≡◌, ℕ, ◌+◌, ◌<◌, ◌≤◌, List, Some, None, length, get_or, sym, ap, ◌∙◌, subst, ◌⊎◌, inl, inr, arith, eq-or-lt_of_le}
use Rattle.cp_lists.specs.Lists.{item_at}
use Rattle.cp_model.specs.Message.{Message, IsCarriedBy}
use Rattle.cp_model.specs.Strand.{Event, payload}
use Rattle.cp_model.specs.declared.node.Node.{Node}
use Rattle.cp_model.specs.RunView.{items_or_none}
use Rattle.cp_model.specs.FirstCarriers.{NoneCarriesBefore, IsFirstCarrying, CarriesAt}
use Rattle.cp_lists.proofs.Items.{item_below, item_of_read}

module _ (m : Message) (es : List (Event Message)) where
  none_at : (i : ℕ) (x : Event Message) → item_at es i ≡ Some x → (IsCarriedBy m (payload x) → ⊥) → NoneCarriesBefore m es i →
      (j : ℕ) (e : Event Message) → (j ≡ i) ⊎ (j < i) → item_at es j ≡ Some e → IsCarriedBy m (payload e) → ⊥
  none_at i x there not none j e (inl same) at c =
      let whole : Some e ≡ Some x = sym at ∙ ap (item_at es) same ∙ there in
      let one : e ≡ x = cc in
      not (subst (λ (g : Event Message). IsCarriedBy m (payload g)) one c)
  none_at i x there not none j e (inr less) at c = none j e less at c

  -- An event that does not carry the message is passed.
  pub none_next : (i : ℕ) (x : Event Message) → i < length es → x ≡ get_or es i x → (IsCarriedBy m (payload x) → ⊥) → NoneCarriesBefore m es i → NoneCarriesBefore m es (i + 1)
  none_next i x l e not none j g less at c = none_at i x (item_of_read es i x l e) not none j g (eq-or-lt_of_le (omega arith)) at c

  -- Behind the last none is left.
  pub none_at_all : (i : ℕ) → length es ≤ i → NoneCarriesBefore m es i → IsFirstCarrying m es None
  none_at_all i all none j e at c =
      let below : j < length es = item_below es j e at in
      none j e (omega arith) at c

-- The strand of a node that carries the message has an event that does.
pub not_none : (traces : List (List (Event Message))) (m : Message) (n : Node) → CarriesAt traces m n → (trace : List (Event Message)) → item_at traces n.strand ≡ Some trace → IsFirstCarrying m trace None → ⊥
not_none traces m n carries trace e none = none n.index carries.event (ap (λ t. item_at (items_or_none t) n.index) (sym e) ∙ carries.there) carries.carried

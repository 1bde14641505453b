-- Places of transmissions, gathered one by one, and the messages there.
use Rattle.std.proofs.Common.{ℕ, suc, ◌+◌, ◌<◌, ◌≤◌, List, [], ◌∷◌, ◌++◌, Option, Some, None, ◌≡◌, ◌⊎◌, inl, inr, length, get_or, drop, refl, sym, subst, ap, ◌∙◌, arith, add-one}
use Rattle.std.specs.Prelude.{option_map, Result, Ok, Err, IfOk}
use Rattle.std.specs.Borrow.{Bor}
use Rattle.std.proofs.Math.Seq.{drop-cons}
use Rattle.cp_lists.proofs.Items.{item_below, same_item}
use Rattle.cp_lists.proofs.Members.{in_cases}
use Rattle.cp_lists.specs.Lists.{item_at, IsIn, here, there}
use Rattle.cp_lists.proofs.Least.{less_or_same}
use Rattle.cp_lists.proofs.Appended.{moved_behind}
use Rattle.cp_model.specs.Term.{Term}
use Rattle.cp_model.specs.declared.node.Node.{Node}
use Rattle.cp_model.specs.declared.node.OrderPair.{OrderPair}
use Rattle.cp_derive.specs.Given.{Given}
use Rattle.cp_derive.specs.Transmissions.{Transmission}
use Rattle.cp_derive.specs.Before.{LeadsToOther, ArePlacesBefore, message_onto, messages_at}
use Rattle.cp_derive.proofs.Listed.{IsPushed, pushed}

-- These are the places below a bound.
pub record ArePlacesBelow (pairs : List OrderPair) (n : Node) (ts : List Transmission) (bound : ℕ) (places : List ℕ) : Type 0 where
  pub each : (p : ℕ) (t : Transmission) → p < bound → item_at ts p ≡ Some t → LeadsToOther pairs t.node n → IsIn p places
  pub only : (p : ℕ) (t : Transmission) → item_at ts p ≡ Some t → IsIn p places → LeadsToOther pairs t.node n

pub placed : (pairs : List OrderPair) (n : Node) (ts : List Transmission) (b : ℕ) (t : Transmission) (old new : List ℕ) → item_at ts b ≡ Some t → LeadsToOther pairs t.node n →
    new ≡ old ++ (b ∷ []) → ArePlacesBelow pairs n ts b old → ArePlacesBelow pairs n ts (b + 1) new
placed pairs n ts b t old new at leads e h =
    let p : IsPushed old b new = pushed old b new e in
    record {
      each = λ q u below i l. elim (less_or_same q b (omega (arith, below))) [ inl less ↦ p.more q (h.each q u less i l) | inr same ↦ subst (λ x. IsIn x new) (sym same) p.itself ];
      only = λ q u i j.
          elim (p.only q j) [
            | inl old_one ↦ h.only q u i old_one
            | inr same ↦ subst (λ (x : Transmission). LeadsToOther pairs x.node n) (same_item ts b q t u same at i) leads
          ];
    }

pub not_placed : (pairs : List OrderPair) (n : Node) (ts : List Transmission) (b : ℕ) (t : Transmission) (places : List ℕ) → item_at ts b ≡ Some t → (LeadsToOther pairs t.node n → ⊥) →
    ArePlacesBelow pairs n ts b places → ArePlacesBelow pairs n ts (b + 1) places
not_placed pairs n ts b t places at none h = record {
  each = λ q u below i l.
      elim (less_or_same q b (omega (arith, below))) [
        | inl less ↦ h.each q u less i l
        | inr same ↦ absurd (none (subst (λ (x : Transmission). LeadsToOther pairs x.node n) (same_item ts q b u t same i at) l))
      ];
  only = h.only;
}

pub all_placed : (pairs : List OrderPair) (n : Node) (ts : List Transmission) (b : ℕ) (places : List ℕ) → length ts ≤ b → ArePlacesBelow pairs n ts b places → ArePlacesBefore pairs n ts places
all_placed pairs n ts b places past h = record {
  each = λ p t i l. let less : p < length ts = item_below ts p t i in let below : p < b = omega arith in h.each p t below i l;
  only = h.only;
}

-- ---- the messages at places

-- The message is that of a transmission at one of the places.
pub record IsMessageAt (places : List ℕ) (ts : List Transmission) (t : Term) : Type 0 where
  pub place : ℕ
  pub transmission : Transmission
  pub listed : IsIn place places
  pub at : item_at ts place ≡ Some transmission
  pub message : transmission.message ≡ t

onto : (p : ℕ) (ps : List ℕ) (ts : List Transmission) (o : Option Transmission) (t : Term) → item_at ts p ≡ o → IsIn t (message_onto o (messages_at ps ts)) →
    IsMessageAt (p ∷ ps) ts t ⊎ IsIn t (messages_at ps ts)
onto p ps ts None t at h = inr h
onto p ps ts (Some x) t at h = elim (in_cases h) [ inl e ↦ inl (record { place = p; transmission = x; listed = here; at = at; message = e }) | inr i ↦ inr i ]

pub message_at : (places : List ℕ) (ts : List Transmission) (t : Term) → IsIn t (messages_at places ts) → IsMessageAt places ts t
message_at [] ts t h = elim h [ ]
message_at (p ∷ ps) ts t h =
    elim (onto p ps ts (item_at ts p) t refl h) [
      | inl m ↦ m
      | inr i ↦ let more = message_at ps ts t i in record { place = more.place; transmission = more.transmission; listed = there more.listed; at = more.at; message = more.message }
    ]

onto_more : (o : Option Transmission) (rest : List Term) (t : Term) → IsIn t rest → IsIn t (message_onto o rest)
onto_more None rest t h = h
onto_more (Some x) rest t h = there h

pub at_message : (places : List ℕ) (ts : List Transmission) (p : ℕ) (x : Transmission) → IsIn p places → item_at ts p ≡ Some x → IsIn x.message (messages_at places ts)
at_message [] ts p x i at = elim i [ ]
at_message (q ∷ qs) ts p x i at =
    elim (in_cases i) [
      | inl e ↦ subst (λ o. IsIn x.message (message_onto o (messages_at qs ts))) (sym (ap (item_at ts) e ∙ at)) here
      | inr j ↦ onto_more (item_at ts q) (messages_at qs ts) x.message (at_message qs ts p x j at)
    ]

onto_append : (o : Option Transmission) (rest more : List Term) → message_onto o (rest ++ more) ≡ message_onto o rest ++ more
onto_append None rest more = refl
onto_append (Some x) rest more = refl

pub messages_append : (ps qs : List ℕ) (ts : List Transmission) → messages_at (ps ++ qs) ts ≡ messages_at ps ts ++ messages_at qs ts
messages_append [] qs ts = refl
messages_append (p ∷ ps) qs ts = ap (message_onto (item_at ts p)) (messages_append ps qs ts) ∙ onto_append (item_at ts p) (messages_at ps ts) (messages_at qs ts)

-- What was known from the last places and what is at those behind them are what is at all.
pub known_on : (last more places : List ℕ) (ts : List Transmission) (old new : Given) (messages : List Term) → places ≡ last ++ more → old.sent ≡ messages_at last ts → messages ≡ messages_at more ts →
    new ≡ record { sent = old.sent ++ messages; secrets = old.secrets } → new ≡ record { sent = messages_at places ts; secrets = old.secrets }
known_on last more places ts old new messages split known at e =
    let sent : old.sent ++ messages ≡ messages_at places ts =
    ap (λ xs. xs ++ messages) known ∙ ap (λ xs. messages_at last ts ++ xs) at ∙ sym (messages_append last more ts) ∙ ap (λ ps. messages_at ps ts) (sym split) in
    e ∙ ap (λ xs. let g : Given = record { sent = xs; secrets = old.secrets } in g) sent

-- ---- the messages, gathered one by one

module _ (ps : List ℕ) (i : ℕ) (ts : List Transmission) (old new whole : List Term) (o : Option (Bor Term)) (h : i < length ps)
    (at : option_map (λ (t : Bor Term). t.now) o ≡ option_map (λ (t : Transmission). t.message) (item_at ts (get_or ps i 0))) (all : old ++ messages_at (drop i ps) ts ≡ whole) where
  next : messages_at (drop i ps) ts ≡ message_onto (item_at ts (get_or ps i 0)) (messages_at (drop (suc i) ps) ts)
  next = ap (λ qs. messages_at qs ts) (drop-cons ps i 0 h)

  some_message : (found : Option Transmission) (rest : List Term) (b : Bor Term) → option_map (λ (t : Bor Term). t.now) o ≡ option_map (λ (t : Transmission). t.message) found → o ≡ Some b →
      message_onto found rest ≡ b.now ∷ rest
  some_message None rest b e is = let whole_is : Some b.now ≡ None = ap (option_map (λ (t : Bor Term). t.now)) (sym is) ∙ e in absurd (cc)
  some_message (Some x) rest b e is =
      let whole_is : Some b.now ≡ Some x.message = ap (option_map (λ (t : Bor Term). t.now)) (sym is) ∙ e in
      let same : x.message ≡ b.now = cc in
      ap (λ m. m ∷ rest) same

  no_message : (q : Option (Bor Term)) (found : Option Transmission) (rest : List Term) → option_map (λ (t : Bor Term). t.now) q ≡ option_map (λ (t : Transmission). t.message) found →
      ((b : Bor Term) → q ≡ Some b → ⊥) → message_onto found rest ≡ rest
  no_message (Some b) found rest e none = absurd (none b refl)
  no_message None None rest e none = refl
  no_message None (Some x) rest e none = absurd (cc)

  pub message_moved : (b : Bor Term) → o ≡ Some b → new ≡ old ++ (b.now ∷ []) → new ++ messages_at (drop (i + 1) ps) ts ≡ whole
  message_moved b is n =
      let rest : List Term = messages_at (drop (suc i) ps) ts in
      rw add-one (moved_behind old new (messages_at (drop i ps) ts) rest whole b.now n (next ∙ some_message (item_at ts (get_or ps i 0)) rest b at is) all)

  pub message_skipped : ((b : Bor Term) → o ≡ Some b → ⊥) → new ≡ old → new ++ messages_at (drop (i + 1) ps) ts ≡ whole
  message_skipped none n =
      let rest : List Term = messages_at (drop (suc i) ps) ts in
      rw add-one (ap (λ ys. ys ++ rest) n ∙ sym (ap (λ ys. old ++ ys) (next ∙ no_message o (item_at ts (get_or ps i 0)) rest at none)) ∙ all)

-- What holds of each value in an Ok.
pub ok_then : {A E : Type 0} (P Q : A → Type 0) (r : Result A E) → ((x : A) → P x → Q x) → IfOk r P → IfOk r Q
ok_then P Q (Ok x) f h = f x h
ok_then P Q (Err e) f h = tt

pub ok_both : {A E : Type 0} (P Q R : A → Type 0) (r : Result A E) → ((x : A) → P x → Q x → R x) → IfOk r P → IfOk r Q → IfOk r R
ok_both P Q R (Ok x) f h i = f x h i
ok_both P Q R (Err e) f h i = tt

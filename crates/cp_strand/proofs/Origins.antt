-- Where terms originate on strands.
use Rattle.std.proofs.Common.{ℕ, zero, suc, ◌+◌, ◌<◌, ◌≤◌, List, [], ◌∷◌, Some, Bool, true, false, not, ◌≡◌, inl, inr, map, take, drop, length, get_or, refl, sym, ap, subst, ◌∙◌, add-one, arith}
use Rattle.std.proofs.Math.Seq.{drop-cons}
use Rattle.std.proofs.lemmas.List.{drop_all, take-map}
use Rattle.cp_lists.specs.Lists.{item_at}
use Rattle.cp_model.specs.Term.{Term, IsCarriedByTerm, Substitution, apply_to}
use Rattle.cp_model.specs.Strand.{payload, event_map, OriginatesInTerms}
use Rattle.cp_model.specs.declared.strand.Event.{Event}
use Rattle.cp_model.specs.declared.strand.Event.TheVariants.{Send as send, Receive as recv}
use Rattle.cp_model.proofs.LawEvents.{payload_map}
use Rattle.cp_lists.proofs.Items.{item_of_take, take_of_item, map_of_item}
use Rattle.cp_model.proofs.CarriedParts.{not_both}
use Rattle.cp_strand.specs.Origins.{IsCarriedByOne, OriginatesUnder}

module _ (s : Substitution) (t : Term) where
  first_or_rest : (x : Event Term) (xs : List (Event Term)) → (IsCarriedByTerm t (apply_to s (payload x)) → ⊥) →
      IsCarriedByOne s (x ∷ xs) t → IsCarriedByOne s xs t
  first_or_rest x xs not_first (inl h) = absurd (not_first h)
  first_or_rest x xs not_first (inr h) = h

  -- Where the next event does not carry the term, one behind it does.
  pub carried_behind : (xs : List (Event Term)) (i : ℕ) (x : Event Term) → i < length xs → x ≡ get_or xs i x → (IsCarriedByTerm t (apply_to s (payload x)) → ⊥) →
      IsCarriedByOne s (drop i xs) t → IsCarriedByOne s (drop (i + 1) xs) t
  carried_behind xs i x h e not_first there_is =
      rw add-one
      (first_or_rest x (drop (suc i) xs) not_first
      (subst (λ (y : Event Term). IsCarriedByOne s (y ∷ drop (suc i) xs) t) (sym e) (rw (drop-cons xs i x h) at there_is)))

  pub carried_by_item : (xs : List (Event Term)) (i : ℕ) (x : Event Term) → i < length xs → x ≡ get_or xs i x → IsCarriedByTerm t (apply_to s (payload x)) →
      IsCarriedByOne s xs t
  carried_by_item [] i x h e carried = absurd (omega arith)
  carried_by_item (y ∷ xs) zero x h e carried = inl (subst (λ (z : Event Term). IsCarriedByTerm t (apply_to s (payload z))) e carried)
  carried_by_item (y ∷ xs) (suc i) x h e carried = inr (carried_by_item xs i x (omega arith) e carried)

  pub carried_by_none : (xs : List (Event Term)) (i : ℕ) → length xs ≤ i → IsCarriedByOne s (drop i xs) t → ⊥
  carried_by_none xs i h there_is = rw (drop_all i xs h) at there_is

-- No earlier event carries the term, or one does.
pub none_earlier : (s : Substitution) (es : List (Event Term)) (t : Term) (i : ℕ) → (IsCarriedByOne s (take i es) t → ⊥) →
    (j : ℕ) (e : Event Term) → j < i → item_at (map (event_map (apply_to s)) es) j ≡ Some e → IsCarriedByTerm t (payload e) → ⊥
none_earlier s [] t i none j e l p h = absurd (cc)
none_earlier s (x ∷ es) t zero none j e l p h = absurd (omega arith)
none_earlier s (x ∷ es) t (suc i) none zero e l p h =
    let same : event_map (apply_to s) x ≡ e = cc in
    none (inl (subst (IsCarriedByTerm t) (ap payload (sym same) ∙ payload_map (apply_to s) x) h))
none_earlier s (x ∷ es) t (suc i) none (suc j) e l p h = none_earlier s es t i (λ one. none (inr one)) j e (omega arith) p h

pub some_earlier : (s : Substitution) (es : List (Event Term)) (t : Term) (i : ℕ) →
    ((j : ℕ) (e : Event Term) → j < i → item_at (map (event_map (apply_to s)) es) j ≡ Some e → IsCarriedByTerm t (payload e) → ⊥) →
    IsCarriedByOne s (take i es) t → ⊥
some_earlier s [] t zero first h = h
some_earlier s [] t (suc i) first h = h
some_earlier s (x ∷ es) t zero first h = h
some_earlier s (x ∷ es) t (suc i) first (inl h) =
    first 0 (event_map (apply_to s) x) (omega arith) refl (subst (IsCarriedByTerm t) (sym (payload_map (apply_to s) x)) h)
some_earlier s (x ∷ es) t (suc i) first (inr h) = some_earlier s es t i (λ j e l p. first (suc j) e (omega arith) p) h

event_under : (s : Substitution) (es : List (Event Term)) (i : ℕ) (e : Event Term) → Some e ≡ item_at es i → item_at (map (event_map (apply_to s)) es) i ≡ Some (event_map (apply_to s) e)
event_under s es i e p = map_of_item (event_map (apply_to s)) es i e (sym p)

-- Nothing originates at a reception.
pub not_received : (s : Substitution) (es : List (Event Term)) (t m : Term) (i : ℕ) → Some (recv m) ≡ item_at es i → OriginatesUnder s es t i → ⊥
not_received s es t m i p o =
    let there_is : item_at (map (event_map (apply_to s)) es) i ≡ Some (recv (apply_to s m)) = event_under s es i (recv m) p in
    let sent : item_at (map (event_map (apply_to s)) es) i ≡ Some (send o.sent) = o.transmission in
    cc

-- What originates at a transmission is carried by it.
pub originates_carried : (s : Substitution) (es : List (Event Term)) (t m : Term) (i : ℕ) → Some (send m) ≡ item_at es i → OriginatesUnder s es t i → IsCarriedByTerm t (apply_to s m)
originates_carried s es t m i p o =
    let there_is : item_at (map (event_map (apply_to s)) es) i ≡ Some (send (apply_to s m)) = event_under s es i (send m) p in
    let sent : item_at (map (event_map (apply_to s)) es) i ≡ Some (send o.sent) = o.transmission in
    let same : o.sent ≡ apply_to s m = cc in
    subst (IsCarriedByTerm t) same o.carried

-- What a transmission carries originates there where no earlier event carries it.
pub originates_first : (s : Substitution) (es : List (Event Term)) (t m : Term) (i : ℕ) (one : Bool) → Some (send m) ≡ item_at es i → IsCarriedByTerm t (apply_to s m) →
    (one ≡ true → IsCarriedByOne s (take i es) t) → (IsCarriedByOne s (take i es) t → one ≡ true) →
    (not one ≡ true → OriginatesUnder s es t i) × (OriginatesUnder s es t i → not one ≡ true)
originates_first s es t m i true p carried there_is found =
    (λ r. absurd (cc), λ o. absurd (some_earlier s es t i o.first (there_is refl)))
originates_first s es t m i false p carried there_is found = (
  λ _. record {
    sent = apply_to s m;
    transmission = event_under s es i (send m) p;
    carried = carried;
    first = none_earlier s es t i (λ one. not_both refl (found one));
  },
  λ _. refl,
)

-- What originates in a prefix is what originates below its length.
pub in_prefix : (es : List (Event Term)) (t : Term) (i height : ℕ) → i < height → OriginatesInTerms es t i → OriginatesInTerms (take height es) t i
in_prefix es t i height l o = record {
  sent = o.sent;
  transmission = take_of_item height es i _ l o.transmission;
  carried = o.carried;
  first = λ j e below p. o.first j e below (item_of_take height es j e p).1;
}

pub of_prefix : (es : List (Event Term)) (t : Term) (i height : ℕ) → OriginatesInTerms (take height es) t i → (i < height) × OriginatesInTerms es t i
of_prefix es t i height o =
    let here = item_of_take height es i _ o.transmission in (
      here.0,
      record {
        sent = o.sent;
        transmission = here.1;
        carried = o.carried;
        first = λ j e below p. let l : i < height = here.0 in o.first j e below (take_of_item height es j e (omega arith) p);
      },
    )

-- What originates at an instance is what originates under its terms below its height.
pub instance_originates : (s : Substitution) (es : List (Event Term)) (t : Term) (i height : ℕ) (r : Bool) → i < height →
    (r ≡ true → OriginatesUnder s es t i) → (OriginatesUnder s es t i → r ≡ true) →
    (r ≡ true → OriginatesInTerms (map (event_map (apply_to s)) (take height es)) t i) × (OriginatesInTerms (map (event_map (apply_to s)) (take height es)) t i → r ≡ true)
instance_originates s es t i height r l to from = (
  λ e. subst (λ xs. OriginatesInTerms xs t i) (take-map (event_map (apply_to s)) height es) (in_prefix (map (event_map (apply_to s)) es) t i height l (to e)),
  λ o. from (of_prefix (map (event_map (apply_to s)) es) t i height (subst (λ xs. OriginatesInTerms xs t i) (sym (take-map (event_map (apply_to s)) height es)) o)).1,
)

pub instance_ends : (s : Substitution) (es : List (Event Term)) (t : Term) (i height : ℕ) → height ≤ i → OriginatesInTerms (map (event_map (apply_to s)) (take height es)) t i → ⊥
instance_ends s es t i height l o =
    let h : i < height = (of_prefix (map (event_map (apply_to s)) es) t i height (subst (λ xs. OriginatesInTerms xs t i) (sym (take-map (event_map (apply_to s)) height es)) o)).0 in
    omega arith

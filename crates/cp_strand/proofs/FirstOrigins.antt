-- The first event that carries a term: its origin, if it is a transmission.
use Rattle.std.proofs.Common.{◌≡◌, ℕ, ◌+◌, ◌<◌, ◌≤◌, List, length, get_or, ap, ◌∙◌, subst, arith, ◌⊎◌, inl, inr}
use Rattle.std.specs.Prelude.{Some}
use Rattle.cp_lists.specs.Lists.{item_at}
use Rattle.cp_model.specs.Term.{Term, IsCarriedByTerm}
use Rattle.cp_model.specs.Strand.{payload, OriginatesInTerms}
use Rattle.cp_model.specs.declared.strand.Event.{Event}
use Rattle.cp_model.specs.declared.strand.Event.TheVariants.{Send as send, Receive as recv}
use Rattle.cp_lists.proofs.Items.{item_below, item_of_read, same_item}

-- None of the first i events carries the term.
abbrev pub IsNowhereBefore : List (Event Term) → Term → ℕ → Type 0
IsNowhereBefore es v i = (j : ℕ) (e : Event Term) → j < i → item_at es j ≡ Some e → IsCarriedByTerm v (payload e) → ⊥

compare : (i j : ℕ) → (i < j) ⊎ ((i ≡ j) ⊎ (j < i))
compare i j = grind arith

module _ (es : List (Event Term)) (v : Term) (i : ℕ) (e : Event Term) (lt : i < length es) (is : e ≡ get_or es i e) (before : IsNowhereBefore es v i) where
  at : item_at es i ≡ Some e
  at = item_of_read es i e lt is

  pub origin-sent : (m : Term) → e ≡ send m → IsCarriedByTerm v (payload e) → OriginatesInTerms es v i
  origin-sent m s c = record {
    sent = m;
    transmission = at ∙ ap Some s;
    carried = subst (λ d. IsCarriedByTerm v (payload d)) s c;
    first = before;
  }

  not-received : (m : Term) → e ≡ recv m → IsCarriedByTerm v (payload e) → (k : ℕ) → OriginatesInTerms es v k → (k < i) ⊎ ((k ≡ i) ⊎ (i < k)) → ⊥
  not-received m r c k o (inl below) = before k (send o.sent) below o.transmission o.carried
  not-received m r c k o (inr (inl same)) =
      let d : send o.sent ≡ e = same_item es k i (send o.sent) e same o.transmission at in
      let f : send o.sent ≡ recv m = d ∙ r in
      absurd (cc)
  not-received m r c k o (inr (inr above)) = o.first i e above at c

  pub origin-received : (m : Term) → e ≡ recv m → IsCarriedByTerm v (payload e) → (k : ℕ) → OriginatesInTerms es v k → ⊥
  origin-received m r c k o = not-received m r c k o (compare k i)

  at-or-before : (IsCarriedByTerm v (payload e) → ⊥) → (j : ℕ) (d : Event Term) → (j < i) ⊎ ((j ≡ i) ⊎ (i < j)) → j < i + 1 → item_at es j ≡ Some d → IsCarriedByTerm v (payload d) → ⊥
  at-or-before never j d (inl below) l h c = before j d below h c
  at-or-before never j d (inr (inl same)) l h c =
      never (subst (λ w. IsCarriedByTerm v (payload w)) (same_item es j i d e same h at) c)
  at-or-before never j d (inr (inr above)) l h c = absurd (omega arith)

  pub origin-not-here : (IsCarriedByTerm v (payload e) → ⊥) → IsNowhereBefore es v (i + 1)
  origin-not-here never j d l h c = at-or-before never j d (compare j i) l h c

pub origin-nowhere : (es : List (Event Term)) (v : Term) (i : ℕ) → length es ≤ i → IsNowhereBefore es v i → (k : ℕ) → OriginatesInTerms es v k → ⊥
origin-nowhere es v i le before k o =
    let l : k < length es = item_below es k (send o.sent) o.transmission in
    before k (send o.sent) (omega arith) o.transmission o.carried

pub origin-moved : (s t : List (Event Term)) (v w : Term) (i : ℕ) → s ≡ t → v ≡ w → OriginatesInTerms s v i → OriginatesInTerms t w i
origin-moved s t v w i e f o = subst (λ x. OriginatesInTerms t x i) f (subst (λ x. OriginatesInTerms x v i) e o)

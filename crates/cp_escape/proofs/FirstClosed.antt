-- The first encryption that is closed, item by item.
use Rattle.std.proofs.Common.{◌≡◌, ℕ, ◌+◌, ◌<◌, ◌≤◌, List, [], ◌∷◌, length, get_or, drop, map, sym, subst, ◌⊎◌, inl, inr, ⊎_elim}
use Rattle.std.proofs.lemmas.List.{drop_all}
use Rattle.cp_lists.specs.Lists.{IsIn}
use Rattle.cp_lists.proofs.Members.{drop_read, head_or_behind, not_in_none}
use Rattle.cp_model.specs.Term.{Term}
use Rattle.cp_model.specs.declared.step.Step.{Step}
use Rattle.cp_derive.specs.Given.{Given}
use Rattle.cp_theory.specs.Above.{encryptions_above}
use Rattle.cp_escape.specs.ClosedEncryptions.{IsClosedTo, IsOpenTo, IsHidden}
use Rattle.cp_escape.specs.Escape.{IsFirstWith, in_front, further}
use Rattle.cp_escape.proofs.DerivableParts.{one_closed}

-- Of encryptions some are left; those before them are open.
pub record NoneClosed (g : Given) (whole left : List Term) : Type 0 where
  pub first : (e : Term) → IsFirstWith (IsClosedTo g) left e → IsFirstWith (IsClosedTo g) whole e
  pub opens : (e : Term) → IsIn e whole → IsIn e left ⊎ IsOpenTo g e

open_not_closed : (g : Given) (e : Term) → IsOpenTo g e → IsClosedTo g e → ⊥
open_not_closed g e opens c = c.underivable (opens c.body c.key c.is_encryption)

module _ (g : Given) (whole : List Term) where
  pub one_found : (e : Term) (rest : List Term) → NoneClosed g whole (e ∷ rest) → IsClosedTo g e → IsFirstWith (IsClosedTo g) whole e
  one_found e rest n c = n.first e (in_front c)

  pub one_passed : (e : Term) (rest : List Term) → NoneClosed g whole (e ∷ rest) → IsOpenTo g e → NoneClosed g whole rest
  one_passed e rest n opens = record {
    first = λ x f. n.first x (further (open_not_closed g e opens) f);
    opens = λ x i. ⊎_elim (λ j. ⊎_elim (λ (same : x ≡ e). inr (subst (IsOpenTo g) (sym same) opens)) inl (head_or_behind j)) inr (n.opens x i);
  }

  pub never_all : (message : Term) (path : List Step) → whole ≡ encryptions_above message path → IsHidden g message path → NoneClosed g whole [] → ⊥
  never_all message path same hidden n =
      one_closed g message path hidden (λ e i. ⊎_elim (λ j. absurd (not_in_none j)) (λ o. o) (n.opens e (subst (IsIn e) (sym same) i)))

-- ---- over items that show encryptions

module _ {A : Type 0} (shown : A → Term) (g : Given) (items : List A) where
  module _ (i : ℕ) (x : A) (below : i < length items) (read : x ≡ get_or items i x) (so_far : NoneClosed g (map shown items) (map shown (drop i items))) where
    left : NoneClosed g (map shown items) (shown x ∷ map shown (drop (i + 1) items))
    left = subst (λ (xs : List A). NoneClosed g (map shown items) (map shown xs)) (drop_read items i x below read) so_far

    pub item_closed : (es : List Term) → map shown items ≡ es → IsClosedTo g (shown x) → IsFirstWith (IsClosedTo g) es (shown x)
    item_closed es same c = subst (λ (xs : List Term). IsFirstWith (IsClosedTo g) xs (shown x)) same (one_found g (map shown items) (shown x) (map shown (drop (i + 1) items)) left c)

    pub item_open : IsOpenTo g (shown x) → NoneClosed g (map shown items) (map shown (drop (i + 1) items))
    item_open o = one_passed g (map shown items) (shown x) (map shown (drop (i + 1) items)) left o

  pub never_past : (i : ℕ) → length items ≤ i → NoneClosed g (map shown items) (map shown (drop i items)) → (message : Term) (path : List Step) → map shown items ≡ encryptions_above message path → IsHidden g message path → ⊥
  never_past i past so_far message path same hidden =
      never_all g (map shown items) message path same hidden (subst (λ (xs : List A). NoneClosed g (map shown items) (map shown xs)) (drop_all i items past) so_far)

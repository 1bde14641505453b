-- Putting images of pairs one by one, each once.
use Rattle.std.proofs.Common.{◌≡◌, inl, inr, ℕ, ◌≤◌, ◌+◌, List, [], ◌∷◌, ◌++◌, Some, take, length, refl, sym, ap, ◌∙◌, subst, arith}
use Rattle.std.proofs.lemmas.List.{take_all}
use Rattle.cp_lists.specs.Lists.{item_at, IsIn}
use Rattle.cp_lists.proofs.Fronts.{take_next}
use Rattle.cp_model.specs.declared.node.OrderPair.{OrderPair}
use Rattle.cp_collapse.specs.Collapses.{collapsed_pair, LiesOnOne, ArePairsIn}
use Rattle.cp_collapse.specs.Property.{Has}
use Rattle.cp_collapse.specs.MergedStrands.{IsPutOnce}
use Rattle.cp_collapse.proofs.PairImages.{pairs_none, pairs_more, pairs_again, pairs_dropped}

-- An item that is listed stays.
pub listed_stays : {A : Type 0} (x : A) (old : List A) → Has (λ y. y ≡ x) old → IsPutOnce x old old
listed_stays x old h = inr (refl, subst (λ z. IsIn z old) h.2 h.1)

module _ (p : List ℕ) (qs : List OrderPair) where
  pub pairs_first : (rs : List OrderPair) → rs ≡ [] → ArePairsIn p (take 0 qs) rs
  pairs_first rs e = subst (ArePairsIn p []) (sym e) (pairs_none p)

  module _ (i : ℕ) (q : OrderPair) (rs : List OrderPair) (at : item_at qs i ≡ Some q) (so_far : ArePairsIn p (take i qs) rs) where
    pub pair_dropped : LiesOnOne p q → ArePairsIn p (take (i + 1) qs) rs
    pair_dropped one = subst (λ zs. ArePairsIn p zs rs) (take_next qs i q at) (pairs_dropped p (take i qs) rs q so_far one)

    pub pair_put : (r : OrderPair) (new : List OrderPair) → r ≡ collapsed_pair p q → (LiesOnOne p q → ⊥) → IsPutOnce r rs new → ArePairsIn p (take (i + 1) qs) new
    pair_put r new e apart (inl put) = subst (λ zs. ArePairsIn p zs new) (take_next qs i q at) (subst (ArePairsIn p (take i qs ++ (q ∷ []))) (ap (λ z. rs ++ (z ∷ [])) (sym e) ∙ sym put) (pairs_more p (take i qs) rs q so_far apart))
    pair_put r new e apart (inr again) = subst (λ zs. ArePairsIn p zs new) (take_next qs i q at) (subst (ArePairsIn p (take i qs ++ (q ∷ []))) (sym again.0) (pairs_again p (take i qs) rs q so_far (subst (λ z. IsIn z rs) e again.1)))

  pub pairs_all : (i : ℕ) (rs : List OrderPair) → length qs ≤ i → ArePairsIn p (take i qs) rs → ArePairsIn p qs rs
  pairs_all i rs l so_far = subst (λ zs. ArePairsIn p zs rs) (take_all i qs l) so_far

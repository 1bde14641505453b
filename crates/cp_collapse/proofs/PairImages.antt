-- Going along pairs and putting the image of each that lies between different strands, where it is not there yet, gives
-- their images.
use Rattle.std.proofs.Common.{◌≡◌, ◌≢◌, ◌⊎◌, inl, inr, ℕ, List, [], ◌∷◌, ◌++◌, sym, ap, ◌∙◌, subst}
use Rattle.cp_lists.specs.Lists.{IsIn, here}
use Rattle.cp_model.specs.declared.node.OrderPair.{OrderPair}
use Rattle.cp_lists.proofs.Members.{in_append_left, in_append_right, in_append, only_item}
use Rattle.cp_collapse.specs.Property.{Has}
use Rattle.cp_collapse.specs.Collapses.{collapsed_pair, LiesOnOne, ArePairsIn}

module _ {A B : Type 0} (f : A → B) where
  has_more : (xs : List A) (x : A) (y : B) → Has (λ z. f z ≡ y) xs → Has (λ z. f z ≡ y) (xs ++ (x ∷ []))
  has_more xs x y h = (h.0, in_append_left (x ∷ []) h.1, h.2)

  has_cases : (xs : List A) (x : A) (y : B) → Has (λ z. f z ≡ y) (xs ++ (x ∷ [])) → Has (λ z. f z ≡ y) xs ⊎ (f x ≡ y)
  has_cases xs x y h = by (in_append xs (x ∷ []) h.1)
    where
      by : IsIn h.0 xs ⊎ IsIn h.0 (x ∷ []) → Has (λ z. f z ≡ y) xs ⊎ (f x ≡ y)
      by (inl i) = inl (h.0, i, h.2)
      by (inr i) = inr (ap f (sym (only_item i)) ∙ h.2)

module _ (p : List ℕ) where
  pub pairs_none : ArePairsIn p [] []
  pairs_none r = (λ i. elim i [ ], λ h. elim h.0.1 [ ])

  module _ (qs rs : List OrderPair) (q : OrderPair) (so_far : ArePairsIn p qs rs) where
    old_pair : (r : OrderPair) → IsIn r rs → Has (λ z. collapsed_pair p z ≡ r) (qs ++ (q ∷ [])) × (r.earlier.strand ≢ r.later.strand)
    old_pair r i = let h = (so_far r).0 i in (has_more (collapsed_pair p) qs q r h.0, h.1)

    -- The pair lies between different strands, and its image is put.
    pub pairs_more : (LiesOnOne p q → ⊥) → ArePairsIn p (qs ++ (q ∷ [])) (rs ++ (collapsed_pair p q ∷ []))
    pairs_more apart r = (λ i. from (in_append rs (collapsed_pair p q ∷ []) i), λ h. into h.1 (has_cases (collapsed_pair p) qs q r h.0))
      where
        from : IsIn r rs ⊎ IsIn r (collapsed_pair p q ∷ []) → Has (λ z. collapsed_pair p z ≡ r) (qs ++ (q ∷ [])) × (r.earlier.strand ≢ r.later.strand)
        from (inl i) = old_pair r i
        from (inr i) = ((q, in_append_right qs here, sym (only_item i)), subst (λ (z : OrderPair). z.earlier.strand ≢ z.later.strand) (sym (only_item i)) apart)

        into : r.earlier.strand ≢ r.later.strand → Has (λ z. collapsed_pair p z ≡ r) qs ⊎ (collapsed_pair p q ≡ r) → IsIn r (rs ++ (collapsed_pair p q ∷ []))
        into ne (inl h) = in_append_left (collapsed_pair p q ∷ []) ((so_far r).1 (h, ne))
        into ne (inr e) = in_append_right rs (subst (λ (z : OrderPair). IsIn z (collapsed_pair p q ∷ [])) e here)

    -- The image is there already.
    pub pairs_again : IsIn (collapsed_pair p q) rs → ArePairsIn p (qs ++ (q ∷ [])) rs
    pairs_again listed r = (λ i. old_pair r i, λ h. into h.1 (has_cases (collapsed_pair p) qs q r h.0))
      where
        into : r.earlier.strand ≢ r.later.strand → Has (λ z. collapsed_pair p z ≡ r) qs ⊎ (collapsed_pair p q ≡ r) → IsIn r rs
        into ne (inl h) = (so_far r).1 (h, ne)
        into ne (inr e) = subst (λ (z : OrderPair). IsIn z rs) e listed

    -- The pair comes to lie on one strand, and is dropped.
    pub pairs_dropped : LiesOnOne p q → ArePairsIn p (qs ++ (q ∷ [])) rs
    pairs_dropped one r = (λ i. old_pair r i, λ h. into h.1 (has_cases (collapsed_pair p) qs q r h.0))
      where
        into : r.earlier.strand ≢ r.later.strand → Has (λ z. collapsed_pair p z ≡ r) qs ⊎ (collapsed_pair p q ≡ r) → IsIn r rs
        into ne (inl h) = (so_far r).1 (h, ne)
        into ne (inr e) = absurd (subst (λ (z : OrderPair). z.earlier.strand ≢ z.later.strand) (sym e) ne one)

-- A skeleton that embeds in another has its partition.
use Rattle.std.proofs.Common.{◌≡◌, ◌↔◌, ◌⊎◌, inl, inr, ℕ, suc, Bool, true, false, nat_eq, if◌then◌else◌, List, [], ◌∷◌, Option, Some, None, map, refl, sym, ap, ap₂, ◌∙◌, eq-eqb, eqb-true}
use Rattle.std.specs.Option.{option_eq}
use Rattle.std.specs.Cmp.Lexicographic.{pointwise}
use Rattle.std.specs.Prelude.{Decides}
use Rattle.std.proofs.lemmas.Slice.Eq.{slice_eq-Decides}
use Rattle.cp_lists.proofs.Items.{there_or_none}
use Rattle.cp_lists.specs.Lists.{item_at, IsIn, here, there}
use Rattle.cp_model.specs.Bindings.{Binding}
use Rattle.cp_model.specs.Strand.{Role}
use Rattle.cp_model.specs.Skeleton.{SkeletonStrand, instance, listener, Skeleton}
use Rattle.cp_model.specs.Homomorphism.{SkeletonMap, IsEmbedding, Embeds}
use Rattle.cp_fingerprint.specs.FirstPlaces.{first_place_of}
use Rattle.cp_fingerprint.specs.Partition.{entry_by, entry_of, partition_entries_from, partition_of, is_whole}
use Rattle.cp_fingerprint.specs.PartitionNumber.{partition_number}

-- ---- entries past the end

-- Something stands at the place.
abbrev IsThere : Skeleton → ℕ → Type 0
IsThere k p = (x : SkeletonStrand) × (item_at k.strands p ≡ Some x)

none_entry : (k : Skeleton) (s p : ℕ) → item_at k.strands p ≡ None → entry_of k s p ≡ None
none_entry k s p e = ap (entry_by k.from_problem.strands s p) e

some_entry : (k : Skeleton) (s p : ℕ) (x : SkeletonStrand) → item_at k.strands p ≡ Some x → (e : ℕ) × (entry_of k s p ≡ Some e)
some_entry k s p (instance role height terms) at = (first_place_of p k.from_problem.strands, ap (entry_by k.from_problem.strands s p) at)
some_entry k s p (listener t) at = (s, ap (entry_by k.from_problem.strands s p) at)

whole_past : (o : Option ℕ) (es : List (Option ℕ)) → o ≡ None → is_whole (o ∷ es) ≡ false
whole_past o es e = ap (λ (x : Option ℕ). is_whole (x ∷ es)) e

whole_on : (o : Option ℕ) (e : ℕ) (es : List (Option ℕ)) → o ≡ Some e → is_whole (o ∷ es) ≡ is_whole es
whole_on o e es q = ap (λ (x : Option ℕ). is_whole (x ∷ es)) q

abbrev AllThere : Skeleton → List ℕ → Type 0
AllThere k ps = (p : ℕ) → IsIn p ps → IsThere k p

all_there : (k : Skeleton) (p : ℕ) (ps : List ℕ) → IsThere k p → AllThere k ps → AllThere k (p ∷ ps)
all_there k p ps first rest q here = first
all_there k p ps first rest q (there i) = rest q i

there_or_not_whole : (k : Skeleton) (s : ℕ) (ps : List ℕ) → AllThere k ps ⊎ (is_whole (partition_entries_from k s ps) ≡ false)
there_or_not_whole k s [] = inl (λ p i. elim i [ ])
there_or_not_whole k s (p ∷ ps) = by (there_or_none (item_at k.strands p)) (there_or_not_whole k (suc s) ps)
  where
    onto : (e : ℕ) → entry_of k s p ≡ Some e → IsThere k p → AllThere k ps ⊎ (is_whole (partition_entries_from k (suc s) ps) ≡ false) → AllThere k (p ∷ ps) ⊎ (is_whole (partition_entries_from k s (p ∷ ps)) ≡ false)
    onto e q first (inl rest) = inl (all_there k p ps first rest)
    onto e q first (inr h) = inr (whole_on (entry_of k s p) e (partition_entries_from k (suc s) ps) q ∙ h)

    by : IsThere k p ⊎ (item_at k.strands p ≡ None) → AllThere k ps ⊎ (is_whole (partition_entries_from k (suc s) ps) ≡ false) → AllThere k (p ∷ ps) ⊎ (is_whole (partition_entries_from k s (p ∷ ps)) ≡ false)
    by (inr e) rest = inr (whole_past (entry_of k s p) (partition_entries_from k (suc s) ps) (none_entry k s p e))
    by (inl h) rest = let q = some_entry k s p h.0 h.1 in onto q.0 q.1 h rest

-- ---- entries that stay

eq_same : (a b c d : ℕ) → (a ≡ b → c ≡ d) → (c ≡ d → a ≡ b) → (x y : Bool) → nat_eq a b ≡ x → nat_eq c d ≡ y → nat_eq a b ≡ nat_eq c d
eq_same a b c d f g true true p q = p ∙ sym q
eq_same a b c d f g false false p q = p ∙ sym q
eq_same a b c d f g true false p q = absurd (let h : nat_eq c d ≡ true = eq-eqb c d (f (eqb-true a b p)) in cc)
eq_same a b c d f g false true p q = absurd (let h : nat_eq a b ≡ true = eq-eqb a b (g (eqb-true c d q)) in cc)

first_next : (n m : ℕ) (ms : List ℕ) (b : Bool) → nat_eq m n ≡ b → first_place_of n (m ∷ ms) ≡ (if b then 0 else suc (first_place_of n ms))
first_next n m ms true e = rw e refl
first_next n m ms false e = rw e refl

module _ (a b : Skeleton) (f : SkeletonMap) (emb : IsEmbedding a b f) where
  module _ (p : ℕ) (role : Role) (height : ℕ) (terms : List Binding) (at : item_at a.strands p ≡ Some (instance role height terms)) where
    -- What goes where the instance at p goes is at p.
    only_itself : (q : ℕ) (x : SkeletonStrand) → item_at a.strands q ≡ Some x → f.strands q ≡ f.strands p → q ≡ p
    only_itself q (instance role' height' terms') au e = emb.injective q p role' height' terms' role height terms au at e
    only_itself q (listener t) au e =
        let one = emb.homomorphism.listeners q t au in
        let other = (emb.homomorphism.instances p role height terms at).on_instance in
        let moved = ap (item_at b.strands) e in
        absurd (cc)

    first_kept : (qs : List ℕ) → AllThere a qs → first_place_of p qs ≡ first_place_of (f.strands p) (map f.strands qs)
    first_kept [] all = refl
    first_kept (q ∷ qs) all =
        let x = all q here in
        let same : nat_eq q p ≡ nat_eq (f.strands q) (f.strands p) = eq_same q p (f.strands q) (f.strands p) (λ e. ap f.strands e) (only_itself q x.0 x.1) (nat_eq q p) (nat_eq (f.strands q) (f.strands p)) refl refl in
        let rest = first_kept qs (λ r i. all r (there i)) in
        first_next p q qs (nat_eq q p) refl
        ∙ (ap₂ (λ (c : Bool) (m : ℕ). if c then 0 else suc m) same rest
        ∙ sym (first_next (f.strands p) (f.strands q) (map f.strands qs) (nat_eq (f.strands q) (f.strands p)) refl))

  module _ (all : AllThere a a.from_problem.strands) where
    places_of_b : map f.strands a.from_problem.strands ≡ b.from_problem.strands
    places_of_b = emb.same_strands

    entry_kept : (s p : ℕ) (x : SkeletonStrand) → item_at a.strands p ≡ Some x → entry_of a s p ≡ entry_of b s (f.strands p)
    entry_kept s p (instance role height terms) at =
        ap (entry_by a.from_problem.strands s p) at
        ∙ (ap Some (first_kept p role height terms at a.from_problem.strands all ∙ ap (first_place_of (f.strands p)) places_of_b)
        ∙ sym (ap (entry_by b.from_problem.strands s (f.strands p)) (emb.homomorphism.instances p role height terms at).on_instance))
    entry_kept s p (listener t) at =
        ap (entry_by a.from_problem.strands s p) at ∙ sym (ap (entry_by b.from_problem.strands s (f.strands p)) (emb.homomorphism.listeners p t at))

    entries_kept : (s : ℕ) (ps : List ℕ) → AllThere a ps → partition_entries_from a s ps ≡ partition_entries_from b s (map f.strands ps)
    entries_kept s [] there_all = refl
    entries_kept s (p ∷ ps) there_all = let x = there_all p here in ap₂ ◌∷◌ (entry_kept s p x.0 x.1) (entries_kept (suc s) ps (λ q i. there_all q (there i)))

    pub partition_kept : partition_of a ≡ partition_of b
    partition_kept = entries_kept 0 a.from_problem.strands all ∙ ap (partition_entries_from b 0) places_of_b

-- A skeleton that embeds in another has its partition, where that is whole.
pub same_partition : (a b : Skeleton) → Embeds a b → (is_whole (partition_of a) ≡ false) ⊎ (partition_of a ≡ partition_of b)
same_partition a b h = by (there_or_not_whole a 0 a.from_problem.strands)
  where
    by : AllThere a a.from_problem.strands ⊎ (is_whole (partition_of a) ≡ false) → (is_whole (partition_of a) ≡ false) ⊎ (partition_of a ≡ partition_of b)
    by (inl all) = inr (partition_kept a b h.0 h.1 all)
    by (inr broken) = inl broken

-- ---- what is let through

entries_told : (x y : Option ℕ) → Decides (option_eq nat_eq x y) (x ≡ y)
entries_told None None = (λ _. refl, λ _. refl)
entries_told None (Some y) = (λ e. absurd (cc), λ e. absurd (cc))
entries_told (Some x) None = (λ e. absurd (cc), λ e. absurd (cc))
entries_told (Some x) (Some y) = (λ e. ap Some (eqb-true x y e), λ e. eq-eqb x y (cc))

-- What signatures with these entries let through: those that are not whole, and equal ones.
abbrev IsLetThrough : List (Option ℕ) → List (Option ℕ) → Type 0
IsLetThrough xs ys = (is_whole xs ≡ false) ⊎ (xs ≡ ys)

module _ (xs ys : List (Option ℕ)) (flag : Bool) where
  module _ (whole : is_whole xs ≡ true) where
    whole_through : Decides flag (xs ≡ ys) → (flag ≡ true) ↔ IsLetThrough xs ys
    whole_through told = (λ e. inr (told.0 e), back)
      where
        back : IsLetThrough xs ys → flag ≡ true
        back (inl broken) = absurd (let both : true ≡ false = sym whole ∙ broken in cc)
        back (inr e) = told.1 e

    -- Of whole entries those are let through that are found equal.
    pub found_equal : flag ≡ pointwise (option_eq nat_eq) xs ys → (flag ≡ true) ↔ IsLetThrough xs ys
    found_equal is = whole_through (slice_eq-Decides entries_told xs ys flag is)

    -- Of whole entries none are let through whose numbers differ.
    pub numbers_differ : (first second : ℕ) → first ≡ partition_number 1 xs → second ≡ partition_number 1 ys → (first ≡ second → ⊥) → flag ≡ nat_eq first second → (flag ≡ true) ↔ IsLetThrough xs ys
    numbers_differ first second first_is second_is differ is = whole_through (λ e. absurd (differ (eqb-true first second (sym is ∙ e))), λ e. absurd (differ (first_is ∙ (ap (partition_number 1) e ∙ sym second_is))))

-- What holds of entries holds of what is seen of them.
pub seen_through : (xs ys vs ws : List (Option ℕ)) (flag : Bool) → xs ≡ vs → ys ≡ ws → (flag ≡ true) ↔ IsLetThrough xs ys → (flag ≡ true) ↔ IsLetThrough vs ws
seen_through xs ys vs ws flag v w exact = (λ e. onward (exact.0 e), λ h. exact.1 (back h))
  where
    onward : IsLetThrough xs ys → IsLetThrough vs ws
    onward (inl broken) = inl (ap is_whole (sym v) ∙ broken)
    onward (inr e) = inr (sym v ∙ (e ∙ w))

    back : IsLetThrough vs ws → IsLetThrough xs ys
    back (inl broken) = inl (ap is_whole v ∙ broken)
    back (inr e) = inr (v ∙ (e ∙ sym w))

-- A skeleton that embeds in another is let through.
pub embedding_through : (vs ws : List (Option ℕ)) (flag : Bool) → (flag ≡ true) ↔ IsLetThrough vs ws → (a b : Skeleton) → partition_of a ≡ vs → partition_of b ≡ ws → Embeds a b → flag ≡ true
embedding_through vs ws flag exact a b v w h = (seen_through vs ws (partition_of a) (partition_of b) flag (sym v) (sym w) exact).1 (same_partition a b h)

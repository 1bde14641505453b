-- Which items of a list have a property, and loops over them.
use Rattle.std.proofs.Common.{ℕ, ◌+◌, ◌<◌, ◌≤◌, List, ◌≡◌, ◌↔◌, ◌⊎◌, inl, inr, Bool, true, false, not, length, get_or, drop, refl, sym, subst}
use Rattle.std.proofs.lemmas.Bool.{not_from_false, false_from_ne_true}
use Rattle.cp_lists.specs.Lists.{IsIn, here, there}
use Rattle.cp_lists.proofs.Members as members
use Rattle.cp_model.specs.Term.{Term, IsCarriedByTerm}
use Rattle.cp_model.proofs.CarriedParts.{not_both}
use Rattle.cp_collapse.specs.Property.{Has}

pub is_not : {b : Bool} → not b ≡ true → b ≡ true → ⊥
is_not p q = cc

pub not_is : {b : Bool} → (b ≡ true → ⊥) → not b ≡ true
not_is {b} p = not_from_false b (false_from_ne_true b p)

-- An item that has the property is found.
pub found : {A : Type 0} (has : A → Type 0) (xs : List A) (i : ℕ) (x : A) → i < length xs → x ≡ get_or xs i x → has x → Has has xs
found has xs i x l e p = (x, members.item_is_in xs i x l e, p)

-- What is left is the next item and those behind it.
pub next_or_rest : {A : Type 0} (has : A → Type 0) (xs : List A) (i : ℕ) (x : A) → i < length xs → x ≡ get_or xs i x → Has has (drop i xs) → has x ⊎ Has has (drop (i + 1) xs)
next_or_rest has xs i x l e h = of (members.next_or_rest xs i h.0 x l e h.1)
  where
    of : (x ≡ h.0) ⊎ IsIn h.0 (drop (i + 1) xs) → has x ⊎ Has has (drop (i + 1) xs)
    of (inl q) = inl (subst has (sym q) h.2)
    of (inr p) = inr (h.0, p, h.2)

-- An item that doesn't have it is passed.
pub next : {A : Type 0} (has : A → Type 0) (xs : List A) (i : ℕ) (x : A) → i < length xs → x ≡ get_or xs i x → (has x → ⊥) → Has has (drop i xs) → Has has (drop (i + 1) xs)
next has xs i x l e not p = of (next_or_rest has xs i x l e p)
  where
    of : has x ⊎ Has has (drop (i + 1) xs) → Has has (drop (i + 1) xs)
    of (inl q) = absurd (not q)
    of (inr r) = r

pub none : {A : Type 0} (has : A → Type 0) (xs : List A) (i : ℕ) → length xs ≤ i → Has has (drop i xs) → ⊥
none has xs i l h = members.none_left xs i h.0 l h.1

pub next_back : {A : Type 0} (has : A → Type 0) (xs : List A) (i : ℕ) (x : A) → i < length xs → x ≡ get_or xs i x → has x ⊎ Has has (drop (i + 1) xs) → Has has (drop i xs)
next_back has xs i x l e (inl p) = (x, subst (IsIn x) (sym (members.drop_read xs i x l e)) here, p)
next_back has xs i x l e (inr h) = (h.0, subst (IsIn h.0) (sym (members.drop_read xs i x l e)) (there h.1), h.2)

-- ---- loops that look for an item that has the property

-- The item at hand has it.
pub item_found : {A : Type 0} {b : Bool} (has : A → Type 0) (xs : List A) (i : ℕ) (x : A) → i < length xs → x ≡ get_or xs i x → (b ≡ true) ↔ has x → b ≡ true → (true ≡ true) ↔ Has has xs
item_found has xs i x l e test t = (λ _. found has xs i x l e (test.0 t), λ _. refl)

-- The item at hand doesn't: what is sought is behind it.
pub item_passed : {A : Type 0} {b : Bool} (has : A → Type 0) (xs : List A) (i : ℕ) (x : A) → i < length xs → x ≡ get_or xs i x → (b ≡ true) ↔ has x → b ≡ false → (Has has xs → Has has (drop i xs)) → Has has xs → Has has (drop (i + 1) xs)
item_passed has xs i x l e test f left h = next has xs i x l e (λ p. not_both f (test.1 p)) (left h)

-- At the end there is none.
pub no_item : {A : Type 0} (has : A → Type 0) (xs : List A) (i : ℕ) → length xs ≤ i → (Has has xs → Has has (drop i xs)) → (false ≡ true) ↔ Has has xs
no_item has xs i l left = (λ r. absurd (not_both refl r), λ h. absurd (none has xs i l (left h)))

-- ---- terms that are carried

pub same_carried : (part part' whole whole' : Term) → part ≡ part' → whole ≡ whole' → IsCarriedByTerm part whole → IsCarriedByTerm part' whole'
same_carried part part' whole whole' p w h = subst (λ z. IsCarriedByTerm part' z) w (subst (λ z. IsCarriedByTerm z whole) p h)

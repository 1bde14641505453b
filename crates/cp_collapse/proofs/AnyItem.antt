-- What `any` says of a list and a property.
use Rattle.std.proofs.Common.{◌≡◌, ◌↔◌, ℕ, suc, ◌<◌, Bool, true, false, MatchBool, List, [], ◌∷◌, length, get_or, refl, arith}
use Rattle.std.specs.List.{HoldsAt, AllWithin}
use Rattle.std.proofs.lemmas.List.{get_or_default}
use Rattle.cp_lists.specs.Lists.{IsIn, here, there}
use Rattle.cp_lists.proofs.Members.{item_is_in}
use Rattle.cp_collapse.specs.Property.{Has}
use Rattle.cp_model.proofs.CarriedParts.{not_both}

-- The item at a place where the property holds has it.
has_there : {A : Type 0} (has : A → Type 0) (xs : List A) (k : ℕ) → k < length xs → HoldsAt has xs k → Has has xs
has_there has [] k l h = absurd (omega (arith, l))
has_there has (x ∷ xs) k l h =
    let y = get_or (x ∷ xs) k x in
    (y, item_is_in (x ∷ xs) k y l (get_or_default (x ∷ xs) k x y l), h x)

-- Where it fails at each place no item has it.
fails_for : {A : Type 0} {x : A} {xs : List A} (has : A → Type 0) → IsIn x xs → AllWithin (λ y. has y → ⊥) xs 0 (length xs) → has x → ⊥
fails_for {x = x} has here fails p = fails 0 x (omega arith) (omega arith) p
fails_for has (there i) fails p = fails_for has i (λ k d l m. fails (suc k) d (omega arith) (omega (arith, m))) p

-- Whether some item has it is what `any` answers.
pub some_has : {A : Type 0} (has : A → Type 0) (xs : List A) (r : Bool) → MatchBool r ((k : ℕ) × (k < length xs) × HoldsAt has xs k) (AllWithin (λ x. has x → ⊥) xs 0 (length xs)) → (r ≡ true) ↔ Has has xs
some_has has xs true at = (λ _. has_there has xs at.0 at.1 at.2, λ _. refl)
some_has has xs false fails = (λ r. absurd (not_both refl r), λ h. absurd (fails_for has h.1 fails h.2))

-- Lists that are made item by item.
use Rattle.std.specs.Prelude.{◌||◌, List, [], ◌∷◌, ◌++◌, Bool, false, if◌then◌else◌}
use Rattle.cp_model.specs.Term.{Term}
use Rattle.cp_model.specs.Same.{same_term}

-- The second list is what the items of the first give, strung together in their order.
pub data EachGives {A B : Type 0} (gives : A → List B → Type 0) : List A → List B → Type 0 where
  nothing_given : EachGives gives [] []
  then_given : {x : A} {xs : List A} {ys zs : List B} → gives x ys → EachGives gives xs zs → EachGives gives (x ∷ xs) (ys ++ zs)

-- The second list is what the first items of the first list give, and what a next one starts to give.
pub data StartsGiving {A B : Type 0} (gives starts : A → List B → Type 0) : List A → List B → Type 0 where
  starts_here : {x : A} {xs : List A} {ys : List B} → starts x ys → StartsGiving gives starts (x ∷ xs) ys
  starts_later : {x : A} {xs : List A} {ys zs : List B} → gives x ys → StartsGiving gives starts xs zs → StartsGiving gives starts (x ∷ xs) (ys ++ zs)

-- The second list are the items of the first that have the property, in their order.
pub data AreThoseWith {A : Type 0} (has : A → Type 0) : List A → List A → Type 0 where
  none_left : AreThoseWith has [] []
  taken : {x : A} {xs ys : List A} → has x → AreThoseWith has xs ys → AreThoseWith has (x ∷ xs) (x ∷ ys)
  left_out : {x : A} {xs ys : List A} → (has x → ⊥) → AreThoseWith has xs ys → AreThoseWith has (x ∷ xs) ys

-- The term is one of these.
abbrev pub has_term : List Term → Term → Bool
has_term [] t = false
has_term (u ∷ us) t = same_term u t || has_term us t

-- Behind the terms that stand before, those of the list that did not stand yet, each once.
abbrev pub terms_onto : List Term → List Term → List Term
terms_onto before [] = before
terms_onto before (t ∷ ts) = terms_onto (if has_term before t then before else before ++ t ∷ []) ts

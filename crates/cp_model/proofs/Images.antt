-- Lists that are exactly what a function makes of the items of another.
use Rattle.std.proofs.Common.{◌≡◌, List, [], ◌∷◌, map, refl, sym, ap, ◌∙◌, subst}
use Rattle.cp_lists.specs.Lists.{IsIn, here, there}
use Rattle.cp_lists.proofs.Members.{into_map}
use Rattle.cp_model.specs.Stated.{IsImageOfOne, AreImages}

-- What a function that changes nothing makes of the items is these items.
pub own_images : {A : Type 0} (f : A → A) (xs : List A) → ((x : A) → f x ≡ x) → AreImages f xs xs
own_images f xs same y = (λ i. record { item = y; listed = i; image = same y }, λ r. subst (λ z. IsIn z xs) (sym (same r.item) ∙ r.image) r.listed)

-- One function after the other.
pub images_then : {A B C : Type 0} (f : A → B) (g : B → C) (h : A → C) (xs : List A) (ys : List B) (zs : List C) → AreImages f xs ys → AreImages g ys zs →
    ((x : A) → IsIn x xs → h x ≡ g (f x)) → AreImages h xs zs
images_then f g h xs ys zs p q same z = (
  λ i. let r = (q z).0 i in
      let o = (p r.item).0 r.listed in
      record { item = o.item; listed = o.listed; image = same o.item o.listed ∙ ap g o.image ∙ r.image },
  λ r. (q z).1 (record { item = f r.item; listed = (p (f r.item)).1 (record { item = r.item; listed = r.listed; image = refl }); image = sym (same r.item r.listed) ∙ r.image }),
)

-- The items of a mapped list.
in_mapped : {A B : Type 0} (f : A → B) (xs : List A) (y : B) → IsIn y (map f xs) → IsImageOfOne f xs y
in_mapped f [] y i = elim i [ ]
in_mapped f (x ∷ xs) y here = record { item = x; listed = here; image = refl }
in_mapped f (x ∷ xs) y (there i) = let r = in_mapped f xs y i in record { item = r.item; listed = there r.listed; image = r.image }

pub mapped_images : {A B : Type 0} (f : A → B) (xs : List A) → AreImages f xs (map f xs)
mapped_images f xs y = (in_mapped f xs y, λ r. subst (λ z. IsIn z (map f xs)) r.image (into_map f r.listed))

-- What a function makes of some of the items is among what it makes of all.
pub images_within : {A B : Type 0} (f : A → B) (xs all : List A) (ys zs : List B) → AreImages f xs ys → AreImages f all zs → ((x : A) → IsIn x xs → IsIn x all) → (y : B) → IsIn y ys → IsIn y zs
images_within f xs all ys zs p q within y i = let r = (p y).0 i in (q y).1 (record { item = r.item; listed = within r.item r.listed; image = r.image })

-- Rows and marks that are made one after the other.
use Rattle.std.proofs.Common.{◌≡◌, ◌⊎◌, inl, inr, ℕ, ◌+◌, ◌<◌, List, [], ◌∷◌, ◌++◌, length, get_or, map, Vec, Option, Some, refl, sym, ap, subst, ◌∙◌, arith}
use Rattle.std.proofs.lemmas.List.{map-append, length_push}
use Rattle.cp_lists.specs.Lists.{item_at}
use Rattle.cp_model.specs.Skeleton.{Skeleton}
use Rattle.cp_shapes.specs.Shapes.{FindsLeast, IsInstanceOfShape, IsMarkOf, AreShapeMarksOf}
use Rattle.cp_shapes.specs.Rows.{IsRowOf, AreEmbeddingRowsOf, rows_view}
use Rattle.cp_lists.proofs.Items.{item_below, item_of_push, map_of_read}
use Rattle.cp_shapes.proofs.Found.{found_marks}

-- The items, n of them, are each so at their place.
pub record AreTo {A : Type 0} (fact : ℕ → A → Type 0) (xs : List A) (n : ℕ) : Type 0 where
  pub count : length xs ≡ n
  pub each : (m : ℕ) (x : A) → item_at xs m ≡ Some x → fact m x

pub none_to : {A : Type 0} (fact : ℕ → A → Type 0) (xs : List A) → xs ≡ [] → AreTo fact xs 0
none_to {A} fact xs e = subst (λ (ys : List A). AreTo fact ys 0) (sym e) (record { count = refl; each = λ m x at. absurd (cc) })

pub next_to : {A : Type 0} (fact : ℕ → A → Type 0) (xs : List A) (n : ℕ) (y : A) → AreTo fact xs n → fact n y → (new : List A) → new ≡ xs ++ y ∷ [] → AreTo fact new (n + 1)
next_to {A} fact xs n y so_far f new e = subst (λ (ys : List A). AreTo fact ys (n + 1)) (sym e) (record {
  count = length_push xs y ∙ ap (λ (m : ℕ). m + 1) so_far.count;
  each = λ m x at. by m x (item_of_push xs y m x at);
})
  where
    by : (m : ℕ) (x : A) → (item_at xs m ≡ Some x) ⊎ ((m ≡ length xs) × (y ≡ x)) → fact m x
    by m x (inl at) = so_far.each m x at
    by m x (inr h) = subst (fact m) h.1 (subst (λ (k : ℕ). fact k y) (sym (h.0 ∙ so_far.count)) f)

pub next_row : {A B : Type 0} (fact : ℕ → B → Type 0) (f : A → B) (xs : List A) (n : ℕ) (y : A) → AreTo fact (map f xs) n → fact n (f y) → (new : List A) → new ≡ xs ++ y ∷ [] → AreTo fact (map f new) (n + 1)
next_row fact f xs n y so_far h new e = next_to fact (map f xs) n (f y) so_far h (map f new) (ap (map f) e ∙ map-append f xs (y ∷ []))

abbrev pub AreRowsTo : List Skeleton → List (List ℕ) → ℕ → Type 0
AreRowsTo ks rows n = AreTo (IsRowOf ks) rows n

abbrev pub AreMarksTo : List Skeleton → List (Option ℕ) → ℕ → Type 0
AreMarksTo ks marks n = AreTo (IsMarkOf ks) marks n

pub all_rows : (ks : List Skeleton) (rows : List (List ℕ)) (n : ℕ) → AreRowsTo ks rows n → n ≡ length ks → AreEmbeddingRowsOf ks rows
all_rows ks rows n are e = record { count = are.count ∙ e; each = are.each }

module _ {A : Type 0} (ks : List Skeleton) (rs slice whole : List (Vec ℕ A)) (are : AreEmbeddingRowsOf ks (rows_view rs)) (row : Vec ℕ A) (row_slice : List ℕ) (i : ℕ) where
  row_there : slice ≡ rs → i < length slice → row ≡ get_or slice i row → item_at (rows_view rs) i ≡ Some row.items
  row_there e l is = subst (λ (xs : List (Vec ℕ A)). item_at (rows_view xs) i ≡ Some row.items) e (map_of_read (λ (r : Vec ℕ A). r.items) slice i row l is)

  within_ks : item_at (rows_view rs) i ≡ Some row.items → i < length ks
  within_ks at = let l : i < length (rows_view rs) = item_below (rows_view rs) i row.items at in let c = are.count in omega (arith, l, c)

  -- One more mark, that which is found for the next row.
  pub next_mark : (marks new : List (Option ℕ)) (found : Option ℕ) → slice ≡ rs → whole ≡ rs → row_slice ≡ row.items → i < length slice → row ≡ get_or slice i row → AreMarksTo ks marks i →
      ((js : List Skeleton) (m : ℕ) → AreEmbeddingRowsOf js (rows_view whole) → IsRowOf js m row_slice → FindsLeast (IsInstanceOfShape js m) found) → new ≡ marks ++ found ∷ [] → AreMarksTo ks new (i + 1)
  next_mark marks new found e w r l is so_far finds push =
      let at = row_there e l is in
      let found_here : FindsLeast (IsInstanceOfShape ks i) found =
      finds ks i (subst (λ (xs : List (Vec ℕ A)). AreEmbeddingRowsOf ks (rows_view xs)) (sym w) are) (subst (IsRowOf ks i) (sym r) (are.each i row.items at)) in
      next_to (IsMarkOf ks) marks i found so_far (found_marks ks (rows_view rs) are i (within_ks at) found found_here) new push

pub all_marks : (ks : List Skeleton) (marks : List (Option ℕ)) (n : ℕ) → AreMarksTo ks marks n → n ≡ length ks → AreShapeMarksOf ks marks
all_marks ks marks n are e = record { count = are.count ∙ e; each = are.each }

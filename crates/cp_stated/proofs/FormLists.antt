-- Lists of forms, one after another.
use Rattle.std.proofs.Common.{◌≡◌, ℕ, ◌+◌, ◌<◌, ◌≤◌, List, [], ◌∷◌, ◌++◌, length, get_or, map, drop, Bool, true, false, if◌then◌else◌, sym, ap, ◌∙◌}
use Rattle.std.specs.Prelude.{Option}
use Rattle.std.specs.List.{filter}
use Rattle.std.proofs.lemmas.List.{drop_all, append_assoc, append-nil, get_or_default}
use Rattle.cp_lists.proofs.Members.{drop_read}
use Rattle.cp_base.specs.declared.place.Place.{Place}
use Rattle.cp_sexpr.specs.Syntax.{Form}
use Rattle.cp_sexpr.specs.View.{view}
use Rattle.cp_sexpr.specs.declared.form.Form as program
use Rattle.cp_report.specs.Misfits.{place_before, each_misfits}
use Rattle.cp_report.specs.Heads.{has_head, items_with}
use Rattle.cp_spelled.specs.FirstMisfit.{first_onto}
use Rattle.cp_scope.proofs.FirstOf.{first_onto-append}

-- ---- each is asked with what those before it stand for

module _ {A : Type 0} (next : List A → Form → List A) (one : List A → Form → List Place) (whole : List A → List Form → List Place) (forms : List program.Form) (k : ℕ) where
  pub gathered-taken : ((b : List A) (f : Form) (fs : List Form) → whole b (f ∷ fs) ≡ one b f ++ whole (next b f) fs) → (f : program.Form) → k < length forms → f ≡ get_or forms k f
      → (xs ys : List A) (o p all : Option Place) → ys ≡ next xs (view f) → p ≡ first_onto o (one xs (view f))
      → first_onto o (whole xs (map view (drop k forms))) ≡ all → first_onto p (whole ys (map view (drop (k + 1) forms))) ≡ all
  gathered-taken goes f h e xs ys o p all g q i =
      let rest = map view (drop (k + 1) forms) in
      ap (λ zs. first_onto p (whole zs rest)) g ∙ ap (λ x. first_onto x (whole (next xs (view f)) rest)) q
      ∙ sym (first_onto-append place_before o (one xs (view f)) (whole (next xs (view f)) rest))
      ∙ sym (ap (first_onto o) (goes xs (view f) rest))
      ∙ sym (ap (λ fs. first_onto o (whole xs (map view fs))) (drop_read forms k f h e)) ∙ i

  pub gathered-done : ((b : List A) → whole b [] ≡ []) → length forms ≤ k → (xs : List A) (o all : Option Place) → first_onto o (whole xs (map view (drop k forms))) ≡ all → o ≡ all
  gathered-done ends h xs o all i =
      sym (ap (first_onto o) (ap (λ fs. whole xs (map view fs)) (drop_all k forms h) ∙ ends xs)) ∙ i

-- ---- those with a head

module _ (heads : List (List ℕ)) (forms : List program.Form) (k : ℕ) (f : program.Form) (h : k < length forms) (e : f ≡ get_or forms k f) where
  abbrev rest : List Form
  rest = items_with heads (map view (drop (k + 1) forms))

  by_head : (b : Bool) → b ≡ has_head heads (view f) → items_with heads (map view (drop k forms)) ≡ (if b then view f ∷ rest else rest)
  by_head b t = ap (λ fs. items_with heads (map view fs)) (drop_read forms k f h e) ∙ ap (λ c. if c then view f ∷ rest else rest) (sym t)

  pub headed-asked : (inside : Form → List Place) (b : Bool) → b ≡ has_head heads (view f) → b ≡ true → (o p all : Option Place) → p ≡ first_onto o (inside (view f))
      → first_onto o (each_misfits inside (items_with heads (map view (drop k forms)))) ≡ all → first_onto p (each_misfits inside rest) ≡ all
  headed-asked inside b t is o p all q i =
      ap (λ x. first_onto x (each_misfits inside rest)) q ∙ sym (first_onto-append place_before o (inside (view f)) (each_misfits inside rest))
      ∙ sym (ap (λ c. first_onto o (each_misfits inside (if c then view f ∷ rest else rest))) is)
      ∙ sym (ap (λ fs. first_onto o (each_misfits inside fs)) (by_head b t)) ∙ i

  pub headed-passed : (inside : Form → List Place) (b : Bool) → b ≡ has_head heads (view f) → b ≡ false → (o all : Option Place)
      → first_onto o (each_misfits inside (items_with heads (map view (drop k forms)))) ≡ all → first_onto o (each_misfits inside rest) ≡ all
  headed-passed inside b t is o all i =
      sym (ap (λ c. first_onto o (each_misfits inside (if c then view f ∷ rest else rest))) is)
      ∙ sym (ap (λ fs. first_onto o (each_misfits inside fs)) (by_head b t)) ∙ i

  pub headed-made : {A : Type 0} (make : Form → A) (b : Bool) → b ≡ has_head heads (view f) → b ≡ true → (xs ys all : List A) → ys ≡ xs ++ make (view f) ∷ []
      → xs ++ map make (items_with heads (map view (drop k forms))) ≡ all → ys ++ map make rest ≡ all
  headed-made make b t is xs ys all q i =
      ap (λ zs. zs ++ map make rest) q ∙ append_assoc xs (make (view f) ∷ []) (map make rest)
      ∙ sym (ap (λ c. xs ++ map make (if c then view f ∷ rest else rest)) is)
      ∙ sym (ap (λ fs. xs ++ map make fs) (by_head b t)) ∙ i

  pub headed-left : {A : Type 0} (make : Form → A) (b : Bool) → b ≡ has_head heads (view f) → b ≡ false → (xs all : List A)
      → xs ++ map make (items_with heads (map view (drop k forms))) ≡ all → xs ++ map make rest ≡ all
  headed-left make b t is xs all i =
      sym (ap (λ c. xs ++ map make (if c then view f ∷ rest else rest)) is)
      ∙ sym (ap (λ fs. xs ++ map make fs) (by_head b t)) ∙ i

-- ---- those of the images that are kept

module _ {A B : Type 0} (make : A → B) (keep : B → Bool) (xs : List A) (k : ℕ) where
  abbrev left : ℕ → List B
  left n = filter keep (map make (drop n xs))

  by_test : (x : A) → k < length xs → x ≡ get_or xs k x → (y : B) (b : Bool) → y ≡ make x → b ≡ keep y → left k ≡ (if b then y ∷ left (k + 1) else left (k + 1))
  by_test x h e y b m t =
      ap (λ zs. filter keep (map make zs)) (drop_read xs k x h e)
      ∙ ap (λ z. if keep z then z ∷ left (k + 1) else left (k + 1)) (sym m) ∙ ap (λ c. if c then y ∷ left (k + 1) else left (k + 1)) (sym t)

  pub kept-taken : (x : A) → k < length xs → x ≡ get_or xs k x → (y : B) (b : Bool) → y ≡ make x → b ≡ keep y → b ≡ true → (ys zs all : List B) → zs ≡ ys ++ y ∷ [] → ys ++ left k ≡ all → zs ++ left (k + 1) ≡ all
  kept-taken x h e y b m t is ys zs all q i =
      ap (λ us. us ++ left (k + 1)) q ∙ append_assoc ys (y ∷ []) (left (k + 1)) ∙ sym (ap (λ c. ys ++ (if c then y ∷ left (k + 1) else left (k + 1))) is)
      ∙ sym (ap (λ us. ys ++ us) (by_test x h e y b m t)) ∙ i

  pub kept-left : (x : A) → k < length xs → x ≡ get_or xs k x → (y : B) (b : Bool) → y ≡ make x → b ≡ keep y → b ≡ false → (ys all : List B) → ys ++ left k ≡ all → ys ++ left (k + 1) ≡ all
  kept-left x h e y b m t is ys all i =
      sym (ap (λ c. ys ++ (if c then y ∷ left (k + 1) else left (k + 1))) is) ∙ sym (ap (λ us. ys ++ us) (by_test x h e y b m t)) ∙ i

  pub kept-done : length xs ≤ k → (ys all : List B) → ys ++ left k ≡ all → ys ≡ all
  kept-done h ys all i = sym (append-nil ys) ∙ sym (ap (λ zs. ys ++ filter keep (map make zs)) (drop_all k xs h)) ∙ i

  -- items that are copied

  pub copy-taken : (d : A) → k < length xs → (y : B) (b : Bool) → y ≡ make (get_or xs k d) → b ≡ keep y → b ≡ true → (ys zs all : List B) → zs ≡ ys ++ y ∷ [] → ys ++ left k ≡ all → zs ++ left (k + 1) ≡ all
  copy-taken d h = kept-taken (get_or xs k d) h (get_or_default xs k d (get_or xs k d) h)

  pub copy-left : (d : A) → k < length xs → (y : B) (b : Bool) → y ≡ make (get_or xs k d) → b ≡ keep y → b ≡ false → (ys all : List B) → ys ++ left k ≡ all → ys ++ left (k + 1) ≡ all
  copy-left d h = kept-left (get_or xs k d) h (get_or_default xs k d (get_or xs k d) h)

-- Forms that stand in front of others.
use Rattle.std.proofs.Common.{◌≡◌, ℕ, suc, ◌+◌, ◌<◌, ◌≤◌, Bool, true, false, List, [], ◌∷◌, length, get_or, map, take, drop, refl, sym, ap, ◌∙◌, arith}
use Rattle.std.specs.Prelude.{if◌then◌else◌}
use Rattle.std.proofs.lemmas.List.{drop_all}
use Rattle.cp_lists.proofs.Members.{drop_read}
use Rattle.cp_sexpr.specs.Syntax.{Form}
use Rattle.cp_sexpr.specs.View.{view}
use Rattle.cp_sexpr.specs.declared.form.Form as program
use Rattle.cp_report.specs.Heads.{is_label}
use Rattle.cp_report.specs.ReadBack.{labels_in_front, behind_labels}
use Rattle.cp_readback.specs.InFront.{leading}

-- ---- how many

module _ (test : Form → Bool) (fs : List program.Form) (k : ℕ) where
  pub one-leads : (f : program.Form) → k < length fs → f ≡ get_or fs k f → true ≡ test (view f) → (all : ℕ)
      → k + leading test (map view (drop k fs)) ≡ all → (k + 1) + leading test (map view (drop (k + 1) fs)) ≡ all
  one-leads f h e passes all inv =
      let n = leading test (map view (drop (k + 1) fs)) in
      let one : leading test (map view (drop k fs)) ≡ suc n = ap (λ gs. leading test (map view gs)) (drop_read fs k f h e) ∙ ap (λ b. if b then suc n else 0) (sym passes) in
      let round : (k + 1) + n ≡ k + suc n = omega arith in
      round ∙ sym (ap (λ m. k + m) one) ∙ inv

  pub none-leads : (f : program.Form) → k < length fs → f ≡ get_or fs k f → false ≡ test (view f) → (all : ℕ) → k + leading test (map view (drop k fs)) ≡ all → k ≡ all
  none-leads f h e fails all inv =
      let n = leading test (map view (drop (k + 1) fs)) in
      let none : leading test (map view (drop k fs)) ≡ 0 = ap (λ gs. leading test (map view gs)) (drop_read fs k f h e) ∙ ap (λ b. if b then suc n else 0) (sym fails) in
      let zeros : k ≡ k + 0 = omega arith in
      zeros ∙ sym (ap (λ m. k + m) none) ∙ inv

  pub all-lead : length fs ≤ k → k ≤ length fs → (all : ℕ) → k + leading test (map view (drop k fs)) ≡ all → length fs ≡ all
  all-lead h g all inv =
      let same : length fs ≡ k + 0 = omega arith in
      same ∙ sym (ap (λ gs. k + leading test (map view gs)) (drop_all k fs h)) ∙ inv

within_by : (b : Bool) (n m : ℕ) → n ≤ m → (if b then suc n else 0) ≤ suc m
within_by true n m h = omega arith
within_by false n m h = omega arith

pub leads-within : (test : Form → Bool) (fs : List program.Form) → leading test (map view fs) ≤ length fs
leads-within test [] = omega arith
leads-within test (f ∷ fs) = within_by (test (view f)) (leading test (map view fs)) (length fs) (leads-within test fs)

-- ---- which

pub taken : (f : program.Form) (fs : List program.Form) (n : ℕ) (b : Bool) → map view (take (if b then suc n else 0) (f ∷ fs)) ≡ (if b then view f ∷ map view (take n fs) else [])
taken f fs n true = refl
taken f fs n false = refl

pub labels-in-front : (fs : List program.Form) → map view (take (leading is_label (map view fs)) fs) ≡ labels_in_front (map view fs)
labels-in-front [] = refl
labels-in-front (f ∷ fs) = taken f fs (leading is_label (map view fs)) (is_label (view f)) ∙ ap (λ gs. if is_label (view f) then view f ∷ gs else []) (labels-in-front fs)

left : (f : program.Form) (fs : List program.Form) (n : ℕ) (b : Bool) → map view (drop (if b then suc n else 0) (f ∷ fs)) ≡ (if b then map view (drop n fs) else map view (f ∷ fs))
left f fs n true = refl
left f fs n false = refl

pub behind-labels : (fs : List program.Form) → map view (drop (leading is_label (map view fs)) fs) ≡ behind_labels (map view fs)
behind-labels [] = refl
behind-labels (f ∷ fs) = left f fs (leading is_label (map view fs)) (is_label (view f)) ∙ ap (λ gs. if is_label (view f) then gs else view f ∷ map view fs) (behind-labels fs)

-- What flags mean.
use Rattle.std.proofs.Common.{◌≡◌, ℕ, ◌<◌, ◌||◌, List, [], ◌∷◌, length, get_or, Bool, true, false, refl, sym, ap, ◌∙◌, arith, inl, inr, replicate}
use Rattle.std.specs.Prelude.{set}
use Rattle.std.proofs.lemmas.Bool.Decides.{eqb_tells}
use Rattle.std.proofs.lemmas.List.{length-set, get_or-set_same, get_or-set_other, length-replicate, get_or-replicate}
use Rattle.cp_model.specs.declared.variable.Variable.{Variable}
use Rattle.cp_language.specs.Names.{has_number}
use Rattle.cp_names.specs.Flags.{flagged_variables, AreFlagsOf}

pub marked-length : (xs : List Variable) (flags : List Bool) → length (flagged_variables xs flags) ≡ length flags
marked-length [] flags = refl
marked-length (x ∷ xs) flags = marked-length xs (set flags x.number true) ∙ length-set flags x.number true

or_swap : (b c : Bool) → (true || c) ≡ (b || (true || c))
or_swap true c = refl
or_swap false c = refl

or_here : (b c : Bool) → true ≡ (b || (true || c))
or_here true c = refl
or_here false c = refl

marked-at : (xs : List Variable) (flags : List Bool) (n : ℕ) → n < length flags → get_or (flagged_variables xs flags) n false ≡ (get_or flags n false || has_number xs n)
marked-at [] flags n lt = elim (get_or flags n false) as (λ b. b ≡ (b || false)) [ true ↦ refl | false ↦ refl ]
marked-at (x ∷ xs) flags n lt =
    let rest : get_or (flagged_variables xs (set flags x.number true)) n false ≡ (get_or (set flags x.number true) n false || has_number xs n)
    = marked-at xs (set flags x.number true) n (omega (arith, length-set flags x.number true)) in
    elim (eqb_tells x.number n) [
      | inl w ↦
          let same : get_or (set flags x.number true) n false ≡ true = ap (λ k. get_or (set flags k true) n false) w.1 ∙ get_or-set_same flags n true false lt in
          rest ∙ ap (λ b. b || has_number xs n) same ∙ or_here (get_or flags n false) (has_number xs n) ∙ ap (λ b. get_or flags n false || (b || has_number xs n)) (sym w.0)
      | inr w ↦
          let other : get_or (set flags x.number true) n false ≡ get_or flags n false = get_or-set_other flags x.number n true false (λ e. w.1 (sym e)) in
          rest ∙ ap (λ b. b || has_number xs n) other ∙ ap (λ b. get_or flags n false || (b || has_number xs n)) (sym w.0)
    ]

pub flags_mean : (xs : List Variable) (count : ℕ) (flags : List Bool) → flags ≡ flagged_variables xs (replicate count false) → AreFlagsOf xs count flags
flags_mean xs count flags e = record {
  counted = ap length e ∙ marked-length xs (replicate count false) ∙ length-replicate count false;
  each = λ n lt. ap (λ ms. get_or ms n false) e ∙ marked-at xs (replicate count false) n (omega (arith, length-replicate count false))
      ∙ ap (λ b. b || has_number xs n) (get_or-replicate count n false false lt);
}

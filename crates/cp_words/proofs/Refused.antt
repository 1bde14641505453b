-- Words that are no command: too few, or too many.
use Rattle.std.proofs.Common.{◌≡◌, ℕ, ◌<◌, List, [], ◌∷◌, length, map, None, Some, option_and_then, refl, sym, ap, arith}
use Rattle.cp_words.specs.declared.accepted.Setting.{Setting}
use Rattle.cp_words.specs.CommandWords.{first_setting, limits_behind, limits_behind_both, number_alone, command_of}

pub no_command : {X : Type 0} (f : X → List ℕ) (words : List X) → length words < 2 → None ≡ command_of (map f words)
no_command f [] few = refl
no_command f (program ∷ []) few = refl
no_command f (program ∷ command ∷ options) few = absurd (omega arith)

pub too_many : {X : Type 0} (f : X → List ℕ) (first second : Setting) (options rest : List X) → 0 < length options
    → first_setting (map f options) ≡ Some (second, map f rest) → 0 < length rest → None ≡ limits_behind (first, map f options)
too_many f first second [] rest some e more = absurd (omega (arith, some))
too_many f first second (w ∷ ws) [] some e more = absurd (omega (arith, more))
too_many f first second (w ∷ ws) (r ∷ rs) some e more = sym (ap (option_and_then (limits_behind_both first)) e)

pub not_alone : {X : Type 0} (f : X → List ℕ) (words : List X) → (length words ≡ 1 → ⊥) → None ≡ number_alone (map f words)
not_alone f [] more = refl
not_alone f (word ∷ []) more = absurd (more refl)
not_alone f (word ∷ other ∷ words) more = refl

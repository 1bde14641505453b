-- What the words of a command line ask for.
use Rattle.std.specs.Prelude.{ℕ, ◌^◌, ◌==◌, List, [], ◌∷◌, length, Bool, false, ◌&&◌, nat_lt, nat_le, if◌then◌else◌, Option, Some, None, option_map, option_and_then, codes}
use Rattle.std.specs.List.{position_or_len, before_first, after_first}
use Rattle.std.specs.Str.{bytes_eq, all_ascii_digits}
use Rattle.std.specs.Str.Parse.{without_leading_plus, digits_value}
use Rattle.cp_model.specs.declared.tree.Limits.{Limits}
use Rattle.cp_words.specs.declared.accepted.Setting.{Setting}
use Rattle.cp_words.specs.declared.accepted.Setting.TheVariants.{Limit as limit, Bound as bound}
use Rattle.cp_words.specs.declared.command.Command.{Command}
use Rattle.cp_words.specs.declared.command.CommandName.{CommandName}
use Rattle.cp_words.specs.declared.command.CommandName.TheVariants.{Analyse, Shapes, Gen, Bench}

-- ---- numbers

-- one decimal digit or more
abbrev pub is_numeral : List ℕ → Bool
is_numeral [] = false
is_numeral (d ∷ ds) = all_ascii_digits (d ∷ ds)

-- The number that a text is read as: a numeral below 2 ^ 32, behind a plus or not.
abbrev pub parsed_number : List ℕ → Option ℕ
parsed_number t =
    let digits = without_leading_plus t in
    if is_numeral digits && nat_lt (digits_value 10 digits) (2 ^ 32) then Some (digits_value 10 digits) else None

-- ---- options

abbrev pub setting_named : List ℕ → ℕ → Option Setting
setting_named name n =
    if bytes_eq name (codes "--limit") then Some (limit n) else
    if bytes_eq name (codes "--bound") then Some (bound n) else None

-- the option with this name and this text as its value
abbrev pub setting_of : List ℕ → List ℕ → Option Setting
setting_of name value = option_and_then (setting_named name) (parsed_number value)

abbrev pub is_equals_sign : ℕ → Bool
is_equals_sign b = b == 61

-- the name and the value of an option in one word, `NAME=VALUE`
abbrev pub name_and_value : List ℕ → Option (List ℕ × List ℕ)
name_and_value w =
    if nat_lt (position_or_len is_equals_sign w) (length w)
    then Some (before_first is_equals_sign w, after_first is_equals_sign w) else None

abbrev pub with_words_behind : List (List ℕ) → Option Setting → Option (Setting × List (List ℕ))
with_words_behind words = option_map (λ s. (s, words))

-- The option that a word and those behind it begin with, and the words behind it: it is `NAME=VALUE`, or `NAME` and then `VALUE`.
abbrev pub setting_from : Option (List ℕ × List ℕ) → List ℕ → List (List ℕ) → Option (Setting × List (List ℕ))
setting_from (Some p) word words = with_words_behind words (setting_of p.0 p.1)
setting_from None word [] = None
setting_from None word (value ∷ words) = with_words_behind words (setting_of word value)

abbrev pub first_setting : List (List ℕ) → Option (Setting × List (List ℕ))
first_setting [] = None
first_setting (word ∷ words) = setting_from (name_and_value word) word words

-- ---- limits

-- The step limit is 0 to 100,000, and the bound on the number of strands 1 to 32.
abbrev pub limits_of : ℕ → ℕ → Option Limits
limits_of steps strands =
    if nat_le steps 100000 && (nat_le 1 strands && nat_le strands 32)
    then Some (record { steps = steps; strands = strands }) else None

-- Where no limit stands it is 2,000, and where no bound does it is 8.
abbrev pub limits_set : Setting → Option Setting → Option Limits
limits_set (limit n) None = limits_of n 8
limits_set (bound m) None = limits_of 2000 m
limits_set (limit n) (Some (bound m)) = limits_of n m
limits_set (bound m) (Some (limit n)) = limits_of n m
limits_set _ _ = None

-- Behind the first option nothing stands, or one more option, and nothing behind that.
abbrev pub limits_behind_both : Setting → Setting × List (List ℕ) → Option Limits
limits_behind_both first (second, []) = limits_set first (Some second)
limits_behind_both first (second, word ∷ words) = None

abbrev pub limits_behind : Setting × List (List ℕ) → Option Limits
limits_behind (first, []) = limits_set first None
limits_behind (first, word ∷ words) = option_and_then (limits_behind_both first) (first_setting (word ∷ words))

abbrev pub limits_by : List (List ℕ) → Option Limits
limits_by [] = limits_of 2000 8
limits_by (word ∷ words) = option_and_then limits_behind (first_setting (word ∷ words))

-- ---- the command

-- The word that stands for a command.
abbrev pub name_text : CommandName → List ℕ
name_text Analyse = codes "analyse"
name_text Shapes = codes "shapes"
name_text (Gen n) = codes "gen"
name_text (Bench n) = codes "bench"

-- The command that a word stands for, of those with options.
abbrev pub command_named : List ℕ → Option CommandName
command_named word =
    if bytes_eq word (codes "analyse") then Some Analyse else
    if bytes_eq word (codes "shapes") then Some Shapes else None

-- The command that a word stands for, of those with a number of problems.
abbrev pub command_over : List ℕ → ℕ → Option CommandName
command_over word n =
    if bytes_eq word (codes "gen") then Some (Gen n) else
    if bytes_eq word (codes "bench") then Some (Bench n) else None

-- There are 1 to 500 problems. The limits are those of a command without options.
abbrev pub numbered_command : List ℕ → ℕ → Option Command
numbered_command word n =
    if nat_le 1 n && nat_le n 500
    then option_map (λ name. record { name = name; limits = record { steps = 2000; strands = 8 } }) (command_over word n) else None

-- The command that a word stands for, with these limits if it has options, or with this number.
abbrev pub command_with : Option CommandName → List ℕ → Option Limits → Option ℕ → Option Command
command_with (Some name) word limits number = option_map (λ l. record { name = name; limits = l }) limits
command_with None word limits number = option_and_then (numbered_command word) number

-- A number is all that stands behind the name.
abbrev pub number_alone : List (List ℕ) → Option ℕ
number_alone (word ∷ []) = parsed_number word
number_alone _ = None

-- The words are a name for the program, the name of a command, and its options, each at most once and in any order, or its
-- number; any others are no command.
abbrev pub command_of : List (List ℕ) → Option Command
command_of (program ∷ name ∷ words) = command_with (command_named name) name (limits_by words) (number_alone words)
command_of _ = None

-- Of words that the parser of command lines takes, it fails for want of memory alone.
use Rattle.std.proofs.Common.{◌≡◌, ◌∙◌, ◌↔◌, ℕ, List, true, Option, Some, None, Result, Ok, Err, IfOk, IfErr, IsErrAnd, refl, ap, sym, option_and_then, is_some}
use Rattle.std.specs.Result.{result_ok}
use Rattle.clap.specs.declared.parser.matches.Found.{Found}
use Rattle.clap.proofs.WalkLemmas.{first_value-rows}
use Rattle.clap.specs.Words.{App, Row, Text, first_value, rows_of, subcommand_of, takes}
use Rattle.clap.specs.declared.error.kind.ErrorKind.{ErrorKind}
use Rattle.clap.specs.declared.error.kind.ErrorKind.TheVariants.{OutOfMemory}
use Rattle.cp_words.specs.declared.command.Command.{Command}
use Rattle.cp_words.specs.CommandWords.{command_of, parsed_number}
use Rattle.cp_words.specs.Description.{described}
use Rattle.cp_words.specs.Parsed.{words_error_of, command_found, option_number}
use Rattle.cp_words.specs.declared.error.WordsError.{WordsError}
use Rattle.cp_words.specs.declared.error.WordsError.TheVariants.{Usage, Memory}
use Rattle.cp_words.proofs.Commands.{command_parsed}

pub memory_only : {T : Type 0} (r : Result T WordsError) (kind : ErrorKind) (a : App) (words : List Text) → a ≡ described → (takes a words ≡ true → kind ≡ OutOfMemory)
    → IsErrAnd r (λ e. e ≡ words_error_of kind) → IfErr r (λ e. takes described words ≡ true → e ≡ Memory)
memory_only (Ok x) kind a words is passes cause = tt
memory_only (Err e) kind a words is passes cause = λ t. cause ∙ ap words_error_of (passes (ap (λ b. takes b words) is ∙ t))

pub failed : {X : Type 0} (r : Result X WordsError) (e : WordsError) (words : List Text) → (takes described words ≡ true → e ≡ Memory) → IsErrAnd r (λ y. y ≡ e)
    → (d : Command) → command_of words ≡ Some d → IfErr r (λ y. y ≡ Memory)
failed (Ok x) e words memory is d h = tt
failed (Err y) e words memory is d h = is ∙ memory (command_parsed words d h).taken

-- ---- what the parser found

pub no_number : (f : Found) (name : Text) (r : Option ℕ) → None ≡ first_value f name → r ≡ None → r ≡ option_number name (rows_of f)
no_number f name r found is = is ∙ ap (option_and_then parsed_number) (found ∙ first_value-rows f name)

pub a_number : (f : Found) (name text : Text) (r : Option ℕ) → Some text ≡ first_value f name → r ≡ parsed_number text → r ≡ option_number name (rows_of f)
a_number f name text r found is = is ∙ ap (option_and_then parsed_number) (found ∙ first_value-rows f name)

module _ (words : List Text) (rows : Option (Text × List Row)) (same : rows ≡ subcommand_of described words) where
  some_found : (o : Option Command) → o ≡ command_found rows → (d : Command) → command_of words ≡ Some d → o ≡ Some d
  some_found o found d h = found ∙ ap command_found same ∙ (command_parsed words d h).found

  pub command_is_found : (r : Result Command WordsError) → result_ok r ≡ command_found rows → (d : Command) → command_of words ≡ Some d → IfOk r (λ x. x ≡ d)
  command_is_found (Ok x) found d h = let e : Some x ≡ Some d = some_found (Some x) found d h in cc
  command_is_found (Err e) found d h = tt

  pub none_is_memory : (r : Result Command WordsError) → result_ok r ≡ command_found rows → (d : Command) → command_of words ≡ Some d → IfErr r (λ e. e ≡ Memory)
  none_is_memory (Ok x) found d h = tt
  none_is_memory (Err e) found d h = let bad : None ≡ Some d = some_found None found d h in absurd (cc)

-- ---- the answer

pub command_where_some : (o : Option Command) (r : Result Command WordsError) → is_some o ≡ true → ((d : Command) → o ≡ Some d → IfOk r (λ x. x ≡ d)) → IfOk r (λ x. o ≡ Some x)
command_where_some None r e read = absurd (cc)
command_where_some (Some d) (Ok x) e read = ap Some (sym (read d refl))
command_where_some (Some d) (Err w) e read = tt

pub memory_where_some : (o : Option Command) (r : Result Command WordsError) → is_some o ≡ true → ((d : Command) → o ≡ Some d → IfErr r (λ w. w ≡ Memory)) → IfErr r (λ w. (w ≡ Usage) ↔ (o ≡ None))
memory_where_some None r e read = absurd (cc)
memory_where_some (Some d) (Ok x) e read = tt
memory_where_some (Some d) (Err w) e read = let is : w ≡ Memory = read d refl in (λ u. absurd (cc), λ n. absurd (cc))

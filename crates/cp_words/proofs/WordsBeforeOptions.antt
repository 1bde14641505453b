-- What the parser of command lines makes of the words of a command: what stands before the options or the number.
use Rattle.std.proofs.Common.{◌≡◌, ◌∙◌, ◌&&◌, List, [], ◌∷◌, Bool, true, false, Option, Some, codes, is_some, refl, sym, ap, ap₂}
use Rattle.std.specs.List.{list_all}
use Rattle.clap.specs.Words.{App, Row, Rule, Shape, Text, built, is_simple, subcommand_of, takes}
use Rattle.clap.specs.Simple.{built_leaf, entered, inherited, names_of}
use Rattle.clap.specs.Takes.{default_passes, entered_passes, is_valid, level_passes, settle_passes, walk_passes}
use Rattle.clap.specs.Walk.{Names, Walk, finished, nothing_held, rows_after, walk, walk_from}
use Rattle.clap.proofs.OnLiterals.{clap_on_literals}
use Rattle.clap.proofs.WalkLemmas.{walk_stopped}
use Rattle.cp_words.specs.CommandWords.{name_text}
use Rattle.cp_words.specs.Description.{described, described_as, numbered_as}
use Rattle.cp_words.specs.declared.command.CommandName.{CommandName}
use Rattle.cp_words.specs.declared.command.CommandName.TheVariants.{Analyse, Shapes, Gen, Bench}

pub is_simple_command : is_simple described ≡ true
unfolding clap_on_literals
is_simple_command = refl

-- the commands as the parser makes them whole
abbrev top : Shape
top = (built described).top

abbrev names : Names
names = names_of (built described)

-- a command as the parser makes it whole
abbrev whole : App → Shape
whole a = built_leaf (inherited top a.top)

abbrev pub options : CommandName → Shape
options n = whole (described_as (name_text n))

abbrev pub number : CommandName → Shape
number n = whole (numbered_as (name_text n))

-- the one of a command
abbrev pub shape : CommandName → Shape
shape Analyse = options Analyse
shape Shapes = options Shapes
shape (Gen n) = number (Gen n)
shape (Bench n) = number (Bench n)

-- the rules of the options, which both commands have
abbrev pub rules : List Rule
rules = (options Analyse).rules

-- where the walk over all words stands behind the name of a command
abbrev walk_at : CommandName → List Text → Walk
walk_at n words = record (walk_from nothing_held) { stopped = Some (name_text n, words) }

walk_is : (n : CommandName) (words : List Text) → walk_at n words ≡ walk top.rules names nothing_held (name_text n ∷ words)
unfolding clap_on_literals
walk_is Analyse words = walk_stopped top.rules names (walk_from nothing_held) (name_text Analyse) [] words
walk_is Shapes words = walk_stopped top.rules names (walk_from nothing_held) (name_text Shapes) [] words
walk_is (Gen n) words = walk_stopped top.rules names (walk_from nothing_held) (codes "gen") [] words
walk_is (Bench n) words = walk_stopped top.rules names (walk_from nothing_held) (codes "bench") [] words

passes_behind : (n : CommandName) (words seen : List Text) → walk_passes top names (walk_at n seen) words ≡ true
unfolding clap_on_literals
passes_behind n [] seen = refl
passes_behind n (word ∷ words) seen = passes_behind n words _

passes_is : (n : CommandName) (words : List Text) → true ≡ walk_passes top names (walk_from nothing_held) (name_text n ∷ words)
unfolding clap_on_literals
passes_is Analyse words = sym (passes_behind Analyse words [])
passes_is Shapes words = sym (passes_behind Shapes words [])
passes_is (Gen n) words = sym (passes_behind (Gen n) words [])
passes_is (Bench n) words = sym (passes_behind (Bench n) words [])

abbrev entered_rows : Walk → Option (Text × List Row)
entered_rows w = entered (built described) w.stopped

-- behind the name of a command the parser reads the rest of the words by the command's own rules
pub read_behind : (n : CommandName) (program : Text) (words : List Text) → subcommand_of described (program ∷ name_text n ∷ words) ≡ Some (name_text n, rows_after (shape n).rules [] words)
unfolding clap_on_literals
read_behind Analyse program words = ap entered_rows (sym (walk_is Analyse words))
read_behind Shapes program words = ap entered_rows (sym (walk_is Shapes words))
read_behind (Gen n) program words = ap entered_rows (sym (walk_is (Gen n) words))
read_behind (Bench n) program words = ap entered_rows (sym (walk_is (Bench n) words))

abbrev takes_at : Walk → Bool → Bool
takes_at w passes = entered_passes (built described) w.stopped && (passes && (settle_passes top.rules false w.held
    && (list_all default_passes top.rules && is_valid top (finished top.rules w.held) (is_some (entered_rows w)))))

pub taken_behind : (n : CommandName) (program : Text) (words : List Text) → level_passes (shape n) [] nothing_held words false ≡ true → takes described (program ∷ name_text n ∷ words) ≡ true
unfolding clap_on_literals
taken_behind Analyse program words e = ap₂ takes_at (sym (walk_is Analyse words)) (sym (passes_is Analyse words)) ∙ ap (λ b. b && true) e
taken_behind Shapes program words e = ap₂ takes_at (sym (walk_is Shapes words)) (sym (passes_is Shapes words)) ∙ ap (λ b. b && true) e
taken_behind (Gen n) program words e = ap₂ takes_at (sym (walk_is (Gen n) words)) (sym (passes_is (Gen n) words)) ∙ ap (λ b. b && true) e
taken_behind (Bench n) program words e = ap₂ takes_at (sym (walk_is (Bench n) words)) (sym (passes_is (Bench n) words)) ∙ ap (λ b. b && true) e

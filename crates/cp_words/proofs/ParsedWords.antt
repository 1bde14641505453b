-- What the parser of command lines reads of the words of a command.
use Rattle.std.proofs.Common.{◌≡◌, ◌∙◌, ◌&&◌, ◌⊎◌, inl, inr, ℕ, List, [], ◌∷◌, ◌++◌, Bool, true, false, Option, Some, None, refl, sym, subst, ap, ap₂, codes, option_and_then}
use Rattle.std.specs.List.{fold, list_all}
use Rattle.clap.specs.Words.{Row, Shape, Text, first_of}
use Rattle.clap.specs.Takes.{default_passes, is_valid, level_passes, settle_passes, use_passes}
use Rattle.clap.specs.Walk.{Walk, nothing_held, rows_after, with_default}
use Rattle.clap.proofs.OnLiterals.{clap_on_literals}
use Rattle.cp_model.specs.declared.tree.Limits.{Limits}
use Rattle.cp_words.specs.CommandWords.{parsed_number, name_text, command_named, command_with}
use Rattle.cp_words.specs.Parsed.{limits_in, limits_from, option_number, command_found, IsParsedAs}
use Rattle.cp_words.specs.declared.command.CommandName.{CommandName}
use Rattle.cp_words.specs.declared.command.CommandName.TheVariants.{Analyse, Shapes, Gen, Bench}
use Rattle.cp_words.proofs.WordsBeforeOptions.{options, shape, rules, read_behind, taken_behind}
use Rattle.cp_words.proofs.Options.{Named, limit_named, bound_named, rule_named, name_word}
use Rattle.cp_words.proofs.Steps.{Reads, Adds, rows_held, rows_with, adds_apart, adds_attached}
use Rattle.cp_words.proofs.Spelled.{not_hyphen}

-- ---- one option

adds_text : (c : CommandName) (o : Named) (text : Text) (k : ℕ) (rows : List Row) → parsed_number text ≡ Some k → use_passes false (rule_named o) (text ∷ []) rows ≡ true → Adds c rows (name_word o ∷ text ∷ []) (rows_with o text rows)
adds_text c o [] k rows number fits = absurd (cc)
adds_text c o (d ∷ ds) k rows number fits = adds_apart c o d ds rows (not_hyphen d ds k number) fits

pub adds_front : (c : CommandName) (o : Named) (text : Text) (k : ℕ) (rows : List Row) (front : List Text) → parsed_number text ≡ Some k → use_passes false (rule_named o) (text ∷ []) rows ≡ true
    → (front ≡ name_word o ∷ text ∷ []) ⊎ (front ≡ (name_word o ++ 61 ∷ text) ∷ []) → Adds c rows front (rows_with o text rows)
adds_front c o text k rows front number fits (inl is) = subst (λ f. Adds c rows f (rows_with o text rows)) (sym is) (adds_text c o text k rows number fits)
adds_front c o text k rows front number fits (inr is) = subst (λ f. Adds c rows f (rows_with o text rows)) (sym is) (adds_attached c o text rows fits)

-- ---- all of them

-- the rows with the default of what was not used
abbrev pub filled_rows : List Row → List Row
filled_rows rows = fold with_default rows rules

abbrev level_at : CommandName → Walk → Bool → Bool
level_at c w passes = passes && (settle_passes rules false w.held && (list_all default_passes rules && is_valid (options c) (filled_rows (rows_held w.held)) false))

level_of : (c : CommandName) (words : List Text) (rows : List Row) → Reads c nothing_held words rows → is_valid (options c) (filled_rows rows) false ≡ true → level_passes (options c) [] nothing_held words false ≡ true
unfolding clap_on_literals
level_of c words rows r valid =
    ap₂ (level_at c) r.walked_to r.passes ∙ (ap₂ (λ (a : Bool) (v : List Row). a && is_valid (options c) (filled_rows v) false) r.settles r.held ∙ valid)

rows_of_words : (c : CommandName) (words : List Text) (rows : List Row) → Reads c nothing_held words rows → rows_after rules [] words ≡ filled_rows rows
rows_of_words c words rows r = ap (λ (w : Walk). filled_rows (rows_held w.held)) r.walked_to ∙ ap filled_rows r.held

-- the texts of the two options
abbrev pub texts_of : List Row → Option Text × Option Text
texts_of rows = (first_of (codes "limit") rows, first_of (codes "bound") rows)

abbrev limits_of_texts : Option Text × Option Text → Option Limits
limits_of_texts p = limits_from (option_and_then parsed_number p.0) (option_and_then parsed_number p.1)

-- The rows are valid once they are filled, and have these texts.
abbrev pub HaveTexts : List Row → Text → Text → Type 0
HaveTexts rows limit bound = (is_valid (options Analyse) (filled_rows rows) false ≡ true) × (◌≡◌ {A = Option Text × Option Text} (texts_of (filled_rows rows)) (Some limit, Some bound))

-- of a command with options
with_options : (c : CommandName) → command_named (name_text c) ≡ Some c → shape c ≡ options c
with_options Analyse named = refl
with_options Shapes named = refl
with_options (Gen n) named = let bad : None ≡ Some (Gen n) = named in absurd (cc)
with_options (Bench n) named = let bad : None ≡ Some (Bench n) = named in absurd (cc)

pub parsed_by : (c : CommandName) → command_named (name_text c) ≡ Some c → (program : Text) (words : List Text) (rows : List Row) (l : Limits) (limit bound : Text) → Reads c nothing_held words rows → HaveTexts rows limit bound
    → parsed_number limit ≡ Some l.steps → parsed_number bound ≡ Some l.strands → IsParsedAs (program ∷ name_text c ∷ words) (record { name = c; limits = l })
parsed_by c named program words rows l limit bound r have steps strands =
    let is = with_options c named in
    let limits_are : limits_in (rows_after rules [] words) ≡ Some l = ap limits_in (rows_of_words c words rows r) ∙ ap limits_of_texts have.1 ∙ ap₂ limits_from steps strands in
    record {
      taken = taken_behind c program words (ap (λ (s : Shape). level_passes s [] nothing_held words false) is ∙ level_of c words rows r have.0);
      found = ap command_found (read_behind c program words ∙ ap (λ (s : Shape). Some (name_text c, rows_after s.rules [] words)) is)
          ∙ ap₂ (λ (o : Option CommandName) (ls : Option Limits). command_with o (name_text c) ls (option_number (codes "N") (rows_after rules [] words))) named limits_are;
    }

pub none_alone : HaveTexts [] (codes "2000") (codes "8")
unfolding clap_on_literals
none_alone = (refl, refl)

pub bound_alone : (n : Text) → HaveTexts (rows_with bound_named n []) (codes "2000") n
unfolding clap_on_literals
bound_alone n = (refl, refl)

pub limit_alone : (n : Text) → HaveTexts (rows_with limit_named n []) n (codes "8")
unfolding clap_on_literals
limit_alone n = (refl, refl)

pub limit_first : (n m : Text) → HaveTexts (rows_with bound_named m (rows_with limit_named n [])) n m
unfolding clap_on_literals
limit_first n m = (refl, refl)

pub bound_first : (n m : Text) → HaveTexts (rows_with limit_named n (rows_with bound_named m [])) n m
unfolding clap_on_literals
bound_first n m = (refl, refl)

pub first_fits : (o : Named) (n : Text) → use_passes false (rule_named o) (n ∷ []) [] ≡ true
unfolding clap_on_literals
first_fits limit_named n = refl
first_fits bound_named n = refl

pub bound_fits : (n m : Text) → use_passes false (rule_named bound_named) (m ∷ []) (rows_with limit_named n []) ≡ true
unfolding clap_on_literals
bound_fits n m = refl

pub limit_fits : (n m : Text) → use_passes false (rule_named limit_named) (n ∷ []) (rows_with bound_named m []) ≡ true
unfolding clap_on_literals
limit_fits n m = refl

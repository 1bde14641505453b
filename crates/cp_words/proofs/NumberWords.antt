-- The words of a command with a number of problems are read as the command that they are.
use Rattle.std.proofs.Common.{◌≡◌, ◌∙◌, ◌&&◌, ◌⊎◌, inl, inr, ⊎_elim, ℕ, ◌≤◌, ◌==◌, List, [], ◌∷◌, Bool, true, false, Option, Some, None, refl, sym, subst, ap, ap₂, arith, codes, nat_le, if◌then◌else◌, option_and_then, option_map}
use Rattle.std.specs.List.{list_all}
use Rattle.std.specs.Str.{bytes_eq}
use Rattle.std.proofs.lemmas.Bool.Decides.{nat_tests}
use Rattle.clap.specs.Words.{Row, Rule, Shape, Text}
use Rattle.clap.specs.Takes.{default_passes, is_valid, level_passes, settle_passes, step_passes, turn_passes, word_passes}
use Rattle.clap.specs.Walk.{Held, Step, Walk, after_step, finished, idle, nothing_held, rows_after, value, walk, walk_from, word_met}
use Rattle.clap.proofs.OnLiterals.{clap_on_literals}
use Rattle.cp_words.specs.declared.command.Command.{Command}
use Rattle.cp_words.specs.declared.command.CommandName.{CommandName}
use Rattle.cp_words.specs.declared.command.CommandName.TheVariants.{Gen, Bench}
use Rattle.cp_words.specs.CommandWords.{parsed_number, name_text, command_named, numbered_command, command_with, number_alone}
use Rattle.cp_words.specs.Parsed.{option_number, limits_in, command_found, IsParsedAs}
use Rattle.cp_words.proofs.Spelled.{name_is, not_hyphen}
use Rattle.cp_words.proofs.WordsBeforeOptions.{number, shape, read_behind, taken_behind}

-- ---- a word that begins with no hyphen, where nothing waits for a value

word_is_value : (c : List Rule) (d : ℕ) (ds : Text) (h : Held) → (d == 45) ≡ false → word_met c [] false idle 1 (d ∷ ds) h ≡ (h, value)
word_is_value c d ds h e = rw e (rw e refl)

value_may_stand : (s : Shape) (d : ℕ) (ds : Text) (h : Held) → (d == 45) ≡ false → word_passes s [] false idle (d ∷ ds) h ≡ true
value_may_stand s d ds h e = rw e (rw e refl)

-- ---- the number

-- the rules of both commands
abbrev rules : List Rule
rules = (number (Gen 0)).rules

-- where the walk stands behind the number
abbrev behind : Text → Walk
behind text = record (walk_from nothing_held) { held = record nothing_held { pending = Some (codes "N", text ∷ []) }; position = 2 }

walked_over : (d : ℕ) (ds : Text) → (d == 45) ≡ false → walk rules [] nothing_held ((d ∷ ds) ∷ []) ≡ behind (d ∷ ds)
unfolding clap_on_literals
walked_over d ds e = ap (λ (p : Held × Step). after_step rules (d ∷ ds) (walk_from nothing_held) p.0 p.1) (word_is_value rules d ds nothing_held e)

number_found : (d : ℕ) (ds : Text) → (d == 45) ≡ false → option_number (codes "N") (rows_after rules [] ((d ∷ ds) ∷ [])) ≡ parsed_number (d ∷ ds)
unfolding clap_on_literals
number_found d ds e = ap (λ (w : Walk). option_number (codes "N") (finished rules w.held)) (walked_over d ds e)

module _ (c : CommandName) where
  number_turn : (d : ℕ) (ds : Text) → (d == 45) ≡ false → turn_passes (number c) [] (walk_from nothing_held) (d ∷ ds) ≡ true
  unfolding clap_on_literals
  number_turn d ds e =
      ap₂ (λ (b : Bool) (p : Held × Step). b && step_passes (number c) 1 p.0 p.1) (value_may_stand (number c) d ds nothing_held e) (word_is_value rules d ds nothing_held e)

  abbrev level_at : Bool → Walk → Bool
  level_at passes w = (passes && true) && (settle_passes rules false w.held && (list_all default_passes rules && is_valid (number c) (finished rules w.held) false))

  number_level : (d : ℕ) (ds : Text) → (d == 45) ≡ false → level_passes (number c) [] nothing_held ((d ∷ ds) ∷ []) false ≡ true
  unfolding clap_on_literals
  number_level d ds e = ap₂ level_at (number_turn d ds e) (walked_over d ds e)

-- ---- the command

-- A word is the name of this command, which has a number.
pub record IsNumbered (word : Text) (c : CommandName) : Type 0 where
  pub named : word ≡ name_text c
  pub numbered : shape c ≡ number c
  pub no_options : command_named (name_text c) ≡ None

number_parsed : (program : Text) (c : CommandName) (word text : Text) (k : ℕ) (d : Command) → IsNumbered word c → parsed_number text ≡ Some k → numbered_command (name_text c) k ≡ Some d
    → IsParsedAs (program ∷ name_text c ∷ text ∷ []) d
number_parsed program c word [] k d is reads e = absurd (cc)
number_parsed program c word (x ∷ xs) k d is reads e =
    let plain = not_hyphen x xs k reads in
    let words : List Text = (x ∷ xs) ∷ [] in
    let rows : List Row = rows_after rules [] words in
    record {
      taken = taken_behind c program words (ap (λ (s : Shape). level_passes s [] nothing_held words false) is.numbered ∙ number_level c x xs plain);
      found = ap command_found (read_behind c program words ∙ ap (λ (s : Shape). Some (name_text c, rows_after s.rules [] words)) is.numbered)
          ∙ ap₂ (λ (o : Option CommandName) (n : Option ℕ). command_with o (name_text c) (limits_in rows) n) is.no_options (number_found x xs plain ∙ reads) ∙ e;
    }

-- The command and its number, of which there are 1 to 500.
pub record IsCommandOver (word : Text) (k : ℕ) (d : Command) : Type 0 where
  pub is : IsNumbered word d.name
  pub over : (d.name ≡ Gen k) ⊎ (d.name ≡ Bench k)
  pub few : k ≤ 500

abbrev limited : CommandName → Command
limited name = record { name = name; limits = record { steps = 2000; strands = 8 } }

few_of : (k : ℕ) → nat_le k 500 ≡ true → k ≤ 500
few_of k e = grind (arith, nat_tests)

command_is : (word : Text) (k : ℕ) (d : Command) → numbered_command word k ≡ Some d → IsCommandOver word k d
command_is word k d e = go (nat_le 1 k) (nat_le k 500) (bytes_eq word (codes "gen")) (bytes_eq word (codes "bench")) refl refl refl e
  where
    go : (some few generates benches : Bool) → nat_le k 500 ≡ few → bytes_eq word (codes "gen") ≡ generates → bytes_eq word (codes "bench") ≡ benches
        → (if some && few then option_map limited (if generates then Some (Gen k) else if benches then Some (Bench k) else None) else None) ≡ Some d → IsCommandOver word k d
    go true true true b m p q f =
        let same : limited (Gen k) ≡ d = cc in
        subst (IsCommandOver word k) same (record { is = record { named = name_is word (codes "gen") p; numbered = refl; no_options = refl }; over = inl refl; few = few_of k m })
    go true true false true m p q f =
        let same : limited (Bench k) ≡ d = cc in
        subst (IsCommandOver word k) same (record { is = record { named = name_is word (codes "bench") q; numbered = refl; no_options = refl }; over = inr refl; few = few_of k m })
    go true true false false m p q f = absurd (cc)
    go true false a b m p q f = absurd (cc)
    go false few a b m p q f = absurd (cc)

pub few_over : (word : Text) (o : Option ℕ) (d : Command) → option_and_then (numbered_command word) o ≡ Some d → (n : ℕ) → d.name ≡ Bench n → n ≤ 500
few_over word None d e n is = absurd (cc)
few_over word (Some k) d e n is =
    let over = command_is word k d e in
    ⊎_elim (λ (g : d.name ≡ Gen k). let bad : Gen k ≡ Bench n = sym g ∙ is in absurd (cc)) (λ (b : d.name ≡ Bench k). let same : Bench k ≡ Bench n = sym b ∙ is in let k_is : k ≡ n = cc in subst (λ m. m ≤ 500) k_is over.few) over.over

pub numbered_parsed : (program word : Text) (words : List Text) (d : Command) → option_and_then (numbered_command word) (number_alone words) ≡ Some d → IsParsedAs (program ∷ word ∷ words) d
numbered_parsed program word [] d e = absurd (cc)
numbered_parsed program word (text ∷ []) d e = go (parsed_number text) refl e
  where
    go : (o : Option ℕ) → parsed_number text ≡ o → option_and_then (numbered_command word) o ≡ Some d → IsParsedAs (program ∷ word ∷ text ∷ []) d
    go None p f = absurd (cc)
    go (Some k) p f =
        let is : IsNumbered word d.name = (command_is word k d f).is in
        subst (λ w. IsParsedAs (program ∷ w ∷ text ∷ []) d) (sym is.named)
        (number_parsed program d.name word text k d is p (subst (λ w. numbered_command w k ≡ Some d) is.named f))
numbered_parsed program word (text ∷ more ∷ words) d e = absurd (cc)

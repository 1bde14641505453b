-- The words of a command are read as the command that they are.
use Rattle.std.proofs.Common.{◌≡◌, ◌∙◌, ◌&&◌, ℕ, ◌≤◌, List, [], ◌∷◌, ◌++◌, Bool, true, false, Option, Some, None, refl, sym, subst, ap, ap₂, codes, nat_le, if◌then◌else◌, option_and_then, option_map}
use Rattle.std.proofs.lemmas.List.{append-nil}
use Rattle.std.specs.Str.{bytes_eq}
use Rattle.clap.specs.Words.{Text}
use Rattle.clap.specs.Takes.{use_passes, walk_passes}
use Rattle.clap.specs.Walk.{nothing_held}
use Rattle.cp_model.specs.declared.tree.Limits.{Limits}
use Rattle.cp_words.specs.declared.command.Command.{Command}
use Rattle.cp_words.specs.declared.accepted.Setting.{Setting}
use Rattle.cp_words.specs.CommandWords.{parsed_number, first_setting, limits_of, limits_set, limits_behind_both, limits_behind, limits_by, name_text, command_named, command_with, number_alone, command_of}
use Rattle.cp_words.specs.Parsed.{IsParsedAs}
use Rattle.cp_words.specs.declared.command.CommandName.{CommandName}
use Rattle.cp_words.specs.declared.command.CommandName.TheVariants.{Analyse, Shapes, Bench}
use Rattle.cp_words.proofs.Options.{Named, limit_named, bound_named, rule_named}
use Rattle.cp_words.proofs.Steps.{Reads, Adds, reads_both, rows_with}
use Rattle.cp_words.proofs.Spelled.{IsSpelled, setting_by, name_is, spelled_first}
use Rattle.cp_words.proofs.NumberWords.{numbered_parsed, few_over}
use Rattle.cp_words.proofs.ParsedWords.{adds_front, parsed_by, none_alone, limit_alone, bound_alone, limit_first, bound_first, first_fits, bound_fits, limit_fits}

limits_are : (a b : ℕ) (l : Limits) → limits_of a b ≡ Some l → (a ≡ l.steps) × (b ≡ l.strands)
limits_are a b l e = go (nat_le a 100000 && (nat_le 1 b && nat_le b 32)) e
  where
    go : (ok : Bool) → (if ok then Some (record { steps = a; strands = b }) else None) ≡ Some l → (a ≡ l.steps) × (b ≡ l.strands)
    go false f = absurd (cc)
    go true f = let same : ◌≡◌ {A = Limits} (record { steps = a; strands = b }) l = cc in (ap (λ (x : Limits). x.steps) same, ap (λ (x : Limits). x.strands) same)

module _ (c : CommandName) (named : command_named (name_text c) ≡ Some c) where
  -- Behind its name the parser reads these words as the command with these limits.
  abbrev IsParsed : Text → List Text → Limits → Type 0
  IsParsed program words l = IsParsedAs (program ∷ name_text c ∷ words) (record { name = c; limits = l })

  -- ---- no option

  reads_none : Reads c nothing_held [] []
  unfolding walk_passes
  reads_none = record { new = nothing_held; walked_to = refl; passes = refl; held = refl; settles = refl }

  parsed_none : (program : Text) (l : Limits) → limits_of 2000 8 ≡ Some l → IsParsed program [] l
  parsed_none program l set =
      let are = limits_are 2000 8 l set in
      parsed_by c named program [] [] l (codes "2000") (codes "8") reads_none none_alone (ap Some are.0) (ap Some are.1)

  -- ---- one option

  reads_one : (words : List Text) (s : Setting) (is : IsSpelled words s []) → Reads c nothing_held words (rows_with is.which is.text [])
  reads_one words s is =
      let first = adds_front c is.which is.text is.number [] is.front is.reads (first_fits is.which is.text) is.spelled in
      subst (λ w. Reads c nothing_held w (rows_with is.which is.text [])) (sym (is.parts ∙ append-nil is.front)) (first nothing_held refl refl)

  one_by : (program : Text) (words : List Text) (o : Named) (text : Text) (k : ℕ) (l : Limits) → Reads c nothing_held words (rows_with o text []) → parsed_number text ≡ Some k → limits_set (setting_by o k) None ≡ Some l
      → IsParsed program words l
  one_by program words limit_named text k l r number set =
      let are = limits_are k 8 l set in
      parsed_by c named program words _ l text (codes "8") r (limit_alone text) (number ∙ ap Some are.0) (ap Some are.1)
  one_by program words bound_named text k l r number set =
      let are = limits_are 2000 k l set in
      parsed_by c named program words _ l (codes "2000") text r (bound_alone text) (ap Some are.0) (number ∙ ap Some are.1)

  parsed_one : (program : Text) (words : List Text) (s : Setting) (l : Limits) → IsSpelled words s [] → limits_set s None ≡ Some l → IsParsed program words l
  parsed_one program words s l is set = one_by program words is.which is.text is.number l (reads_one words s is) is.reads (ap (λ x. limits_set x None) (sym is.same) ∙ set)

  -- ---- two options

  reads_two : (words rest : List Text) (s t : Setting) (is : IsSpelled words s rest) (other : IsSpelled rest t [])
      → use_passes false (rule_named other.which) (other.text ∷ []) (rows_with is.which is.text []) ≡ true
      → Reads c nothing_held words (rows_with other.which other.text (rows_with is.which is.text []))
  reads_two words rest s t is other fits =
      let some = rows_with is.which is.text [] in
      let more = rows_with other.which other.text some in
      let first : Adds c [] is.front some = adds_front c is.which is.text is.number [] is.front is.reads (first_fits is.which is.text) is.spelled in
      let second : Adds c some other.front more = adds_front c other.which other.text other.number some other.front other.reads fits other.spelled in
      let parts : words ≡ is.front ++ other.front = is.parts ∙ ap (λ x. is.front ++ x) (other.parts ∙ append-nil other.front) in
      subst (λ w. Reads c nothing_held w more) (sym parts) (reads_both c nothing_held is.front other.front some more (first nothing_held refl refl) second)

  two_by : (program : Text) (words : List Text) (o p : Named) (n m : Text) (k j : ℕ) (l : Limits)
      → (use_passes false (rule_named p) (m ∷ []) (rows_with o n []) ≡ true → Reads c nothing_held words (rows_with p m (rows_with o n [])))
      → parsed_number n ≡ Some k → parsed_number m ≡ Some j → limits_set (setting_by o k) (Some (setting_by p j)) ≡ Some l → IsParsed program words l
  two_by program words limit_named limit_named n m k j l reads number other set = absurd (cc)
  two_by program words bound_named bound_named n m k j l reads number other set = absurd (cc)
  two_by program words limit_named bound_named n m k j l reads number other set =
      let are = limits_are k j l set in
      parsed_by c named program words _ l n m (reads (bound_fits n m)) (limit_first n m) (number ∙ ap Some are.0) (other ∙ ap Some are.1)
  two_by program words bound_named limit_named n m k j l reads number other set =
      let are = limits_are j k l set in
      parsed_by c named program words _ l m n (reads (limit_fits m n)) (bound_first m n) (other ∙ ap Some are.0) (number ∙ ap Some are.1)

  parsed_two : (program : Text) (words rest : List Text) (s t : Setting) (l : Limits) → IsSpelled words s rest → IsSpelled rest t [] → limits_set s (Some t) ≡ Some l → IsParsed program words l
  parsed_two program words rest s t l is other set =
      two_by program words is.which other.which is.text other.text is.number other.number l (reads_two words rest s t is other) is.reads other.reads (ap₂ (λ x y. limits_set x (Some y)) (sym is.same) (sym other.same) ∙ set)

  -- ---- all of them

  behind_both : (first : Setting) (l : Limits) (words : List Text) (o : Option (Setting × List Text)) → first_setting words ≡ o → option_and_then (limits_behind_both first) o ≡ Some l
      → (second : Setting) × (first_setting words ≡ Some (second, [])) × (limits_set first (Some second) ≡ Some l)
  behind_both first l words None is e = absurd (cc)
  behind_both first l words (Some (second, [])) is e = (second, is, e)
  behind_both first l words (Some (second, w ∷ ws)) is e = absurd (cc)

  behind_first : (program : Text) (l : Limits) (options : List Text) (o : Option (Setting × List Text)) → first_setting options ≡ o → option_and_then limits_behind o ≡ Some l → IsParsed program options l
  behind_first program l options None is e = absurd (cc)
  behind_first program l options (Some (first, [])) is e = parsed_one program options first l (spelled_first options first [] is) e
  behind_first program l options (Some (first, w ∷ ws)) is e =
      let both = behind_both first l (w ∷ ws) (first_setting (w ∷ ws)) refl e in
      parsed_two program options (w ∷ ws) first both.0 l (spelled_first options first (w ∷ ws) is) (spelled_first (w ∷ ws) both.0 [] both.1) both.2

  behind_name : (program : Text) (l : Limits) (options : List Text) → limits_by options ≡ Some l → IsParsed program options l
  behind_name program l [] e = parsed_none program l e
  behind_name program l (option ∷ options) e = behind_first program l (option ∷ options) (first_setting (option ∷ options)) refl e

-- ---- the command

with_limits : (program : Text) (options : List Text) (c : CommandName) → command_named (name_text c) ≡ Some c → (d : Command) (o : Option Limits) → limits_by options ≡ o → option_map (λ l. record { name = c; limits = l }) o ≡ Some d → IsParsedAs (program ∷ name_text c ∷ options) d
with_limits program options c named d None is e = absurd (cc)
with_limits program options c named d (Some l) is e =
    let same : ◌≡◌ {A = Command} (record { name = c; limits = l }) d = cc in
    subst (IsParsedAs (program ∷ name_text c ∷ options)) same (behind_name c named program l options is)

named_is : (word : Text) (c : CommandName) → command_named word ≡ Some c → word ≡ name_text c
named_is word c e = go (bytes_eq word (codes "analyse")) (bytes_eq word (codes "shapes")) refl refl e
  where
    go : (a b : Bool) → bytes_eq word (codes "analyse") ≡ a → bytes_eq word (codes "shapes") ≡ b → (if a then Some Analyse else if b then Some Shapes else None) ≡ Some c → word ≡ name_text c
    go true b p q f = let is : Analyse ≡ c = cc in name_is word (codes "analyse") p ∙ ap name_text is
    go false true p q f = let is : Shapes ≡ c = cc in name_is word (codes "shapes") q ∙ ap name_text is
    go false false p q f = absurd (cc)

-- the parser reads the words of a command as that command
pub command_parsed : (words : List Text) (d : Command) → command_of words ≡ Some d → IsParsedAs words d
command_parsed [] d e = absurd (cc)
command_parsed (program ∷ []) d e = absurd (cc)
command_parsed (program ∷ name ∷ words) d e = go (command_named name) refl e
  where
    go : (o : Option CommandName) → command_named name ≡ o → command_with o name (limits_by words) (number_alone words) ≡ Some d → IsParsedAs (program ∷ name ∷ words) d
    go None p f = numbered_parsed program name words d f
    go (Some c) p f =
        let is = named_is name c p in
        subst (λ w. IsParsedAs (program ∷ w ∷ words) d) (sym is) (with_limits program words c (subst (λ w. command_named w ≡ Some c) is p) d (limits_by words) refl f)

-- ---- how many problems

-- a command with options has none
has_no_number : (word : Text) (c : CommandName) → command_named word ≡ Some c → (n : ℕ) → c ≡ Bench n → ⊥
has_no_number word c e n is =
    let bad : None ≡ Some (Bench n) = subst (λ x. command_named (name_text x) ≡ Some x) is (subst (λ w. command_named w ≡ Some c) (named_is word c e) e) in cc

name_of : (c : CommandName) (d : Command) (o : Option Limits) → option_map (λ l. record { name = c; limits = l }) o ≡ Some d → c ≡ d.name
name_of c d None e = absurd (cc)
name_of c d (Some l) e = let same : ◌≡◌ {A = Command} (record { name = c; limits = l }) d = cc in ap (λ (x : Command). x.name) same

-- there are at most 500
pub few_problems : (words : List Text) (d : Command) → command_of words ≡ Some d → (n : ℕ) → d.name ≡ Bench n → n ≤ 500
few_problems [] d e n is = absurd (cc)
few_problems (program ∷ []) d e n is = absurd (cc)
few_problems (program ∷ name ∷ words) d e n is = go (command_named name) refl e
  where
    go : (o : Option CommandName) → command_named name ≡ o → command_with o name (limits_by words) (number_alone words) ≡ Some d → n ≤ 500
    go None p f = few_over name (number_alone words) d f n is
    go (Some c) p f = absurd (has_no_number name c p n (name_of c d (limits_by words) f ∙ is))

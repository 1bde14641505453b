-- What the parser of command lines makes of options one behind another.
use Rattle.std.proofs.Common.{◌≡◌, ◌∙◌, ◌&&◌, ℕ, ◌==◌, List, [], ◌∷◌, ◌++◌, true, false, refl, ap, ap₂}
use Rattle.std.specs.List.{fold}
use Rattle.std.proofs.lemmas.List.Sums.{fold-append}
use Rattle.clap.specs.Words.{Row, Text}
use Rattle.clap.specs.Takes.{settle_passes, turn_passes, use_passes, walk_passes}
use Rattle.clap.specs.Walk.{Held, Walk, settled_rows, used, walk_from, walked}
use Rattle.clap.proofs.OnLiterals.{clap_on_literals}
use Rattle.clap.proofs.WalkLemmas.{both}
use Rattle.cp_words.specs.declared.command.CommandName.{CommandName}
use Rattle.cp_words.proofs.WordsBeforeOptions.{options, rules}
use Rattle.cp_words.proofs.Options.{Named, limit_named, bound_named, rule_named, name_word, has_value, is_used, name_walked, name_passes, value_walked, value_turn, attached_walked, attached_passes}

-- the rows once what is pending is used
abbrev pub rows_held : Held → List Row
rows_held h = settled_rows rules h.pending h.rows

-- The parser takes the words from what it holds on, and then holds these rows, once what is pending is used.
pub record Reads (c : CommandName) (h : Held) (words : List Text) (rows : List Row) : Type 0 where
  pub new : Held
  pub walked_to : fold (walked rules []) (walk_from h) words ≡ walk_from new
  pub passes : walk_passes (options c) [] (walk_from h) words ≡ true
  pub held : rows_held new ≡ rows
  pub settles : settle_passes rules false new ≡ true

-- the parser reads the words from whatever has these rows on
abbrev pub Adds : CommandName → List Row → List Text → List Row → Type 0
Adds c rows words more = (h : Held) → rows_held h ≡ rows → settle_passes rules false h ≡ true → Reads c h words more

passes_both : (c : CommandName) (w : Walk) (xs ys : List Text) → walk_passes (options c) [] w xs ≡ true → walk_passes (options c) [] (fold (walked rules []) w xs) ys ≡ true → walk_passes (options c) [] w (xs ++ ys) ≡ true
unfolding walk_passes
passes_both c w [] ys p q = q
passes_both c w (x ∷ xs) ys p q =
    let here = both (turn_passes (options c) [] w x) (walk_passes (options c) [] (walked rules [] w x) xs) p in
    ap₂ (λ a b. a && b) here.0 (passes_both c (walked rules [] w x) xs ys here.1 q)

pub reads_both : (c : CommandName) (h : Held) (xs ys : List Text) (some more : List Row) → Reads c h xs some → Adds c some ys more → Reads c h (xs ++ ys) more
reads_both c h xs ys some more r next =
    let s = next r.new r.held r.settles in
    let arrived : fold (walked rules []) (fold (walked rules []) (walk_from h) xs) ys ≡ walk_from s.new = ap (λ w. fold (walked rules []) w ys) r.walked_to ∙ s.walked_to in
    let later : walk_passes (options c) [] (fold (walked rules []) (walk_from h) xs) ys ≡ true = ap (λ w. walk_passes (options c) [] w ys) r.walked_to ∙ s.passes in
    record {
      new = s.new;
      walked_to = fold-append (walked rules []) (walk_from h) xs ys ∙ arrived;
      passes = passes_both c (walk_from h) xs ys r.passes later;
      held = s.held;
      settles = s.settles;
    }

abbrev pub rows_with : Named → Text → List Row → List Row
rows_with o n rows = used (rule_named o) (n ∷ []) rows

-- ---- the option and its value in two words

value_held : (o : Named) (n : Text) (h : Held) → rows_held (has_value o n h) ≡ rows_with o n (rows_held h)
unfolding clap_on_literals
value_held limit_named n h = refl
value_held bound_named n h = refl

value_settles : (o : Named) (n : Text) (h : Held) → settle_passes rules false (has_value o n h) ≡ use_passes false (rule_named o) (n ∷ []) (rows_held h)
unfolding clap_on_literals
value_settles limit_named n h = refl
value_settles bound_named n h = refl

pub adds_apart : (c : CommandName) (o : Named) (d : ℕ) (ds : Text) (rows : List Row) → (d == 45) ≡ false → use_passes false (rule_named o) ((d ∷ ds) ∷ []) rows ≡ true
    → Adds c rows (name_word o ∷ (d ∷ ds) ∷ []) (rows_with o (d ∷ ds) rows)
unfolding walk_passes
adds_apart c o d ds rows e fits h held settles =
    let n : Text = d ∷ ds in
    let name_turn : turn_passes (options c) [] (walk_from h) (name_word o) ≡ true = name_passes c o h ∙ ap (λ b. b && true) settles in
    let value_turn_from : turn_passes (options c) [] (walked rules [] (walk_from h) (name_word o)) n ≡ true = ap (λ w. turn_passes (options c) [] w n) (name_walked o h) ∙ value_turn c o h d ds e in
    record {
      new = has_value o n h;
      walked_to = ap (λ w. walked rules [] w n) (name_walked o h) ∙ value_walked o h d ds e;
      passes = ap₂ (λ a b. a && (b && true)) name_turn value_turn_from;
      held = value_held o n h ∙ ap (rows_with o n) held;
      settles = value_settles o n h ∙ ap (use_passes false (rule_named o) (n ∷ [])) held ∙ fits;
    }

-- ---- the option and its value in one word

pub adds_attached : (c : CommandName) (o : Named) (n : Text) (rows : List Row) → use_passes false (rule_named o) (n ∷ []) rows ≡ true
    → Adds c rows ((name_word o ++ 61 ∷ n) ∷ []) (rows_with o n rows)
unfolding walk_passes
adds_attached c o n rows fits h held settles =
    let passes_use : use_passes false (rule_named o) (n ∷ []) (rows_held h) ≡ true = ap (use_passes false (rule_named o) (n ∷ [])) held ∙ fits in
    record {
      new = is_used o n h;
      walked_to = attached_walked o h n;
      passes = ap (λ b. b && true) (attached_passes c o h n ∙ ap₂ (λ a b. (a && b) && true) settles passes_use);
      held = ap (rows_with o n) held;
      settles = refl;
    }

-- What the parser of command lines makes of one option.
use Rattle.std.proofs.Common.{◌≡◌, ◌∙◌, ◌&&◌, ℕ, ◌==◌, List, [], ◌∷◌, ◌++◌, Bool, true, false, Some, None, refl, ap, ap₂, codes}
use Rattle.clap.specs.Words.{Rule, Shape, Text}
use Rattle.clap.specs.Simple.{filled}
use Rattle.clap.specs.Takes.{settle_passes, step_passes, turn_passes, use_passes, word_passes}
use Rattle.clap.specs.Walk.{Held, Step, Walk, after_step, option, plain_word, settled_rows, used, walk_from, walked, word_met}
use Rattle.clap.proofs.OnLiterals.{clap_on_literals}
use Rattle.cp_words.specs.Description.{limit_rule, bound_rule}
use Rattle.cp_words.specs.declared.command.CommandName.{CommandName}
use Rattle.cp_words.proofs.WordsBeforeOptions.{options, rules}

-- ---- a word that begins with no hyphen, where an option waits for its value

value_met : (c : List Rule) (id : Text) (position d : ℕ) (ds : Text) (h : Held) → (d == 45) ≡ false → word_met c [] false (option id) position (d ∷ ds) h ≡ plain_word c (option id) (d ∷ ds) h
value_met c id position d ds h e = rw e (rw e refl)

value_passes : (s : Shape) (id : Text) (d : ℕ) (ds : Text) (h : Held) → (d == 45) ≡ false → word_passes s [] false (option id) (d ∷ ds) h ≡ true
value_passes s id d ds h e = rw e (rw e refl)

-- ---- the options

pub data Named : Type 0 where
  limit_named : Named
  bound_named : Named

abbrev pub rule_named : Named → Rule
rule_named limit_named = filled limit_rule
rule_named bound_named = filled bound_rule

abbrev pub name_word : Named → Text
name_word limit_named = codes "--limit"
name_word bound_named = codes "--bound"

-- the option waits for its value
abbrev pub waits : Named → Held → Held
waits o h = record h { rows = settled_rows rules h.pending h.rows; pending = Some ((rule_named o).id, []) }

abbrev pub has_value : Named → Text → Held → Held
has_value o n h = record h { rows = settled_rows rules h.pending h.rows; pending = Some ((rule_named o).id, n ∷ []) }

abbrev pub is_used : Named → Text → Held → Held
is_used o n h = record h { rows = used (rule_named o) (n ∷ []) (settled_rows rules h.pending h.rows); pending = None }

abbrev pub waiting_at : Named → Held → Walk
waiting_at o h = record (walk_from h) { waiting = option (rule_named o).id }

pub name_walked : (o : Named) (h : Held) → walked rules [] (walk_from h) (name_word o) ≡ waiting_at o (waits o h)
unfolding clap_on_literals
name_walked limit_named h = refl
name_walked bound_named h = refl

pub name_passes : (c : CommandName) (o : Named) (h : Held) → turn_passes (options c) [] (walk_from h) (name_word o) ≡ (settle_passes rules false h && true)
unfolding clap_on_literals
name_passes c limit_named h = refl
name_passes c bound_named h = refl

abbrev stepped : Named → Text → Held → Held × Step → Walk
stepped o n h p = after_step rules n (waiting_at o (waits o h)) p.0 p.1

plain_walked : (o : Named) (h : Held) (n : Text) → stepped o n h (plain_word rules (option (rule_named o).id) n (waits o h)) ≡ walk_from (has_value o n h)
unfolding clap_on_literals
plain_walked limit_named h n = refl
plain_walked bound_named h n = refl

pub value_walked : (o : Named) (h : Held) (d : ℕ) (ds : Text) → (d == 45) ≡ false → walked rules [] (waiting_at o (waits o h)) (d ∷ ds) ≡ walk_from (has_value o (d ∷ ds) h)
unfolding clap_on_literals
value_walked o h d ds e = ap (stepped o (d ∷ ds) h) (value_met rules (rule_named o).id 1 d ds (waits o h) e) ∙ plain_walked o h (d ∷ ds)

plain_passes : (c : CommandName) (o : Named) (h : Held) (n : Text) → step_passes (options c) 1 (plain_word rules (option (rule_named o).id) n (waits o h)).0 (plain_word rules (option (rule_named o).id) n (waits o h)).1 ≡ true
unfolding clap_on_literals
plain_passes c limit_named h n = refl
plain_passes c bound_named h n = refl

pub value_turn : (c : CommandName) (o : Named) (h : Held) (d : ℕ) (ds : Text) → (d == 45) ≡ false → turn_passes (options c) [] (waiting_at o (waits o h)) (d ∷ ds) ≡ true
value_turn c o h d ds e =
    ap₂ (λ (b : Bool) (p : Held × Step). b && step_passes (options c) 1 p.0 p.1) (value_passes (options c) (rule_named o).id d ds (waits o h) e) (value_met rules (rule_named o).id 1 d ds (waits o h) e)
    ∙ plain_passes c o h (d ∷ ds)

-- ---- an option and its value in one word

pub attached_walked : (o : Named) (h : Held) (n : Text) → walked rules [] (walk_from h) (name_word o ++ 61 ∷ n) ≡ walk_from (is_used o n h)
unfolding clap_on_literals
attached_walked limit_named h n = refl
attached_walked bound_named h n = refl

pub attached_passes : (c : CommandName) (o : Named) (h : Held) (n : Text) → turn_passes (options c) [] (walk_from h) (name_word o ++ 61 ∷ n)
    ≡ ((settle_passes rules false h && use_passes false (rule_named o) (n ∷ []) (settled_rows rules h.pending h.rows)) && true)
unfolding clap_on_literals
attached_passes c limit_named h n = refl
attached_passes c bound_named h n = refl

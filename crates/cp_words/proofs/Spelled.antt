-- How an option stands in the words.
use Rattle.std.proofs.Common.{◌≡◌, ◌∙◌, ◌⊎◌, inl, inr, ℕ, ◌==◌, List, [], ◌∷◌, ◌++◌, Bool, true, false, Option, Some, None, refl, sym, subst, ap, codes, length, nat_lt, option_and_then, if◌then◌else◌}
use Rattle.std.specs.List.{position_or_len, before_first, after_first}
use Rattle.std.specs.Str.{bytes_eq}
use Rattle.std.proofs.Math.ListN.{get_or}
use Rattle.std.proofs.lemmas.Bool.{eqb-true, ltb-true}
use Rattle.std.proofs.lemmas.List.Sums.{passes_at_first, split_at_first}
use Rattle.std.proofs.lemmas.Slice.Eq.{bytes_eq-Decides}
use Rattle.cp_words.specs.declared.accepted.Setting.{Setting}
use Rattle.cp_words.specs.declared.accepted.Setting.TheVariants.{Limit as limit, Bound as bound}
use Rattle.cp_words.specs.CommandWords.{parsed_number, setting_named, setting_of, is_equals_sign, name_and_value, with_words_behind, setting_from, first_setting}
use Rattle.cp_words.proofs.Options.{Named, limit_named, bound_named, name_word}

-- ---- a number begins with no hyphen

hyphen_is_none : (d : ℕ) (ds : List ℕ) → d ≡ 45 → parsed_number (d ∷ ds) ≡ None
hyphen_is_none d ds is = subst (λ x. parsed_number (x ∷ ds) ≡ None) (sym is) refl

pub not_hyphen : (d : ℕ) (ds : List ℕ) (k : ℕ) → parsed_number (d ∷ ds) ≡ Some k → (d == 45) ≡ false
not_hyphen d ds k e = go (d == 45) refl
  where
    go : (b : Bool) → (d == 45) ≡ b → (d == 45) ≡ false
    go false p = p
    go true p = let none = hyphen_is_none d ds (eqb-true d 45 p) in absurd (cc)

-- ---- an option

abbrev pub setting_by : Named → ℕ → Setting
setting_by limit_named k = limit k
setting_by bound_named k = bound k

-- The name and the text of an option with its number.
pub record IsOption (name text : List ℕ) (s : Setting) : Type 0 where
  pub which : Named
  pub named : name ≡ name_word which
  pub number : ℕ
  pub reads : parsed_number text ≡ Some number
  pub same : s ≡ setting_by which number

pub name_is : (name other : List ℕ) → bytes_eq name other ≡ true → name ≡ other
name_is name other e = (bytes_eq-Decides name other).0 e

abbrev named_by : ℕ → Bool → Bool → Option Setting
named_by k is_limit is_bound = if is_limit then Some (limit k) else if is_bound then Some (bound k) else None

named_option : (name text : List ℕ) (k : ℕ) (s : Setting) → parsed_number text ≡ Some k → setting_named name k ≡ Some s → IsOption name text s
named_option name text k s reads e = go (bytes_eq name (codes "--limit")) (bytes_eq name (codes "--bound")) refl refl e
  where
    go : (b c : Bool) → bytes_eq name (codes "--limit") ≡ b → bytes_eq name (codes "--bound") ≡ c → named_by k b c ≡ Some s → IsOption name text s
    go true c p q f = record { which = limit_named; named = name_is _ _ p; number = k; reads = reads; same = cc }
    go false true p q f = record { which = bound_named; named = name_is _ _ q; number = k; reads = reads; same = cc }
    go false false p q f = absurd (cc)

option_is : (name text : List ℕ) (s : Setting) → setting_of name text ≡ Some s → IsOption name text s
option_is name text s e = go (parsed_number text) refl
  where
    go : (o : Option ℕ) → parsed_number text ≡ o → IsOption name text s
    go None p = let bad : None ≡ Some s = sym (ap (option_and_then (setting_named name)) p) ∙ e in absurd (cc)
    go (Some k) p = named_option name text k s p (sym (ap (option_and_then (setting_named name)) p) ∙ e)

-- ---- in one word or in two

-- The words are this option, in one word or in two, and then the rest.
pub record IsSpelled (words : List (List ℕ)) (s : Setting) (rest : List (List ℕ)) : Type 0 where
  pub text : List ℕ
  pub front : List (List ℕ)
  pub which : Named
  pub number : ℕ
  pub reads : parsed_number text ≡ Some number
  pub same : s ≡ setting_by which number
  pub parts : words ≡ front ++ rest
  pub spelled : (front ≡ name_word which ∷ text ∷ []) ⊎ (front ≡ (name_word which ++ 61 ∷ text) ∷ [])

cut_word : (word : List ℕ) (p : List ℕ × List ℕ) → name_and_value word ≡ Some p → word ≡ p.0 ++ 61 ∷ p.1
cut_word word p e = go (nat_lt (position_or_len is_equals_sign word) (length word)) refl e
  where
    go : (b : Bool) → nat_lt (position_or_len is_equals_sign word) (length word) ≡ b → (if b then Some (before_first is_equals_sign word, after_first is_equals_sign word) else None) ≡ Some p
        → word ≡ p.0 ++ 61 ∷ p.1
    go false q f = absurd (cc)
    go true q f =
        let below = ltb-true (position_or_len is_equals_sign word) (length word) q in
        let sign = eqb-true (get_or word (position_or_len is_equals_sign word) 0) 61 (passes_at_first is_equals_sign word 0 below) in
        let same : ◌≡◌ {A = List ℕ × List ℕ} (before_first is_equals_sign word, after_first is_equals_sign word) p = cc in
        split_at_first is_equals_sign word 0 below ∙ ap (λ x. before_first is_equals_sign word ++ x ∷ after_first is_equals_sign word) sign
        ∙ ap (λ x. x.0 ++ 61 ∷ x.1) same

behind : (s : Setting) (ws rest : List (List ℕ)) (o : Option Setting) → with_words_behind ws o ≡ Some (s, rest) → (o ≡ Some s) × (ws ≡ rest)
behind s ws rest None e = absurd (cc)
behind s ws rest (Some u) e =
    let q : ◌≡◌ {A = Setting × List (List ℕ)} (u, ws) (s, rest) = cc in
    (ap (λ x. Some x.0) q, ap (λ x. x.1) q)

pub spelled_first : (words : List (List ℕ)) (s : Setting) (rest : List (List ℕ)) → first_setting words ≡ Some (s, rest) → IsSpelled words s rest
spelled_first [] s rest e = absurd (cc)
spelled_first (word ∷ words) s rest e = go (name_and_value word) words refl e
  where
    go : (o : Option (List ℕ × List ℕ)) (ws : List (List ℕ)) → name_and_value word ≡ o → setting_from o word ws ≡ Some (s, rest) → IsSpelled (word ∷ ws) s rest
    go (Some p) ws cut f =
        let at = behind s ws rest (setting_of p.0 p.1) f in
        let is = option_is p.0 p.1 s at.0 in
        record {
          text = p.1;
          front = word ∷ [];
          which = is.which;
          number = is.number;
          reads = is.reads;
          same = is.same;
          parts = ap (λ x. word ∷ x) at.1;
          spelled = inr (ap (λ x. x ∷ []) (cut_word word p cut ∙ ap (λ x. x ++ 61 ∷ p.1) is.named));
        }
    go None [] cut f = absurd (cc)
    go None (value ∷ ws) cut f =
        let at = behind s ws rest (setting_of word value) f in
        let is = option_is word value s at.0 in
        record {
          text = value;
          front = word ∷ value ∷ [];
          which = is.which;
          number = is.number;
          reads = is.reads;
          same = is.same;
          parts = ap (λ x. word ∷ value ∷ x) at.1;
          spelled = inl (ap (λ x. x ∷ value ∷ []) is.named);
        }

-- The longest run of bytes of a kind.
use Rattle.std.proofs.Common.{◌≡◌, ℕ, zero, suc, ◌+◌, ◌<◌, ◌≤◌, List, [], ◌∷◌, ◌++◌, length, get_or, slice_index, take, drop, refl, sym, ap, ◌∙◌, arith, subst, append_assoc, ◌≢◌, ⊎_elim, one-add, lit<, IsAscii, Result, Ok, Err, IsOk, MatchResult}
use Rattle.std.specs.List.{AllByRecursion}
use Rattle.std.proofs.lemmas.Bool.{cases_eq}
use Rattle.std.proofs.lemmas.List.{take-append-drop}
use Rattle.cp_base.specs.declared.place.Place.{Place}
use Rattle.cp_base.specs.declared.place.Code.TheVariants.{BadByte, OpenString}
use Rattle.cp_sexpr.specs.Pieces.{blank, comment, quoted, token, BeginsWith, BeginsWithout, EndsLine, IsWhiteSpace, IsVisible, IsTokenByte, IsStringByte, IsCommentByte, quote, semicolon, line_feed, place_after}
use Rattle.cp_sexpr.specs.Reading.{IsRefused, by_byte, by_open_string, by_string_byte, refusal}
use Rattle.cp_sexpr.specs.CutPieces.{IsLongestPrefix}

pub front_of_kind : (P : ℕ → Type 0) (t : List ℕ) (n : ℕ) → n ≤ length t → ((k : ℕ) → k < n → P (get_or t k 0)) → AllByRecursion P (take n t)
front_of_kind P [] zero l h = tt
front_of_kind P [] (suc n) l h = tt
front_of_kind P (b ∷ t) zero l h = tt
front_of_kind P (b ∷ t) (suc n) l h = (h zero (omega arith), front_of_kind P t n (omega arith) (λ k m. h (suc k) (omega arith)))

pub all_of_kind : (P : ℕ → Type 0) (t : List ℕ) → ((k : ℕ) → k < length t → P (get_or t k 0)) → AllByRecursion P t
all_of_kind P [] h = tt
all_of_kind P (b ∷ t) h = (h zero (omega arith), all_of_kind P t (λ k m. h (suc k) (omega arith)))

pub rest_without : (P : ℕ → Type 0) (t : List ℕ) (n : ℕ) → (n < length t → P (get_or t n 0) → ⊥) → BeginsWithout P (drop n t)
rest_without P [] zero h = tt
rest_without P [] (suc n) h = tt
rest_without P (b ∷ t) zero h = h (omega arith)
rest_without P (b ∷ t) (suc n) h = rest_without P t n (λ m. h (omega arith))

pub run_front : (P : ℕ → Type 0) (t : List ℕ) (n : ℕ) → IsLongestPrefix P t n → AllByRecursion P (take n t)
run_front P t n r = front_of_kind P t n r.within r.each

pub run_rest : (P : ℕ → Type 0) (t : List ℕ) (n : ℕ) → IsLongestPrefix P t n → BeginsWithout P (drop n t)
run_rest P t n r = rest_without P t n r.stops

-- ---- what a text begins with

pub blank_begins : (b : ℕ) (t : List ℕ) → IsWhiteSpace b → BeginsWith (b ∷ t) (blank b) t
blank_begins b t w = record { piece = w; spelled = refl; whole = tt }

is_it : (a b : ℕ) → (a ≢ b → ⊥) → a ≡ b
is_it a b h = ⊎_elim (λ e. e) (λ n. absurd (h n)) (cases_eq a b)

pub EndsLine-without : (t : List ℕ) → BeginsWithout IsCommentByte t → EndsLine t
EndsLine-without [] h = tt
EndsLine-without (b ∷ t) h = is_it b line_feed h

pub comment_begins : (t : List ℕ) (n : ℕ) → IsLongestPrefix IsCommentByte t n → BeginsWith (semicolon ∷ t) (comment (take n t)) (drop n t)
comment_begins t n r = record {
  piece = run_front IsCommentByte t n r;
  spelled = ap (λ bs. semicolon ∷ bs) (sym (take-append-drop n t));
  whole = EndsLine-without (drop n t) (run_rest IsCommentByte t n r);
}

token_not_empty : (b : ℕ) (t : List ℕ) (n : ℕ) → IsTokenByte b → (n < length (b ∷ t) → IsTokenByte (get_or (b ∷ t) n 0) → ⊥) → 0 < length (take n (b ∷ t))
token_not_empty b t zero h stops = absurd (stops (omega arith) h)
token_not_empty b t (suc n) h stops = omega arith

pub token_begins : (b : ℕ) (t : List ℕ) (n : ℕ) → IsTokenByte b → IsLongestPrefix IsTokenByte (b ∷ t) n → BeginsWith (b ∷ t) (token (take n (b ∷ t))) (drop n (b ∷ t))
token_begins b t n h r = record {
  piece = (token_not_empty b t n h r.stops, run_front IsTokenByte (b ∷ t) n r);
  spelled = sym (take-append-drop n (b ∷ t));
  whole = run_rest IsTokenByte (b ∷ t) n r;
}

pub string_begins : (t : List ℕ) (n : ℕ) (rest : List ℕ) → IsLongestPrefix IsStringByte t n → drop n t ≡ quote ∷ rest → BeginsWith (quote ∷ t) (quoted (take n t)) rest
string_begins t n rest r e = record {
  piece = run_front IsStringByte t n r;
  spelled = ap (λ bs. quote ∷ bs) (sym (take-append-drop n t) ∙ ap (λ bs. take n t ++ bs) e ∙ sym (append_assoc (take n t) (quote ∷ []) rest));
  whole = tt;
}

-- ---- strings that are refused

pub string_open : (at : Place) (opened : List Place) (t : List ℕ) (n : ℕ) → IsLongestPrefix IsStringByte t n → EndsLine (drop n t) → IsRefused at opened (quote ∷ t) (refusal at OpenString)
string_open at opened t n r ends = by_open_string (take n t) (drop n t) (ap (λ bs. quote ∷ bs) (sym (take-append-drop n t))) (run_front IsStringByte t n r) ends refl

stopped_at : (P : ℕ → Type 0) (t : List ℕ) (n : ℕ) (b : ℕ) (rest : List ℕ) → IsLongestPrefix P t n → drop n t ≡ b ∷ rest → P b → ⊥
stopped_at P t n b rest r e = let h : BeginsWithout P (b ∷ rest) = subst (BeginsWithout P) e (run_rest P t n r) in h

pub string_byte_refused : (at : Place) (opened : List Place) (t : List ℕ) (n : ℕ) (b : ℕ) (rest : List ℕ) → IsLongestPrefix IsStringByte t n → drop n t ≡ b ∷ rest → b ≢ quote → b ≢ line_feed
    → IsRefused at opened (quote ∷ t) (refusal (place_after at (quote ∷ take n t)) BadByte)
string_byte_refused at opened t n b rest r e no_quote no_line_feed =
    by_string_byte (take n t) b rest (ap (λ bs. quote ∷ bs) (sym (take-append-drop n t) ∙ ap (λ bs. take n t ++ bs) e)) (run_front IsStringByte t n r)
    (stopped_at IsStringByte t n b rest r e) no_quote no_line_feed refl

pub string_text : (bytes tail : List ℕ) → (inside : List ℕ) × (bytes ≡ quote ∷ inside) → tail ≡ drop 1 bytes → bytes ≡ quote ∷ tail
string_text bytes tail b e = b.1 ∙ ap (λ t. quote ∷ t) (sym (e ∙ ap (drop 1) b.1))

pub front_of_string : (bytes t : List ℕ) (n : ℕ) → bytes ≡ quote ∷ t → take (1 + n) bytes ≡ quote ∷ take n t
front_of_string bytes t n e = ap (take (1 + n)) e ∙ ap (λ k. take k (quote ∷ t)) (one-add n)

pub byte_refused : (at : Place) (opened : List Place) (bytes : List ℕ) (b : ℕ) (rest : List ℕ) → bytes ≡ b ∷ rest → (IsWhiteSpace b → ⊥) → (IsVisible b → ⊥) → IsRefused at opened bytes (refusal at BadByte)
byte_refused at opened bytes b rest e no_space no_ink = by_byte b rest e no_space no_ink refl

pub no_white_space : (b : ℕ) → b ≢ 32 → b ≢ 9 → b ≢ 10 → b ≢ 13 → IsWhiteSpace b → ⊥
no_white_space b s t l r w = ⊎_elim s (λ w. ⊎_elim t (λ w. ⊎_elim l r w) w) w

pub not_visible : (b : ℕ) → (IsTokenByte b → ⊥) → b ≢ 40 → b ≢ 41 → b ≢ 34 → b ≢ 59 → IsVisible b → ⊥
not_visible b no_token o c q s v = no_token (v.0, v.1, o, c, q, s)

pub token_text : (bytes : List ℕ) (b : ℕ) (t : List ℕ) (n : ℕ) (front rest : List ℕ) → bytes ≡ b ∷ t → IsTokenByte b → IsLongestPrefix IsTokenByte bytes n → front ≡ take n bytes → rest ≡ drop n bytes
    → BeginsWith bytes (token front) rest
token_text bytes b t n front rest e h r f g =
    subst (λ s. BeginsWith bytes (token s) rest) (sym f) (subst (λ s. BeginsWith bytes (token (take n bytes)) s) (sym g)
    (subst (λ s. BeginsWith s (token (take n s)) (drop n s)) (sym e) (token_begins b t n h (subst (λ s. IsLongestPrefix IsTokenByte s n) e r))))

-- ---- runs are texts

pub front_ascii : (t : List ℕ) (n i : ℕ) → ((k : ℕ) → k < n → get_or t k 0 < 128) → slice_index (take n t) i < 128
front_ascii [] zero i h = lit< tt
front_ascii [] (suc n) i h = lit< tt
front_ascii (b ∷ t) zero i h = lit< tt
front_ascii (b ∷ t) (suc n) zero h = h zero (omega arith)
front_ascii (b ∷ t) (suc n) (suc i) h = front_ascii t n i (λ k m. h (suc k) (omega arith))

pub token_ascii : (t : List ℕ) (n : ℕ) → IsLongestPrefix IsTokenByte t n → IsAscii (take n t)
token_ascii t n r i = front_ascii t n i (λ k m. omega (arith, (r.each k m).1))

pub string_ascii : (t : List ℕ) (n : ℕ) → IsLongestPrefix IsStringByte t n → IsAscii (take n t)
string_ascii t n r i = front_ascii t n i (λ k m. omega (arith, (r.each k m).1))

pub ok_where_no_error : {A E : Type 0} (r : Result A E) (P : A → Type 0) (Q : E → Type 0) → MatchResult r P Q → ((e : E) → Q e → ⊥) → IsOk r
ok_where_no_error (Ok a) P Q m none = refl
ok_where_no_error (Err e) P Q m none = absurd (none e m)

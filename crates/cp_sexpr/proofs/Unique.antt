-- A text has one reading.
use Rattle.std.proofs.Common.{◌≡◌, ◌≢◌, ℕ, List, [], ◌∷◌, ◌++◌, length, refl, sym, ap, ap₂, ◌∙◌, subst, arith, append_assoc, cond, eqb, leb, Option, Some, None, Result, Ok, Err, length-append}
use Rattle.std.proofs.lemmas.Bool.Decides.{nat_tests}
use Rattle.std.specs.List.{AllByRecursion}
use Rattle.cp_lists.proofs.SameLists.{head_same, tail_same}
use Rattle.cp_base.specs.declared.place.Place.{Place}
use Rattle.cp_base.specs.declared.place.Code.{Code}
use Rattle.cp_base.specs.declared.place.Code.TheVariants.{BadByte, Unclosed}
use Rattle.cp_base.specs.declared.place.Refusal.{Refusal}
use Rattle.cp_sexpr.specs.Syntax.{Forms, none}
use Rattle.cp_sexpr.specs.Pieces.{Piece, blank, comment, opening, closing, quoted, token, spelling, IsPiece, BeginsWith, BeginsWithout, EndsLine, IsCut, IsWhiteSpace, IsVisible, IsTokenByte, IsStringByte, IsCommentByte, line_feed, quote, start, place_after, after_piece, after_pieces}
use Rattle.cp_sexpr.specs.Reading.{IsRefused, by_piece, by_byte, by_open_string, by_string_byte, by_end, IsFaulty, IsReading, refusal}
use Rattle.cp_sexpr.specs.Written.{Writes, opened_behind, opened_after, IsRefusedPiece, AreAccepted, IsWritten}
use Rattle.cp_sexpr.proofs.Fronts.{length-spelling}
use Rattle.cp_sexpr.proofs.Grammar.{written_is_built}

-- ---- runs

-- the longest run of bytes of a kind is one
pub one_run : (P : ℕ → Type 0) (s t a b : List ℕ) → AllByRecursion P s → BeginsWithout P a → AllByRecursion P t → BeginsWithout P b → s ++ a ≡ t ++ b → (s ≡ t) × (a ≡ b)
one_run P [] [] a b hs ha ht hb e = (refl, e)
one_run P [] (y ∷ t) a b hs ha ht hb e = absurd ((let h : BeginsWithout P (y ∷ (t ++ b)) = subst (BeginsWithout P) e ha in h) ht.0)
one_run P (x ∷ s) [] a b hs ha ht hb e = absurd ((let h : BeginsWithout P (x ∷ (s ++ a)) = subst (BeginsWithout P) (sym e) hb in h) hs.0)
one_run P (x ∷ s) (y ∷ t) a b hs ha ht hb e =
    let h = one_run P s t a b hs.1 ha ht.1 hb (tail_same e) in
    (ap₂ (λ z u. z ∷ u) (head_same e) h.0, h.1)

pub without_comment : (t : List ℕ) → EndsLine t → BeginsWithout IsCommentByte t
without_comment [] h = tt
without_comment (b ∷ t) h = λ other. other h

pub without_string : (t : List ℕ) → EndsLine t → BeginsWithout IsStringByte t
without_string [] h = tt
without_string (b ∷ t) h = λ s. omega (arith, s.0, h)

quote_stops : (t : List ℕ) → BeginsWithout IsStringByte (quote ∷ t)
quote_stops t s = s.2 refl

-- ---- the first byte tells what kind of piece comes

byte_kind : ℕ → ℕ
byte_kind b = cond (eqb b 59) 1 (cond (eqb b 40) 2 (cond (eqb b 41) 3 (cond (eqb b 34) 4 (cond (leb b 32) 0 5))))

kind : Piece → ℕ
kind (blank b) = 0
kind (comment t) = 1
kind opening = 2
kind closing = 3
kind (quoted t) = 4
kind (token t) = 5

first_kind : List ℕ → ℕ
first_kind [] = 6
first_kind (b ∷ t) = byte_kind b

byte_kind-white : (b : ℕ) → IsWhiteSpace b → byte_kind b ≡ 0
unfolding byte_kind
byte_kind-white b h = grind (arith, nat_tests)

byte_kind-token : (b : ℕ) → IsTokenByte b → byte_kind b ≡ 5
unfolding byte_kind
byte_kind-token b h = grind (arith, nat_tests)

kind_spelled : (p : Piece) (rest : List ℕ) → IsPiece p → first_kind (spelling p ++ rest) ≡ kind p
unfolding byte_kind kind first_kind
kind_spelled (blank b) rest h = byte_kind-white b h
kind_spelled (comment t) rest h = refl
kind_spelled opening rest h = refl
kind_spelled closing rest h = refl
kind_spelled (quoted t) rest h = refl
kind_spelled (token []) rest h = absurd (omega (arith, h.0))
kind_spelled (token (b ∷ t)) rest h = byte_kind-token b h.1.0

kind_begins : (text : List ℕ) (p : Piece) (rest : List ℕ) → BeginsWith text p rest → first_kind text ≡ kind p
kind_begins text p rest b = ap first_kind b.spelled ∙ kind_spelled p rest b.piece

same_kind : (text : List ℕ) (p q : Piece) (a b : List ℕ) → BeginsWith text p a → BeginsWith text q b → kind p ≡ kind q
same_kind text p q a b h k = sym (kind_begins text p a h) ∙ kind_begins text q b k

pub one_piece : (text : List ℕ) (p q : Piece) (a b : List ℕ) → BeginsWith text p a → BeginsWith text q b → (p ≡ q) × (a ≡ b)
unfolding kind
one_piece text (blank x) (blank y) a b h k = let e = sym h.spelled ∙ k.spelled in (ap blank (head_same e), tail_same e)
one_piece text (comment s) (comment t) a b h k =
    let r = one_run IsCommentByte s t a b h.piece (without_comment a h.whole) k.piece (without_comment b k.whole) (tail_same (sym h.spelled ∙ k.spelled)) in
    (ap comment r.0, r.1)
one_piece text opening opening a b h k = (refl, tail_same (sym h.spelled ∙ k.spelled))
one_piece text closing closing a b h k = (refl, tail_same (sym h.spelled ∙ k.spelled))
one_piece text (quoted s) (quoted t) a b h k =
    let e = sym (append_assoc s (quote ∷ []) a) ∙ tail_same (sym h.spelled ∙ k.spelled) ∙ append_assoc t (quote ∷ []) b in
    let r = one_run IsStringByte s t (quote ∷ a) (quote ∷ b) h.piece (quote_stops a) k.piece (quote_stops b) e in
    (ap quoted r.0, tail_same r.1)
one_piece text (token s) (token t) a b h k =
    let r = one_run IsTokenByte s t a b h.piece.1 h.whole k.piece.1 k.whole (sym h.spelled ∙ k.spelled) in
    (ap token r.0, r.1)
one_piece text p q a b h k = let e = same_kind text p q a b h k in absurd (omega (arith, e))

-- ---- a piece and a refusal

not_empty : (text : List ℕ) (p : Piece) (rest : List ℕ) → BeginsWith text p rest → text ≡ [] → ⊥
not_empty text p rest b e =
    let n = length-spelling p b.piece in
    let l = sym (ap length e) ∙ ap length b.spelled ∙ length-append (spelling p) rest in
    omega arith

white_or_visible : (text : List ℕ) (p : Piece) (rest : List ℕ) (b : ℕ) (t : List ℕ) → BeginsWith text p rest → text ≡ b ∷ t → (IsWhiteSpace b → ⊥) → (IsVisible b → ⊥) → ⊥
white_or_visible text (blank x) rest b t h e w v = w (subst IsWhiteSpace (head_same (sym h.spelled ∙ e)) h.piece)
white_or_visible text (comment s) rest b t h e w v = v (subst IsVisible (head_same (sym h.spelled ∙ e)) (omega arith, omega arith))
white_or_visible text opening rest b t h e w v = v (subst IsVisible (head_same (sym h.spelled ∙ e)) (omega arith, omega arith))
white_or_visible text closing rest b t h e w v = v (subst IsVisible (head_same (sym h.spelled ∙ e)) (omega arith, omega arith))
white_or_visible text (quoted s) rest b t h e w v = v (subst IsVisible (head_same (sym h.spelled ∙ e)) (omega arith, omega arith))
white_or_visible text (token []) rest b t h e w v = absurd (omega (arith, h.piece.0))
white_or_visible text (token (x ∷ s)) rest b t h e w v = v (subst IsVisible (head_same (sym h.spelled ∙ e)) (h.piece.1.0.0, h.piece.1.0.1))

kind_quote : (t : List ℕ) → first_kind (quote ∷ t) ≡ 4
unfolding byte_kind first_kind
kind_quote t = refl

quote_is_no_end : (t : List ℕ) → EndsLine (quote ∷ t) → ⊥
quote_is_no_end t h = omega (arith, h)

visible_quote : (b : ℕ) → (IsVisible b → ⊥) → b ≡ quote → ⊥
visible_quote b v e = v (omega (arith, e), omega (arith, e))

-- behind its string bytes a string stands open, or a byte comes that no string holds
open_or_byte : (s after t : List ℕ) (c : ℕ) (rest : List ℕ) → s ++ after ≡ t ++ c ∷ rest → AllByRecursion IsStringByte s → EndsLine after → AllByRecursion IsStringByte t → (IsStringByte c → ⊥) → c ≢ line_feed → ⊥
open_or_byte s after t c rest e hs ends ht other no_line_feed =
    let same = one_run IsStringByte s t after (c ∷ rest) hs (without_string after ends) ht other e in
    no_line_feed (subst EndsLine same.1 ends)

first_same : {i j : Place} {o u : List Place} → i ∷ o ≡ j ∷ u → i ≡ j
first_same e = cc

-- a piece that begins with a quote is a string, and its closing quote is the first byte that no string holds
closing_quote : (text : List ℕ) (p : Piece) (rest t after : List ℕ) → BeginsWith text p rest → text ≡ quote ∷ (t ++ after) → AllByRecursion IsStringByte t → BeginsWithout IsStringByte after → after ≡ quote ∷ rest
unfolding kind
closing_quote text (quoted s) rest t after h e all stops =
    let same = sym (append_assoc s (quote ∷ []) rest) ∙ tail_same (sym h.spelled ∙ e) in
    sym (one_run IsStringByte s t (quote ∷ rest) after h.piece (quote_stops rest) all stops same).1
closing_quote text p rest t after h e all stops =
    let k : kind p ≡ 4 = sym (kind_begins text p rest h) ∙ ap first_kind e ∙ kind_quote (t ++ after) in
    absurd (omega (arith, k))

-- With a piece next, a text is refused for that piece alone.
pub refused_by_piece : (at : Place) (opened : List Place) (text : List ℕ) (r : Refusal) (p : Piece) (rest : List ℕ) → IsRefused at opened text r → BeginsWith text p rest
    → IsRefusedPiece opened p r.code × (r ≡ refusal at r.code)
refused_by_piece at opened text r p rest (by_piece q after code b refused e) h =
    let same = one_piece text q p after rest b h in
    let codes : code ≡ r.code = sym (ap (λ f. f.code) e) in
    (subst (IsRefusedPiece opened p) codes (subst (λ s. IsRefusedPiece opened s code) same.0 refused), e ∙ ap (refusal at) codes)
refused_by_piece at opened text r p rest (by_byte b t e w v f) h = absurd (white_or_visible text p rest b t h e w v)
refused_by_piece at opened text r p rest (by_open_string t after e all ends f) h =
    let q = closing_quote text p rest t after h e all (without_string after ends) in
    absurd (quote_is_no_end rest (subst EndsLine q ends))
refused_by_piece at opened text r p rest (by_string_byte t b after e all other no_quote no_line_feed f) h =
    let q = closing_quote text p rest t (b ∷ after) h e all other in
    absurd (no_quote (head_same q))
refused_by_piece at opened text r p rest (by_end innermost outer e o f) h = absurd (not_empty text p rest h e)

one_code : (opened : List Place) (p : Piece) (c d : Code) → IsRefusedPiece opened p c → IsRefusedPiece opened p d → c ≡ d
one_code opened (blank b) c d h k = absurd h
one_code opened (comment t) c d h k = absurd h
one_code opened opening c d h k = h.1 ∙ sym k.1
one_code opened closing c d h k = h.1 ∙ sym k.1
one_code opened (quoted t) c d h k = absurd h
one_code opened (token t) c d h k = h.2 ∙ sym k.2

by_one_piece : (at : Place) (opened : List Place) (text : List ℕ) (r s : Refusal) (p : Piece) (rest : List ℕ) → BeginsWith text p rest → IsRefused at opened text r → IsRefused at opened text s → r ≡ s
by_one_piece at opened text r s p rest b h k =
    let x = refused_by_piece at opened text r p rest h b in
    let y = refused_by_piece at opened text s p rest k b in
    x.1 ∙ ap (refusal at) (one_code opened p r.code s.code x.0 y.0) ∙ sym y.1

pub one_refusal : (at : Place) (opened : List Place) (text : List ℕ) (r s : Refusal) → IsRefused at opened text r → IsRefused at opened text s → r ≡ s
one_refusal at opened text r s (by_piece p rest code b refused e) k = by_one_piece at opened text r s p rest b (by_piece p rest code b refused e) k
one_refusal at opened text r s h (by_piece p rest code b refused e) = by_one_piece at opened text r s p rest b h (by_piece p rest code b refused e)
one_refusal at opened text r s (by_byte b t e w v f) (by_byte c u g x y k) = f ∙ sym k
one_refusal at opened text r s (by_byte b t e w v f) (by_open_string u rest g all ends k) = absurd (visible_quote b v (head_same (sym e ∙ g)))
one_refusal at opened text r s (by_byte b t e w v f) (by_string_byte u c rest g all other no_quote no_line_feed k) = absurd (visible_quote b v (head_same (sym e ∙ g)))
one_refusal at opened text r s (by_byte b t e w v f) (by_end i o g x k) = absurd (let c = sym e ∙ g in cc)
one_refusal at opened text r s (by_open_string u rest g all ends k) (by_byte b t e w v f) = absurd (visible_quote b v (head_same (sym e ∙ g)))
one_refusal at opened text r s (by_open_string t after e all ends f) (by_open_string u rest g x y k) = f ∙ sym k
one_refusal at opened text r s (by_open_string t after e all ends f) (by_string_byte u c rest g x other no_quote no_line_feed k) = absurd (open_or_byte t after u c rest (tail_same (sym e ∙ g)) all ends x other no_line_feed)
one_refusal at opened text r s (by_open_string t after e all ends f) (by_end i o g x k) = absurd (let c = sym e ∙ g in cc)
one_refusal at opened text r s (by_string_byte u c rest g all other no_quote no_line_feed k) (by_byte b t e w v f) = absurd (visible_quote b v (head_same (sym e ∙ g)))
one_refusal at opened text r s (by_string_byte u c rest g x other no_quote no_line_feed k) (by_open_string t after e all ends f) = absurd (open_or_byte t after u c rest (tail_same (sym e ∙ g)) all ends x other no_line_feed)
one_refusal at opened text r s (by_string_byte t b after e all other no_quote no_line_feed f) (by_string_byte u c rest g x other' no_quote' no_line_feed' k) =
    let same = one_run IsStringByte t u (b ∷ after) (c ∷ rest) all other x other' (tail_same (sym e ∙ g)) in
    f ∙ ap (λ v. refusal (place_after at (quote ∷ v)) BadByte) same.0 ∙ sym k
one_refusal at opened text r s (by_string_byte u c rest g all other no_quote no_line_feed k) (by_end i o e x f) = absurd (let c = sym g ∙ e in cc)
one_refusal at opened text r s (by_end i o g x k) (by_byte b t e w v f) = absurd (let c = sym e ∙ g in cc)
one_refusal at opened text r s (by_end i o g x k) (by_open_string t after e all ends f) = absurd (let c = sym e ∙ g in cc)
one_refusal at opened text r s (by_end i o e x f) (by_string_byte u c rest g all other no_quote no_line_feed k) = absurd (let c = sym g ∙ e in cc)
one_refusal at opened text r s (by_end i o g x k) (by_end j u e y f) =
    let same : i ∷ o ≡ j ∷ u = sym x ∙ y in
    k ∙ ap (λ q. refusal q Unclosed) (first_same same) ∙ sym f

-- ---- where a reading stops

-- the text ends with no list open, or is refused
abbrev pub Stops : Place → List Place → List ℕ → Option Refusal → Type 0
Stops at opened rest None = (rest ≡ []) × (opened ≡ [])
Stops at opened rest (Some r) = IsRefused at opened rest r

stops_or_goes_on : (at : Place) (opened : List Place) (text : List ℕ) (end : Option Refusal) (p : Piece) (rest : List ℕ) → Stops at opened text end → BeginsWith text p rest
    → ((code : Code) → IsRefusedPiece opened p code → ⊥) → ⊥
stops_or_goes_on at opened text None p rest s b a = not_empty text p rest b s.0
stops_or_goes_on at opened text (Some r) p rest s b a = a r.code (refused_by_piece at opened text r p rest s b).0

ends_or_is_refused : (at : Place) (opened : List Place) (text : List ℕ) (r : Refusal) → text ≡ [] → opened ≡ [] → IsRefused at opened text r → ⊥
ends_or_is_refused at opened text r e o (by_piece p rest code b refused f) = not_empty text p rest b e
ends_or_is_refused at opened text r e o (by_byte b t g w v f) = let c = sym g ∙ e in cc
ends_or_is_refused at opened text r e o (by_open_string t after g all ends f) = let c = sym g ∙ e in cc
ends_or_is_refused at opened text r e o (by_string_byte t b after g all other no_quote no_line_feed f) = let c = sym g ∙ e in cc
ends_or_is_refused at opened text r e o (by_end i outer g x f) = let c = sym x ∙ o in cc

one_stop : (at : Place) (opened : List Place) (text : List ℕ) (d e : Option Refusal) → Stops at opened text d → Stops at opened text e → d ≡ e
one_stop at opened text None None s t = refl
one_stop at opened text None (Some r) s t = absurd (ends_or_is_refused at opened text r s.0 s.1 t)
one_stop at opened text (Some r) None s t = absurd (ends_or_is_refused at opened text r t.0 t.1 s)
one_stop at opened text (Some r) (Some q) s t = ap Some (one_refusal at opened text r q s t)

-- these pieces, and where the text stops behind them
pub record ReadsUpTo (at : Place) (opened : List Place) (text : List ℕ) (ps : List Piece) (end : Option Refusal) : Type 0 where
  pub rest : List ℕ
  pub cut : IsCut text ps rest
  pub accepted : AreAccepted at opened ps
  pub stops : Stops (after_pieces at ps) (opened_after at opened ps) rest end

pub one_way : (ps qs : List Piece) (at : Place) (opened : List Place) (text : List ℕ) (d e : Option Refusal) → ReadsUpTo at opened text ps d → ReadsUpTo at opened text qs e → (ps ≡ qs) × (d ≡ e)
one_way [] [] at opened text d e r s =
    (refl, one_stop at opened text d e (subst (λ t. Stops at opened t d) (sym r.cut) r.stops) (subst (λ t. Stops at opened t e) (sym s.cut) s.stops))
one_way [] (q ∷ qs) at opened text d e r s =
    absurd (stops_or_goes_on at opened text d q s.cut.0 (subst (λ t. Stops at opened t d) (sym r.cut) r.stops) s.cut.1 s.accepted.0)
one_way (p ∷ ps) [] at opened text d e r s =
    absurd (stops_or_goes_on at opened text e p r.cut.0 (subst (λ t. Stops at opened t e) (sym s.cut) s.stops) r.cut.1 r.accepted.0)
one_way (p ∷ ps) (q ∷ qs) at opened text d e r s =
    let same = one_piece text p q r.cut.0 s.cut.0 r.cut.1 s.cut.1 in
    let first : ReadsUpTo (after_piece at p) (opened_behind at opened p) r.cut.0 ps d = record { rest = r.rest; cut = r.cut.2; accepted = r.accepted.1; stops = r.stops } in
    let second : ReadsUpTo (after_piece at q) (opened_behind at opened q) s.cut.0 qs e = record { rest = s.rest; cut = s.cut.2; accepted = s.accepted.1; stops = s.stops } in
    let moved = subst (λ t. ReadsUpTo (after_piece at p) (opened_behind at opened p) t qs e) (sym same.1)
    (subst (λ x. ReadsUpTo (after_piece at x) (opened_behind at opened x) s.cut.0 qs e) (sym same.0) second) in
    let h = one_way ps qs (after_piece at p) (opened_behind at opened p) r.cut.0 d e first moved in
    (ap₂ (λ x xs. x ∷ xs) same.0 h.0, h.1)

-- ---- one reading

pub one_writing : (ps : List Piece) (fs gs : Forms) → Writes start ps fs → Writes start ps gs → fs ≡ gs
one_writing ps fs gs w v = ap (λ b. b.items) (sym (written_is_built w [] none) ∙ written_is_built v [] none)

written_stops : (text : List ℕ) (fs : Forms) (w : IsWritten text fs) → ReadsUpTo start [] text w.pieces None
written_stops text fs w = record { rest = []; cut = w.cut; accepted = w.accepted; stops = (refl, w.closed) }

faulty_stops : (text : List ℕ) (r : Refusal) (f : IsFaulty text r) → ReadsUpTo start [] text f.pieces (Some r)
faulty_stops text r f = record { rest = f.rest; cut = f.cut; accepted = f.accepted; stops = f.refused }

some_same : {r s : Refusal} → ◌≡◌ {A = Option Refusal} (Some r) (Some s) → r ≡ s
some_same e = cc

pub one_reading_of : (text : List ℕ) (a b : Result Forms Refusal) → IsReading text a → IsReading text b → a ≡ b
one_reading_of text (Ok fs) (Ok gs) w v =
    let same = one_way w.pieces v.pieces start [] text None None (written_stops text fs w) (written_stops text gs v) in
    ap Ok (one_writing v.pieces fs gs (subst (λ ps. Writes start ps fs) same.0 w.writes) v.writes)
one_reading_of text (Ok fs) (Err r) w f = absurd (let e = (one_way w.pieces f.pieces start [] text None (Some r) (written_stops text fs w) (faulty_stops text r f)).1 in cc)
one_reading_of text (Err r) (Ok fs) f w = absurd (let e = (one_way f.pieces w.pieces start [] text (Some r) None (faulty_stops text r f) (written_stops text fs w)).1 in cc)
one_reading_of text (Err r) (Err s) f g = ap Err (some_same (one_way f.pieces g.pieces start [] text (Some r) (Some s) (faulty_stops text r f) (faulty_stops text s g)).1)

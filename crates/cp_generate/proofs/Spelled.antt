-- The text of the protocol and that of each problem spell their forms, wherever they stand.
use Rattle.std.proofs.Common.{◌≡◌, ℕ, zero, suc, ◌+◌, ◌%◌, ◌==◌, List, [], ◌∷◌, ◌++◌, map, Bool, true, false, if◌then◌else◌, refl, ap₂, subst}
use Rattle.std.specs.Fmt.{digits}
use Rattle.cp_base.specs.declared.place.Place.{Place}
use Rattle.cp_sexpr.proofs.Stacks.{built}
use Rattle.cp_sexpr.specs.Pieces.{Piece, IsTokenByte, BeginsWithout, IsCut, place_after, after_pieces}
use Rattle.cp_sexpr.specs.Spelling.{top_spelling}
use Rattle.cp_sexpr.specs.Syntax.{Form, Forms, none, more, append}
use Rattle.cp_sexpr.specs.UnfinishedForms.{with_pieces}
use Rattle.cp_sexpr.specs.Written.{AreAccepted}
use Rattle.cp_generate.specs.Generated.{protocol_text, initiator_problem_text, responder_problem_text, problem_text, problem_texts_from, generated_parts, protocol_form, initiator_problem, responder_problem, problem_form, problem_forms_from}
use Rattle.cp_generate.specs.Placed.{top_placed}
use Rattle.cp_generate.proofs.PlainPieces.{pieces_of, text_of, are_plain, are_cut, are_accepted}

-- The text is cut into pieces, none of them refused, that make this form with its places.
pub record Spells (text : List ℕ) (f : Form) : Type 0 where
  pub pieces : List Piece
  pub cut : (rest : List ℕ) → BeginsWithout IsTokenByte rest → IsCut (text ++ rest) pieces rest
  pub accepted : (here : Place) → AreAccepted here [] pieces
  pub made : (here : Place) (before : Forms) → with_pieces here (built [] before) pieces ≡ built [] (append before (more (top_placed here f) none))
  pub behind : (here : Place) → after_pieces here pieces ≡ place_after here (top_spelling f)

spells : (text : List ℕ) (f : Form) → text_of (pieces_of text) ≡ text → are_plain 0 (pieces_of text) ≡ true
    → ((here : Place) (before : Forms) → with_pieces here (built [] before) (pieces_of text) ≡ built [] (append before (more (top_placed here f) none)))
    → ((here : Place) → after_pieces here (pieces_of text) ≡ place_after here (top_spelling f)) → Spells text f
spells text f whole plain made behind = record {
  pieces = pieces_of text;
  cut = λ rest h. subst (λ t. IsCut (t ++ rest) (pieces_of text) rest) whole (are_cut (pieces_of text) 0 rest plain h);
  accepted = λ here. are_accepted (pieces_of text) 0 here [] plain refl;
  made = made;
  behind = behind;
}

pub protocol_spelled : Spells protocol_text protocol_form
protocol_spelled = spells protocol_text protocol_form refl refl (λ here before. refl) (λ here. refl)

initiator_spelled : Spells initiator_problem_text initiator_problem
unfolding digits
initiator_spelled = spells initiator_problem_text initiator_problem refl refl (λ here before. refl) (λ here. refl)

responder_spelled : Spells responder_problem_text responder_problem
unfolding digits
responder_spelled = spells responder_problem_text responder_problem refl refl (λ here before. refl) (λ here. refl)

spelled_by : (b : Bool) → Spells (if b then initiator_problem_text else responder_problem_text) (if b then initiator_problem else responder_problem)
spelled_by true = initiator_spelled
spelled_by false = responder_spelled

pub problem_spelled : (i : ℕ) → Spells (problem_text i) (problem_form i)
problem_spelled i = spelled_by (i % 2 == 0)

apart_by : (b : Bool) (rest : List ℕ) → BeginsWithout IsTokenByte ((if b then initiator_problem_text else responder_problem_text) ++ rest)
apart_by true rest = λ k. k.2 refl
apart_by false rest = λ k. k.2 refl

-- A word ends where a problem begins.
pub problem_apart : (i : ℕ) (rest : List ℕ) → BeginsWithout IsTokenByte (problem_text i ++ rest)
problem_apart i rest = apart_by (i % 2 == 0) rest

-- ---- the spelling itself

protocol_is : protocol_text ≡ top_spelling protocol_form
protocol_is = refl

problem_by : (b : Bool) → (if b then initiator_problem_text else responder_problem_text) ≡ top_spelling (if b then initiator_problem else responder_problem)
unfolding digits
problem_by true = refl
problem_by false = refl

problem_is : (i : ℕ) → problem_text i ≡ top_spelling (problem_form i)
problem_is i = problem_by (i % 2 == 0)

problems_are : (n i : ℕ) → problem_texts_from i n ≡ map top_spelling (problem_forms_from i n)
problems_are zero i = refl
problems_are (suc n) i = ap₂ (λ t ts. t ∷ ts) (problem_is i) (problems_are n (i + 1))

pub parts_spelled : (n : ℕ) → generated_parts n ≡ map top_spelling (protocol_form ∷ problem_forms_from 0 n)
parts_spelled n = ap₂ (λ t ts. t ∷ ts) protocol_is (problems_are n 0)

-- What the reader knows of a text as far as it has come.
use Rattle.std.proofs.Common.{◌≡◌, ℕ, ◌+◌, ◌≤◌, List, [], ◌∷◌, ◌++◌, length, Result, Ok, Err, refl, sym, ap, ap₂, ◌∙◌, subst, arith}
use Rattle.std.specs.Result.{IfOk}
use Rattle.cp_base.specs.declared.place.Place.{Place}
use Rattle.cp_base.specs.declared.place.Code.{Code}
use Rattle.cp_base.specs.declared.place.Refusal.{Refusal}
use Rattle.cp_sexpr.specs.Syntax.{Forms, none}
use Rattle.cp_sexpr.specs.Pieces.{Piece, blank, comment, opening, closing, quoted, token, BeginsWith, IsCut, start, after_piece, after_pieces}
use Rattle.cp_sexpr.specs.Reading.{IsRefused, by_piece, by_end, IsFaulty, IsErrorOf}
use Rattle.cp_sexpr.specs.Written.{Writes, opened_after, IsRefusedPiece, AreAccepted, IsWritten}
use Rattle.cp_sexpr.specs.UnfinishedForms.{Unfinished, Building, nothing_yet, with_piece, with_pieces, places_of_unclosed, RefusesPiece, RefusesEnd}
use Rattle.cp_sexpr.specs.declared.error.OrMemory.{OrMemory}
use Rattle.cp_sexpr.specs.declared.error.OrMemory.TheVariants.{Refused, Memory}
use Rattle.cp_sexpr.proofs.Stacks.{built}
use Rattle.cp_sexpr.proofs.Fronts.{IsCut-push, AreAccepted-push, after_pieces-append, after_pieces-line, after_pieces-col}
use Rattle.cp_sexpr.proofs.Grammar.{with_pieces-append, built_is_written}

-- the lists that are not closed yet are those that the pieces opened
pub places_of-with_pieces : (ps : List Piece) (at : Place) (ls : List Unfinished) (items : Forms) → opened_after at (places_of_unclosed ls) ps ≡ places_of_unclosed (with_pieces at (built ls items) ps).lists
places_of-with_pieces [] at ls items = refl
places_of-with_pieces (blank b ∷ ps) at ls items = places_of-with_pieces ps (after_piece at (blank b)) ls items
places_of-with_pieces (comment t ∷ ps) at ls items = places_of-with_pieces ps (after_piece at (comment t)) ls items
places_of-with_pieces (opening ∷ ps) at ls items = places_of-with_pieces ps (after_piece at opening) (record { place = at; before = items } ∷ ls) none
places_of-with_pieces (closing ∷ ps) at [] items = places_of-with_pieces ps (after_piece at closing) [] items
places_of-with_pieces (closing ∷ ps) at (l ∷ ls) items = places_of-with_pieces ps (after_piece at closing) ls _
places_of-with_pieces (quoted t ∷ ps) at ls items = places_of-with_pieces ps (after_piece at (quoted t)) ls _
places_of-with_pieces (token t ∷ ps) at ls items = places_of-with_pieces ps (after_piece at (token t)) ls _

-- The text up to this rest is pieces, none of them refused, that lead to this place and make this.
pub record ReadUpTo (text rest : List ℕ) (at : Place) (s : Building) : Type 0 where
  pub pieces : List Piece
  pub cut : IsCut text pieces rest
  pub accepted : AreAccepted start [] pieces
  pub place : after_pieces start pieces ≡ at
  pub made : with_pieces start nothing_yet pieces ≡ s

pub read_nothing : (text : List ℕ) → ReadUpTo text text start nothing_yet
read_nothing text = record { pieces = []; cut = refl; accepted = tt; place = refl; made = refl }

pub opened_so_far : (text rest : List ℕ) (at : Place) (s : Building) (r : ReadUpTo text rest at s) → opened_after start [] r.pieces ≡ places_of_unclosed s.lists
opened_so_far text rest at s r = places_of-with_pieces r.pieces start [] none ∙ ap (λ b. places_of_unclosed b.lists) r.made

pub read_piece : (text rest : List ℕ) (at : Place) (s : Building) (p : Piece) (after : List ℕ) (behind : Place) (t : Building) → ReadUpTo text rest at s → BeginsWith rest p after
    → ((code : Code) → IsRefusedPiece (places_of_unclosed s.lists) p code → ⊥) → behind ≡ after_piece at p → t ≡ with_piece at s p → ReadUpTo text after behind t
read_piece text rest at s p after behind t r b a e f = record {
  pieces = r.pieces ++ p ∷ [];
  cut = IsCut-push r.pieces text rest p after r.cut b;
  accepted = AreAccepted-push start [] r.pieces p r.accepted (subst (λ o. (code : Code) → IsRefusedPiece o p code → ⊥) (sym (opened_so_far text rest at s r)) a);
  place = after_pieces-append start r.pieces (p ∷ []) ∙ ap (λ q. after_piece q p) r.place ∙ sym e;
  made = with_pieces-append start nothing_yet r.pieces (p ∷ []) ∙ ap₂ (λ q b. with_piece q b p) r.place r.made ∙ sym f;
}

pub read_all : (text rest : List ℕ) (at : Place) (s : Building) → ReadUpTo text rest at s → rest ≡ [] → s.lists ≡ [] → IsWritten text s.items
read_all text rest at s r e closed =
    let whole = built_is_written r.pieces start [] none r.accepted (ap (λ b. b.lists) r.made ∙ closed) in
    record {
      pieces = r.pieces;
      cut = subst (IsCut text r.pieces) e r.cut;
      accepted = r.accepted;
      closed = opened_so_far text rest at s r ∙ ap places_of_unclosed closed;
      writes = subst (Writes start r.pieces) (sym whole.2 ∙ ap (λ b. b.items) r.made) whole.1;
    }

pub read_refused : (text rest : List ℕ) (at : Place) (s : Building) (f : Refusal) → ReadUpTo text rest at s → IsRefused at (places_of_unclosed s.lists) rest f → IsFaulty text f
read_refused text rest at s f r refused = record {
  pieces = r.pieces;
  rest = rest;
  cut = r.cut;
  accepted = r.accepted;
  refused = subst (λ q. IsRefused q (opened_after start [] r.pieces) rest f) (sym r.place) (subst (λ o. IsRefused at o rest f) (sym (opened_so_far text rest at s r)) refused);
}

pub read_piece_refused : (text rest : List ℕ) (at : Place) (s : Building) (p : Piece) (after : List ℕ) (e : OrMemory Refusal) → ReadUpTo text rest at s → BeginsWith rest p after
    → RefusesPiece at (places_of_unclosed s.lists) p e → IsErrorOf text e
read_piece_refused text rest at s p after (Refused f) r b h = read_refused text rest at s f r (by_piece p after f.code b h.0 h.1)
read_piece_refused text rest at s p after Memory r b h = tt

pub read_end_refused : (text rest : List ℕ) (at : Place) (s : Building) (e : OrMemory Refusal) → ReadUpTo text rest at s → rest ≡ [] → RefusesEnd s.lists e → IsErrorOf text e
read_end_refused text rest at s (Refused f) r end h = read_refused text rest at s f r (by_end h.0.place (places_of_unclosed h.1) end (ap places_of_unclosed h.2) h.3)
read_end_refused text rest at s Memory r end h = absurd h

pub read_line : (text rest : List ℕ) (at : Place) (s : Building) → ReadUpTo text rest at s → at.line + length rest ≤ 1 + length text
read_line text rest at s r = let h = after_pieces-line r.pieces start text rest r.cut in let e = ap (λ q. q.line) r.place in omega arith

pub read_col : (text rest : List ℕ) (at : Place) (s : Building) → ReadUpTo text rest at s → at.col + length rest ≤ 1 + length text
read_col text rest at s r = let h = after_pieces-col r.pieces start text rest r.cut in let e = ap (λ q. q.col) r.place in omega arith

pub IfOk-both : {X E : Type 0} (r : Result X E) (P Q R : X → Type 0) → ((x : X) → P x → Q x → R x) → IfOk r P → IfOk r Q → IfOk r R
IfOk-both (Ok x) P Q R f p q = f x p q
IfOk-both (Err e) P Q R f p q = tt

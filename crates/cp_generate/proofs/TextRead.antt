-- The text is read as its forms.
use Rattle.std.proofs.Common.{ℕ, zero, suc, ◌+◌, List, [], ◌++◌, refl, sym, ap, ap₂, ◌∙◌, subst}
use Rattle.std.specs.List.{concat}
use Rattle.cp_base.specs.declared.place.Place.{Place}
use Rattle.cp_sexpr.proofs.Fronts.{IsCut-append, AreAccepted-append, after_pieces-append}
use Rattle.cp_sexpr.proofs.Grammar.{with_pieces-append}
use Rattle.cp_sexpr.proofs.Readings.{ReadUpTo, read_nothing, read_all, opened_so_far}
use Rattle.cp_sexpr.proofs.Stacks.{append-none, append-append, built}
use Rattle.cp_sexpr.specs.Pieces.{IsTokenByte, BeginsWithout, start, place_after, after_pieces}
use Rattle.cp_sexpr.specs.Spelling.{top_spelling}
use Rattle.cp_sexpr.specs.Syntax.{Form, Forms, none, more, append, forms_of}
use Rattle.cp_sexpr.specs.UnfinishedForms.{nothing_yet, with_pieces}
use Rattle.cp_sexpr.specs.Written.{AreAccepted, IsWritten}
use Rattle.cp_generate.specs.Generated.{protocol_text, protocol_form, problem_text, problem_texts_from, generated_text, problem_form, problem_forms_from, generated_forms}
use Rattle.cp_generate.specs.Placed.{top_placed, all_placed}
use Rattle.cp_generate.proofs.Spelled.{Spells, protocol_spelled, problem_spelled, problem_apart}

-- One more form is read.
read_form : (t : List ℕ) (f : Form) (s : Spells t f) (text rest : List ℕ) (here : Place) (before : Forms) → ReadUpTo text (t ++ rest) here (built [] before) → BeginsWithout IsTokenByte rest
    → ReadUpTo text rest (place_after here (top_spelling f)) (built [] (append before (more (top_placed here f) none)))
read_form t f s text rest here before r apart =
    let none_open = opened_so_far text (t ++ rest) here (built [] before) r in
    let at_its_place = subst (λ p. AreAccepted p [] s.pieces) (sym r.place) (s.accepted here) in
    record {
      pieces = r.pieces ++ s.pieces;
      cut = IsCut-append r.pieces text (t ++ rest) s.pieces rest r.cut (s.cut rest apart);
      accepted = AreAccepted-append start [] r.pieces s.pieces r.accepted (subst (λ o. AreAccepted (after_pieces start r.pieces) o s.pieces) (sym none_open) at_its_place);
      place = after_pieces-append start r.pieces s.pieces ∙ ap (λ p. after_pieces p s.pieces) r.place ∙ s.behind here;
      made = with_pieces-append start nothing_yet r.pieces s.pieces ∙ ap₂ (λ p b. with_pieces p b s.pieces) r.place r.made ∙ s.made here before;
    }

problems_apart : (n i : ℕ) → BeginsWithout IsTokenByte (concat (problem_texts_from i n))
problems_apart zero i = tt
problems_apart (suc n) i = problem_apart i (concat (problem_texts_from (i + 1) n))

problems_read : (n i : ℕ) (text : List ℕ) (here : Place) (before : Forms) → ReadUpTo text (concat (problem_texts_from i n)) here (built [] before)
    → IsWritten text (append before (forms_of (all_placed here (problem_forms_from i n))))
problems_read zero i text here before r = subst (IsWritten text) (sym (append-none before)) (read_all text [] here (built [] before) r refl refl)
problems_read (suc n) i text here before r =
    let f = problem_form i in
    let behind = place_after here (top_spelling f) in
    let one = more (top_placed here f) none in
    let next = read_form (problem_text i) f (problem_spelled i) text (concat (problem_texts_from (i + 1) n)) here before r (problems_apart n (i + 1)) in
    subst (IsWritten text) (append-append before one (forms_of (all_placed behind (problem_forms_from (i + 1) n)))) (problems_read n (i + 1) text behind (append before one) next)

pub text_read : (n : ℕ) → IsWritten (generated_text n) (generated_forms n)
text_read n =
    let text = generated_text n in
    problems_read n 0 text (place_after start (top_spelling protocol_form)) (more (top_placed start protocol_form) none)
    (read_form protocol_text protocol_form protocol_spelled text (concat (problem_texts_from 0 n)) start none (read_nothing text) (problems_apart n 0))

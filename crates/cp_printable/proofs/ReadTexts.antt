-- A text of proper forms gives these forms, where it can be read.
use Rattle.std.proofs.Common.{◌≡◌, ℕ, List, [], refl, ap, ◌∙◌, subst, arith, append-nil, Result, Ok}
use Rattle.cp_base.specs.declared.place.Refusal.{Refusal}
use Rattle.cp_sexpr.specs.Syntax.{Form, symbol, string, number, list, Forms, none, more}
use Rattle.cp_sexpr.specs.Pieces.{IsCut, start}
use Rattle.cp_sexpr.specs.Reading.{IsReading}
use Rattle.cp_sexpr.specs.Written.{AreAccepted}
use Rattle.cp_sexpr.specs.ReadBack.{IsSpellable, AreSpellable, all_unplaced, top_spellings, ReadsAs}
use Rattle.cp_sexpr.proofs.Given.{read_is_spellable}
use Rattle.cp_sexpr.proofs.ReadBack.{top_forms_read_back}
use Rattle.cp_sexpr.proofs.Unique.{one_reading_of}
use Rattle.cp_printable.specs.Proper.{IsProper, AreProper, HasShortNumbers, HaveShortNumbers, AreWithinBounds}
use Rattle.cp_printable.proofs.Cuts.{one_cut, of_top_forms}

-- ---- proper forms within bounds are spellable, and the other way round

mutual
  join : (f : Form) → IsProper f → HasShortNumbers f → IsSpellable f
  join (symbol p t) proper short = proper
  join (string p t) proper short = proper
  join (number p n) proper short = short
  join (list p fs) proper short = join_all fs proper short

  join_all : (fs : Forms) → AreProper fs → HaveShortNumbers fs → AreSpellable fs
  join_all none proper short = tt
  join_all (more f fs) proper short = (join f proper.0 short.0, join_all fs proper.1 short.1)

mutual
  split : (f : Form) → IsSpellable f → IsProper f × HasShortNumbers f
  split (symbol p t) s = (s, tt)
  split (string p t) s = (s, tt)
  split (number p n) s = (tt, s)
  split (list p fs) s = split_all fs s

  split_all : (fs : Forms) → AreSpellable fs → AreProper fs × HaveShortNumbers fs
  split_all none s = (tt, tt)
  split_all (more f fs) s = let x = split f s.0 in let y = split_all fs s.1 in ((x.0, y.0), (x.1, y.1))

pub spellable : (fs : Forms) → AreProper fs → AreWithinBounds fs → AreSpellable fs
spellable fs proper within = join_all fs proper within.numbers

pub read_is_proper : (text : List ℕ) (fs : Forms) → IsReading text (Ok fs) → AreProper fs × AreWithinBounds fs
read_is_proper text fs reading =
    let h = read_is_spellable text fs reading in
    let s = split_all fs h.0 in
    (s.0, record { numbers = s.1; depth = h.1 })

-- ---- texts of proper forms

pub within_bounds : (fs read : Forms) → AreProper fs → IsReading (top_spellings fs) (Ok read) → AreWithinBounds fs
within_bounds fs read proper reading =
    let h = of_top_forms fs proper in
    let cut : IsCut (top_spellings fs) h.pieces [] = subst (λ t. IsCut t h.pieces []) (append-nil (top_spellings fs)) (h.cut [] tt) in
    let accepted : AreAccepted start [] h.pieces = subst (AreAccepted start []) (one_cut reading.pieces h.pieces (top_spellings fs) reading.cut cut) reading.accepted in
    let bounds = h.bounds start [] (omega arith) accepted in
    record { numbers = bounds.0; depth = omega (arith, bounds.1) }

pub can_be_read : (fs : Forms) → AreProper fs → AreWithinBounds fs → ReadsAs (top_spellings fs) fs
can_be_read fs proper within = top_forms_read_back fs (spellable fs proper within) within.depth

same_forms : (fs gs : Forms) (a b : Result Forms Refusal) → a ≡ Ok fs → b ≡ Ok gs → a ≡ b → fs ≡ gs
same_forms fs gs a b is also e = cc

pub read_as_they_are : (fs read : Forms) → AreProper fs → IsReading (top_spellings fs) (Ok read) → all_unplaced read ≡ all_unplaced fs
read_as_they_are fs read proper reading =
    let can = can_be_read fs proper (within_bounds fs read proper reading) in
    ap all_unplaced (same_forms read can.0 (Ok read) (Ok can.0) refl refl (one_reading_of (top_spellings fs) (Ok read) (Ok can.0) reading can.1)) ∙ can.2

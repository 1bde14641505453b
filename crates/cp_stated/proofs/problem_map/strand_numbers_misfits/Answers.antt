use Rattle.std.proofs.Common.{length, sym, ap, ◌∙◌, arith, ltb-true}
use Rattle.std.proofs.lemmas.Bool.{ltb-false}
use Rattle.cp_report.specs.Misfits.{misfit}
use Rattle.cp_spelled.specs.FirstMisfit.{first_onto}
use Rattle.cp_stated.proofs.NumberedLists.{number-taken, number-too-many, numbers-done}
use Rattle.cp_stated.proofs.problem_map.strand_numbers_misfits.Goals as goal

pub returns-then-not-has_strand : goal.returns-then-not-has_strand
returns-then-not-has_strand c =
    number-too-many c.args.problem.now c.args.strands.now c.args.place c.args.items.now c.loop-number.number c.index-items-number.result c.loop-number-test.true c.index-items-number.is
    (ltb-false c.loop-number.number (length c.args.problem.now) (sym c.has_strand.ensures ∙ c.if-not-has_strand.true)) c.loop-number.first c.note.new.self _ (c.note.ensures ∙ ap (λ at. first_onto c.loop-number.first (misfit at)) c.place_of.ensures) c.loop-number.invariant.0

pub loop-number-preserved : goal.loop-number-preserved
loop-number-preserved c = (
  number-taken c.args.problem.now c.args.strands.now c.args.place c.args.items.now c.loop-number.number c.index-items-number.result c.loop-number-test.true c.index-items-number.is
      (ltb-true c.loop-number.number (length c.args.problem.now) (sym c.has_strand.ensures ∙ c.if-not-has_strand.false)) c.loop-number.first c.strand_number_misfits.new.first _ c.strand_number_misfits.ensures c.loop-number.invariant.0,
  omega (arith, c.loop-number-test.true),
)

pub returns : goal.returns
returns c =
    numbers-done c.args.problem.now c.args.strands.now c.args.place c.args.items.now c.loop-number.number c.loop-number-test.false c.loop-number.invariant.1
    c.has_strand-2.result c.has_strand-2.ensures c.loop-number.first c.note_unless.new.self _ c.note_unless.ensures c.loop-number.invariant.0

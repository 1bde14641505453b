use Rattle.std.proofs.Common.{sym, ap, ◌∙◌, arith}
use Rattle.cp_model.specs.Strand.{variables_of_trace}
use Rattle.cp_term.specs.Size.{term_size}
use Rattle.cp_pattern.proofs.AllWithin.{not_left, left_too, not_key, key_too}
use Rattle.cp_pattern.proofs.within.+all_within.Goals as goal

pub returns-then-not-all_within : goal.returns-then-not-all_within
returns-then-not-all_within t c =
    not_left c.args.locals.now (variables_of_trace c.args.events.now) c.args.term.now c.loop-id.rest.now c.loop-id.invariant.0 c.in-Pair.left.now c.in-Pair.right.now c.in-Pair.ensures
    (sym c.if-not-all_within.true ∙ c.all_within.ensures)

pub loop-id-preserved-in-Pair : goal.loop-id-preserved-in-Pair
loop-id-preserved-in-Pair t c =
    let size = ap term_size c.in-Pair.ensures in (
      left_too c.args.locals.now (variables_of_trace c.args.events.now) c.args.term.now c.loop-id.rest.now c.loop-id.invariant.0 c.in-Pair.left.now c.in-Pair.right.now c.in-Pair.ensures
          (sym c.if-not-all_within.false ∙ c.all_within.ensures),
      omega (arith, size, c.loop-id.invariant.1),
    )

pub returns-then-not-all_within-2 : goal.returns-then-not-all_within-2
returns-then-not-all_within-2 t c =
    not_key c.args.locals.now (variables_of_trace c.args.events.now) c.args.term.now c.loop-id.rest.now c.loop-id.invariant.0 c.in-Encryption.body.now c.in-Encryption.key.now c.in-Encryption.ensures
    (sym c.if-not-all_within-2.true ∙ c.all_within-in-Encryption.ensures)

pub loop-id-preserved : goal.loop-id-preserved
loop-id-preserved t c =
    let size = ap term_size c.in-Encryption.ensures.2 in (
      key_too c.args.locals.now (variables_of_trace c.args.events.now) c.args.term.now c.loop-id.rest.now c.loop-id.invariant.0 c.in-Encryption.body.now c.in-Encryption.key.now c.in-Encryption.ensures
          (sym c.if-not-all_within-2.false ∙ c.all_within-in-Encryption.ensures),
      omega (arith, size, c.loop-id.invariant.1),
    )

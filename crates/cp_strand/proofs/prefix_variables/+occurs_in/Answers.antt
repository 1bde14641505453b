use Rattle.std.proofs.Common.{sym, ap, ◌∙◌, arith}
use Rattle.cp_term.specs.Size.{term_size}
use Rattle.cp_strand.proofs.Occurrences.{in_left, not_in_left, in_key, not_in_key, absent}
use Rattle.cp_strand.proofs.prefix_variables.+occurs_in.Goals as goal

pub returns-then-not-may_have : goal.returns-then-not-may_have
returns-then-not-may_have t c =
    absent (record { sort = c.args.sort; number = c.args.id }) c.args.term.now c.rest.rest.now c.rest.invariant.0 c.may_have.result c.may_have.ensures c.if-not-may_have.true

pub returns-then-occurs_in : goal.returns-then-occurs_in
returns-then-occurs_in t c =
    in_left (record { sort = c.args.sort; number = c.args.id }) c.args.term.now c.rest.rest.now c.rest.invariant.0 c.in-Pair.left.now c.in-Pair.right.now c.in-Pair.ensures (sym c.if-occurs_in.true ∙ c.occurs_in.ensures)

pub rest-preserved-in-Pair : goal.rest-preserved-in-Pair
rest-preserved-in-Pair t c =
    let size = ap term_size c.in-Pair.ensures in (
      not_in_left (record { sort = c.args.sort; number = c.args.id }) c.args.term.now c.rest.rest.now c.rest.invariant.0 c.in-Pair.left.now c.in-Pair.right.now c.in-Pair.ensures (sym c.if-occurs_in.false ∙ c.occurs_in.ensures),
      omega (arith, size, c.rest.invariant.1),
    )

pub returns-then-occurs_in-2 : goal.returns-then-occurs_in-2
returns-then-occurs_in-2 t c =
    in_key (record { sort = c.args.sort; number = c.args.id }) c.args.term.now c.rest.rest.now c.rest.invariant.0 c.in-Encryption.body.now c.in-Encryption.key.now c.in-Encryption.ensures (sym c.if-occurs_in-2.true ∙ c.occurs_in-in-Encryption.ensures)

pub rest-preserved : goal.rest-preserved
rest-preserved t c =
    let size = ap term_size c.in-Encryption.ensures.2 in (
      not_in_key (record { sort = c.args.sort; number = c.args.id }) c.args.term.now c.rest.rest.now c.rest.invariant.0 c.in-Encryption.body.now c.in-Encryption.key.now c.in-Encryption.ensures (sym c.if-occurs_in-2.false ∙ c.occurs_in-in-Encryption.ensures),
      omega (arith, size, c.rest.invariant.1),
    )

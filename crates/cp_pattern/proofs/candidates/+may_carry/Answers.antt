use Rattle.std.proofs.Common.{sym, ap, ◌∙◌, arith}
use Rattle.cp_term.specs.Size.{term_size}
use Rattle.cp_pattern.specs.Candidates.{may_equal}
use Rattle.cp_pattern.proofs.CandidateParts.{carries_here, left_carries, right_left, plaintext_left}
use Rattle.cp_pattern.proofs.candidates.+may_carry.Goals as goal

pub returns-then-is_candidate : goal.returns-then-is_candidate
returns-then-is_candidate t c =
    carries_here (may_equal c.args.critical.now) c.args.whole.now c.rest.rest.now c.rest.invariant.0 (sym c.if-is_candidate.true ∙ c.is_candidate.ensures)

pub returns-then-may_carry : goal.returns-then-may_carry
returns-then-may_carry t c =
    left_carries (may_equal c.args.critical.now) c.args.whole.now c.rest.rest.now c.rest.invariant.0 (sym c.if-is_candidate.false ∙ c.is_candidate.ensures)
    c.in-Pair.left.now c.in-Pair.right.now c.in-Pair.ensures (sym c.if-may_carry.true ∙ c.may_carry.ensures)

pub rest-preserved-in-Pair : goal.rest-preserved-in-Pair
rest-preserved-in-Pair t c =
    let size = ap term_size c.in-Pair.ensures in (
      right_left (may_equal c.args.critical.now) c.args.whole.now c.rest.rest.now c.rest.invariant.0 (sym c.if-is_candidate.false ∙ c.is_candidate.ensures)
          c.in-Pair.left.now c.in-Pair.right.now c.in-Pair.ensures (sym c.if-may_carry.false ∙ c.may_carry.ensures),
      omega (arith, size, c.rest.invariant.1),
    )

pub rest-preserved : goal.rest-preserved
rest-preserved t c =
    let size = ap term_size c.in-Encryption.ensures.2 in (
      plaintext_left (may_equal c.args.critical.now) c.args.whole.now c.rest.rest.now c.rest.invariant.0 (sym c.if-is_candidate.false ∙ c.is_candidate.ensures)
          c.in-Encryption.body.now c.in-Encryption.ensures.0 c.in-Encryption.ensures.2,
      omega (arith, size, c.rest.invariant.1),
    )

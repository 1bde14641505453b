use Rattle.std.proofs.Common.{ap, arith, ◌∙◌, ◌≡◌}
use Rattle.cp_collapse.specs.Partitions.{lowest_before}
use Rattle.cp_model.proofs.CarriedParts.{not_both}
use Rattle.cp_collapse.proofs.Places.{count_own, count_other}
use Rattle.cp_collapse.proofs.block_places.lowest_within.Goals as goal

pub loop-strand-preserved-then-not-is_lowest : goal.loop-strand-preserved-then-not-is_lowest
loop-strand-preserved-then-not-is_lowest c =
    let below = c.loop-strand-test.true in
    let in_list = c.requires in
    let le = c.loop-strand.invariant.1 in (
      count_other c.args.lowest.now c.loop-strand.strand c.loop-strand.count (omega (arith, below, in_list)) c.loop-strand.invariant.0 (λ e. not_both c.if-not-is_lowest.true (c.is_lowest.ensures.1 e)),
      omega (arith, le),
      omega (arith, below),
    )

pub loop-strand-preserved : goal.loop-strand-preserved
loop-strand-preserved c =
    let below = c.loop-strand-test.true in
    let le = c.loop-strand.invariant.1 in (
      count_own c.args.lowest.now c.loop-strand.strand c.loop-strand.count c.loop-strand.invariant.0 (c.is_lowest.ensures.0 c.if-not-is_lowest.false),
      omega (arith, le),
      omega (arith, below),
    )

pub returns-clause-count : goal.returns-clause-count
returns-clause-count c =
    let le = c.loop-strand.invariant.2 in
    let done = c.loop-strand-test.false in
    let all : c.loop-strand.strand ≡ c.args.end = omega (arith, le, done) in
    c.loop-strand.invariant.0 ∙ ap (lowest_before c.args.lowest.now) all

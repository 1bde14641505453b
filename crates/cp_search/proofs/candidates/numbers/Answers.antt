use Rattle.std.proofs.Common.{map, refl}
use Rattle.cp_search.specs.Candidates.{open_from}
use Rattle.cp_search.proofs.Opened.{passed_here, counted_here}
use Rattle.cp_search.proofs.candidates.numbers.Goals as goal

pub loop-number-preserved-then-not-is_open : goal.loop-number-preserved-then-not-is_open
loop-number-preserved-then-not-is_open c =
    passed_here (λ x. x.number) c.args.made.now c.args.settled.now c.loop-number.number (map (λ x. x.number) (open_from 0 c.args.made.now c.args.settled.now)) c.index-settled-number.result c.loop-number-test.true c.index-settled-number.is c.requires
    c.is_open.result c.is_open.ensures c.if-not-is_open.true c.loop-number.numbers.items c.loop-number.invariant

pub loop-number-preserved : goal.loop-number-preserved
loop-number-preserved c =
    counted_here (λ x. x.number) c.args.made.now c.args.settled.now c.loop-number.number (map (λ x. x.number) (open_from 0 c.args.made.now c.args.settled.now)) c.index-settled-number.result c.loop-number-test.true c.index-settled-number.is c.requires
    c.is_open.result c.is_open.ensures c.loop-number.number (λ m. refl) c.if-not-is_open.false c.loop-number.numbers.items c.push.new.self.items c.in_ok-push.ensures.items c.loop-number.invariant

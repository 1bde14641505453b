use Rattle.std.proofs.Common.{sym}
use Rattle.cp_skel.proofs.NumbersWithout.{one_less, renumbered_below}
use Rattle.cp_skel.proofs.new_numbers.renumbered.Goals as goal

pub returns-then-gone-strand : goal.returns-then-gone-strand
returns-then-gone-strand c = one_less c.args.gone c.args.strand c.if-gone-strand.true

pub returns-else-gone-strand : goal.returns-else-gone-strand
returns-else-gone-strand c = sym (renumbered_below c.args.gone c.args.strand c.if-gone-strand.false)

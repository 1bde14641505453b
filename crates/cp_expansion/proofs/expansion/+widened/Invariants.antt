use Rattle.std.proofs.Common.{◌-◌, length}
use Rattle.cp_expansion.proofs.expansion.+widened.Given as goal

abbrev pub decreases-widened : goal.decreases-widened
decreases-widened l = 32 - length l.patterns.items

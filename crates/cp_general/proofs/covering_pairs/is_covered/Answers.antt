use Rattle.std.proofs.Common.{sym, ◌∙◌}
use Rattle.cp_general.proofs.LedBelow.{covered_by, first_says, second_says}
use Rattle.cp_general.proofs.covering_pairs.is_covered.Goals as goal

pub returns-then-leads_below : goal.returns-then-leads_below
returns-then-leads_below c = first_says _ _ _ (covered_by c.args.pairs.now c.args.pair) (sym c.leads_below.ensures ∙ c.if-leads_below.true)

pub returns : goal.returns
returns c = c.is_below_last.ensures ∙ second_says _ _ _ (covered_by c.args.pairs.now c.args.pair) (sym c.leads_below.ensures ∙ c.if-leads_below.false)

use Rattle.std.proofs.Common.{sym, subst, ◌∙◌}
use Rattle.cp_model.proofs.SameTests.{node_is}
use Rattle.cp_general.specs.Needed.{IsLedTo}
use Rattle.cp_general.proofs.needed.leads_to.Goals as goal

pub returns-in-Strand : goal.returns-in-Strand
returns-in-Strand c = λ t. subst (λ p. IsLedTo p c.args.node) (sym c.in-Strand.is) (c.leads_from.ensures t)

pub returns-in-Pair : goal.returns-in-Pair
returns-in-Pair c = λ t. subst (λ p. IsLedTo p c.args.node) (sym c.in-Pair.is) (node_is c.args.node c.in-Pair.pair.later (sym c.eq.ensures ∙ t))

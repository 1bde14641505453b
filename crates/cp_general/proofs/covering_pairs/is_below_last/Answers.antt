use Rattle.std.proofs.Common.{rules, tests, sym, ◌∙◌, ◌&&◌}
use Rattle.std.proofs.lemmas.Iterator.{YieldsList-from_slice}
use Rattle.std.proofs.lemmas.Iterator.Search.{any_from_yields_List}
use Rattle.cp_model.specs.Same.{same_node}
use Rattle.cp_model.specs.declared.node.OrderPair.{OrderPair}
use Rattle.cp_general.specs.CoveringPairs.{is_earlier_on_strand}
use Rattle.cp_general.proofs.LedBelow.{below_last, last_says, others_say}
use Rattle.cp_general.proofs.covering_pairs.is_below_last.Goals as goal

pub returns-then-is_below : goal.returns-then-is_below
returns-then-is_below c = last_says _ _ _ (below_last c.args.pairs.now c.args.node c.args.last) (sym c.is_below.ensures ∙ c.if-is_below.true)

pub returns : goal.returns
returns c =
    any_from_yields_List (λ (p : OrderPair). same_node p.later c.args.last && is_earlier_on_strand c.args.node p.earlier) _ _ _ c.any.ensures.ran (YieldsList-from_slice c.args.pairs.now cc) (λ x b q k. search (rules, tests))
    ∙ others_say _ _ _ (below_last c.args.pairs.now c.args.node c.args.last) (sym c.is_below.ensures ∙ c.if-is_below.false)

use Rattle.std.proofs.Common.{rules, tests, sym, ◌∙◌, ◌&&◌}
use Rattle.std.proofs.lemmas.Iterator.{YieldsList-from_slice}
use Rattle.std.proofs.lemmas.Iterator.Search.{any_from_yields_List}
use Rattle.cp_model.specs.Same.{same_node}
use Rattle.cp_model.specs.declared.node.OrderPair.{OrderPair}
use Rattle.cp_general.specs.CoveringPairs.{lasts_of, is_below_one}
use Rattle.cp_general.proofs.LedBelow.{some_led}
use Rattle.cp_general.proofs.covering_pairs.leads_below.Goals as goal

pub returns : goal.returns
returns c =
    any_from_yields_List (λ (p : OrderPair). same_node p.earlier c.args.node && is_below_one p.later (lasts_of c.args.pairs.now c.args.last)) _ _ _ c.any.ensures.ran (YieldsList-from_slice c.args.pairs.now cc) (λ x b q k. search (rules, tests))
    ∙ sym (some_led c.args.pairs.now c.args.node (lasts_of c.args.pairs.now c.args.last))

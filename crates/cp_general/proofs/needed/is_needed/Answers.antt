use Rattle.std.proofs.Common.{sym, ◌∙◌}
use Rattle.cp_lists.proofs.Members.{item_is_in}
use Rattle.cp_model.specs.declared.strand.Event.TheVariants.{Receive as recv}
use Rattle.cp_general.proofs.NeededParts.{there_received, needed_if}
use Rattle.cp_general.proofs.needed.is_needed.Goals as goal

pub known_apart-requires-clause-there : goal.known_apart-requires-clause-there
known_apart-requires-clause-there c =
    let o = c.located-item.result in (
      recv c.in-Receive.message,
      there_received c.args.k.now c.args.events.now o c.node-node.result c.in-Receive.message c.requires.events
          (item_is_in c.args.events.now c.loop-located.located-index o c.loop-located-test.true c.located-item.is) c.node-node.ensures (sym c.event.ensures ∙ c.in-Receive.is),
    )

pub returns-then-not-buildable : goal.returns-then-not-buildable
returns-then-not-buildable c =
    let o = c.located-item.result in
    λ _. needed_if c.args.part c.args.k.now c.node-node.result c.in-Receive.message c.in_ok-known.known c.buildable.result
    (there_received c.args.k.now c.args.events.now o c.node-node.result c.in-Receive.message c.requires.events
    (item_is_in c.args.events.now c.loop-located.located-index o c.loop-located-test.true c.located-item.is) c.node-node.ensures (sym c.event.ensures ∙ c.in-Receive.is))
    (c.leads_to.ensures c.if-not-leads_to.false) c.in_ok-known.ensures c.buildable.ensures.exact c.if-not-buildable.true

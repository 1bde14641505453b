use Rattle.std.proofs.Common.{rules, length, sym, ◌∙◌}
use Rattle.cp_model.specs.Skeleton.{term_event_at}
use Rattle.cp_model.specs.OrderTests.{reaches_within}
use Rattle.cp_language.specs.Problems.{is_known, on_one_strand}
use Rattle.cp_load.proofs.Cycles.{order-searched}
use Rattle.cp_lists.proofs.Collected.{if_mapped}
use Rattle.cp_stated.proofs.Among.{on-one-strand, not-there, led-to}
use Rattle.cp_stated.proofs.images.is_in_order.Goals as goal

pub returns-then-is_on_one_strand : goal.returns-then-is_on_one_strand
returns-then-is_on_one_strand c =
    let p = c.args.pair in
    on-one-strand (on_one_strand p) (is_known (term_event_at c.args.strands.now p.later)) (reaches_within (length c.args.pairs.now) c.args.pairs.now p.earlier p.later)
    (sym c.is_on_one_strand.ensures ∙ c.if-is_on_one_strand.true)

pub returns-then-not-is_there : goal.returns-then-not-is_there
returns-then-not-is_there c =
    let p = c.args.pair in
    not-there (on_one_strand p) (is_known (term_event_at c.args.strands.now p.later)) (reaches_within (length c.args.pairs.now) c.args.pairs.now p.earlier p.later)
    (sym c.is_there.ensures ∙ c.if-not-is_there.true)

pub returns : goal.returns
returns c =
    let p = c.args.pair in
    let a = on_one_strand p in
    let b = is_known (term_event_at c.args.strands.now p.later) in
    let r = reaches_within (length c.args.pairs.now) c.args.pairs.now p.earlier p.later in
    if_mapped c.new.result c.map.result (λ leading answer gathered k.
    order-searched c.args.pairs.now p.earlier p.later leading answer gathered (search rules)
    ∙ led-to a b r (sym c.is_on_one_strand.ensures ∙ c.if-is_on_one_strand.false) (sym c.is_there.ensures ∙ c.if-not-is_there.false)) c.new.ensures c.map.ensures.cases

use Rattle.std.proofs.Common.{rules, ◌≡◌, length, not, sym, ap, ◌∙◌}
use Rattle.std.specs.Prelude.{nat_le}
use Rattle.std.proofs.lemmas.Bool.{cond-false}
use Rattle.cp_model.specs.OrderTests.{reaches_within}
use Rattle.cp_language.specs.Problems.{on_one_strand}
use Rattle.cp_lists.proofs.Collected.{if_mapped}
use Rattle.cp_stated.proofs.Further.{no-transmission, no-reception, one-strand, stood-before, way-back}
use Rattle.cp_stated.proofs.order.is_further.Goals as goal

pub returns-then-not-is_transmission : goal.returns-then-not-is_transmission
returns-then-not-is_transmission c = no-transmission c.args.before.strands.now c.args.before.pairs.now c.args.pair (sym c.is_transmission.ensures ∙ c.if-not-is_transmission.true)

pub returns-then-not-is_reception : goal.returns-then-not-is_reception
returns-then-not-is_reception c = no-reception c.args.before.strands.now c.args.before.pairs.now c.args.pair (sym c.is_reception.ensures ∙ c.if-not-is_reception.true)

pub returns-then-is_on_one_strand : goal.returns-then-is_on_one_strand
returns-then-is_on_one_strand c = one-strand c.args.before.strands.now c.args.before.pairs.now c.args.pair (sym c.is_on_one_strand.ensures ∙ c.if-is_on_one_strand.true)

pub returns-then-has_pair : goal.returns-then-has_pair
returns-then-has_pair c = stood-before c.args.before.strands.now c.args.before.pairs.now c.args.pair (sym c.has_pair.ensures ∙ c.if-has_pair.true)

pub returns : goal.returns
returns c =
    let ps = c.args.before.pairs.now in
    let p = c.args.pair in
    let other = sym c.is_on_one_strand.ensures ∙ c.if-is_on_one_strand.false in
    if_mapped c.closes_cycle.result c.map.result (λ closes answer closed k.
    let is : answer ≡ not closes = search rules in
    is ∙ ap not (closed ∙ cond-false (on_one_strand p) (nat_le p.later.index p.earlier.index) (reaches_within (length ps) ps p.later p.earlier) other)
    ∙ way-back c.args.before.strands.now ps p (sym c.is_transmission.ensures ∙ c.if-not-is_transmission.false) (sym c.is_reception.ensures ∙ c.if-not-is_reception.false)
    other (sym c.has_pair.ensures ∙ c.if-has_pair.false)) c.closes_cycle.ensures c.map.ensures.cases

pub closes_cycle-requires : goal.closes_cycle-requires
closes_cycle-requires c = c.requires

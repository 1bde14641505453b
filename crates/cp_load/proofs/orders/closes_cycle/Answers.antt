use Rattle.std.proofs.Common.{rules, sym, ◌∙◌}
use Rattle.cp_lists.proofs.Collected.{if_mapped}
use Rattle.cp_load.proofs.Cycles.{cycle-searched, no-way-from, no-way-to}
use Rattle.cp_load.proofs.NoCycles.{known-acyclic}
use Rattle.cp_load.proofs.orders.closes_cycle.Goals as goal

pub returns-then-acyclic : goal.returns-then-acyclic
returns-then-acyclic c =
    known-acyclic c.args.before.now c.args.pair c.args.acyclic (sym c.is_on_one_strand.ensures ∙ c.if-is_on_one_strand.false) c.if-acyclic.true c.requires

pub returns-then-not-some_begins_behind : goal.returns-then-not-some_begins_behind
returns-then-not-some_begins_behind c =
    no-way-from c.args.before.now c.args.pair (sym c.is_on_one_strand.ensures ∙ c.if-is_on_one_strand.false) (sym c.some_begins_behind.ensures ∙ c.if-not-some_begins_behind.true)

pub returns-then-not-some_ends_before : goal.returns-then-not-some_ends_before
returns-then-not-some_ends_before c =
    no-way-to c.args.before.now c.args.pair (sym c.is_on_one_strand.ensures ∙ c.if-is_on_one_strand.false) (sym c.some_ends_before.ensures ∙ c.if-not-some_ends_before.true)

pub returns : goal.returns
returns c =
    if_mapped c.new.result c.map.result (λ leading answer gathered k.
    cycle-searched c.args.before.now c.args.pair leading answer (sym c.is_on_one_strand.ensures ∙ c.if-is_on_one_strand.false) gathered (search rules)) c.new.ensures c.map.ensures.cases

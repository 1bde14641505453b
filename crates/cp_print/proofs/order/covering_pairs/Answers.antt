use Rattle.std.proofs.Common.{map, sym, ap, ◌∙◌}
use Rattle.std.proofs.lemmas.Result.{IfOk-weaker}
use Rattle.cp_print.specs.Order.{pair_form}
use Rattle.cp_language.specs.Report.{nodes_from}
use Rattle.cp_print.proofs.CoveringLists.{covered_are}
use Rattle.cp_print.proofs.CoveringPairs.{none_ordered}
use Rattle.cp_print.proofs.order.covering_pairs.Goals as goal

pub returns-then-is_empty : goal.returns-then-is_empty
returns-then-is_empty c =
    ap (map pair_form) c.new.ensures.items
    ∙ sym (none_ordered c.pairs-pairs.result.now c.args.skeleton.now.pairs (nodes_from 0 c.args.skeleton.now.strands) (c.pairs-pairs.ensures ∙ c.order.ensures) (sym c.is_empty.ensures ∙ c.if-is_empty.true))

pub returns : goal.returns
returns c =
    IfOk-weaker c.covered.result _ _
    (λ v e. e ∙ covered_are c.args.skeleton.now c.is_sound.ensures c.pairs-pairs.result.now c.deref.result.now c.deref-3.result.now c.deref-2.result.now c.deref-4.result.now (c.pairs-pairs.ensures ∙ c.order.ensures)
    (c.deref.ensures.value ∙ c.in_ok-shared.ensures) (c.deref-2.ensures.value ∙ c.in_ok-entries.ensures) (c.deref-3.ensures.value ∙ c.in_ok-covers.ensures) (c.deref-4.ensures.value ∙ c.in_ok-nodes.ensures ∙ ap (nodes_from 0) c.strands.ensures))
    c.covered.ensures

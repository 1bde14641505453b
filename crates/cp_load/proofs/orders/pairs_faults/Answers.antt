use Rattle.std.proofs.Common.{◌++◌, List, sym, ap, ◌∙◌, subst}
use Rattle.std.specs.Prelude.{nat_lt}
use Rattle.cp_sexpr.specs.View.{view}
use Rattle.cp_language.specs.Problems.{pair_of, pair_faults}
use Rattle.cp_model.specs.declared.node.OrderPair.{OrderPair}
use Rattle.cp_scope.specs.FirstFault.{first_onto}
use Rattle.cp_load.proofs.Cycles.{pair-behind}
use Rattle.cp_load.specs.Acyclic.{IsAcyclicIf}
use Rattle.cp_load.proofs.NoCycles.{counted-pair}
use Rattle.cp_load.proofs.orders.pairs_faults.Goals as goal

pub loop-form-preserved : goal.loop-form-preserved
loop-form-preserved c =
    let strands = c.args.strands.now in
    let before = c.loop-form.before.items in
    pair-behind strands c.args.items.now c.loop-form.form-index c.form-item.result c.loop-form-test.true c.form-item.is before c.add_pair.new.pairs.items (c.in_ok-add_pair.ensures ∙ ap (λ ps. before ++ ps) c.pair_of.ensures)
    c.loop-form.first c.pair_faults.new.first _ _
    (c.in_ok-pair_faults.ensures ∙ ap (λ (ps : List OrderPair). first_onto c.loop-form.first (pair_faults strands ps (view c.form-item.result))) c.deref.ensures.value) c.loop-form.invariant

pub pair_faults-requires : goal.pair_faults-requires
pair_faults-requires c =
    subst (λ (ps : List OrderPair). IsAcyclicIf (nat_lt c.len.result c.args.acyclic_count) (ps ++ pair_of (view c.form-item.result))) (sym c.deref.ensures.value)
    (counted-pair c.args.items.now c.loop-form.form-index c.form-item.result c.loop-form-test.true c.form-item.is c.loop-form.before.items _ c.args.acyclic_count _ (ap (λ n. nat_lt n c.args.acyclic_count) (c.len.ensures ∙ c.loop-form.before.ok.0)) c.loop-form.invariant.1 c.requires)

use Rattle.std.proofs.Common.{◌++◌, List, map, refl, sym, ap, ◌∙◌, subst}
use Rattle.std.specs.Prelude.{None}
use Rattle.cp_model.specs.declared.node.OrderPair.{OrderPair}
use Rattle.cp_sexpr.specs.View.{view}
use Rattle.cp_language.specs.Problems.{pair_of, pairs_in}
use Rattle.cp_load.specs.Acyclic.{IsAcyclicIf}
use Rattle.cp_load.proofs.Cycles.{pairs-taken}
use Rattle.cp_load.proofs.NoCycles.{first-pair}
use Rattle.cp_report.specs.Misfits.{place_before}
use Rattle.cp_report.specs.Skeletons.{pair_misfits, pairs_misfits}
use Rattle.cp_scope.proofs.FirstOf.{first_onto-merged}
use Rattle.cp_spelled.specs.FirstMisfit.{first_onto, merged}
use Rattle.cp_spelled.proofs.Firsts.{in_order}
use Rattle.cp_stated.proofs.FormLists.{gathered-taken}
use Rattle.cp_stated.proofs.order.pairs_misfits.Goals as goal

pub loop-form-init : goal.loop-form-init
loop-form-init c =
    let fs = map view c.args.items.now in (
      ap (λ (ps : List OrderPair). first_onto c.args.first.now (pairs_misfits c.args.strands.now ps fs)) c.new-before.ensures.items,
      ap (λ (ps : List OrderPair). ps ++ pairs_in fs) c.new-before.ensures.items,
    )

pub loop-form-preserved : goal.loop-form-preserved
loop-form-preserved c =
    let strands = c.args.strands.now in
    let before = c.loop-form.before.items in
    let misfits = pair_misfits strands before (view c.form-item.result) in
    let added = c.in_ok-add_pair.ensures ∙ ap (λ ps. before ++ ps) c.pair_of.ensures in
    let inside = c.in_ok-inside.ensures ∙ ap (λ (ps : List OrderPair). first_onto None (pair_misfits strands ps (view c.form-item.result))) c.deref-in-loop-form.ensures.value in
    let asked = c.merge.ensures ∙ ap (merged c.loop-form.first) inside ∙ sym (first_onto-merged place_before in_order c.loop-form.first misfits) in (
      gathered-taken (λ b f. b ++ pair_of f) (pair_misfits strands) (pairs_misfits strands) c.args.items.now c.loop-form.form-index (λ b f fs. refl) c.form-item.result c.loop-form-test.true c.form-item.is
          before c.add_pair.new.pairs.items c.loop-form.first c.merge.new.self _ added asked c.loop-form.invariant.0,
      pairs-taken strands c.args.items.now c.loop-form.form-index c.form-item.result c.loop-form-test.true c.form-item.is before c.add_pair.new.pairs.items added _ c.loop-form.invariant.1,
    )

pub pair_misfits-requires : goal.pair_misfits-requires
pair_misfits-requires c =
    let fs = map view c.args.items.now in
    let acyclic = c.in_ok-acyclic.acyclic in
    let whole = subst (IsAcyclicIf acyclic) (c.deref.ensures.value ∙ c.in_ok-add_pairs.ensures ∙ ap (λ (ps : List OrderPair). ps ++ pairs_in fs) c.new-pairs.ensures.items) c.in_ok-acyclic.ensures in
    subst (λ (ps : List OrderPair). IsAcyclicIf acyclic (ps ++ pair_of (view c.form-item.result))) (sym c.deref-in-loop-form.ensures.value)
    (first-pair c.args.items.now c.loop-form.form-index c.form-item.result c.loop-form-test.true c.form-item.is c.loop-form.before.items _ acyclic c.loop-form.invariant.1 whole)

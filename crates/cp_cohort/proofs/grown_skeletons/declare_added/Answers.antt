use Rattle.cp_model.specs.Strand.{variables_of_prefix}
use Rattle.cp_model.specs.PrefixVariables.{is_added}
use Rattle.cp_cohort.proofs.HigherStrands.{declared_at_first, one_skipped, one_declared, all_declared}
use Rattle.cp_cohort.proofs.grown_skeletons.declare_added.Goals as goal

pub loop-number-init : goal.loop-number-init
loop-number-init c =
    declared_at_first (is_added (variables_of_prefix c.args.role.now c.args.before) (variables_of_prefix c.args.role.now c.args.height)) c.variables-declaration-items.result.now c.args.k.now
    _ c.new-values.ensures.items

pub loop-number-preserved-then-not-is_added : goal.loop-number-preserved-then-not-is_added
loop-number-preserved-then-not-is_added c =
    one_skipped (is_added (variables_of_prefix c.args.role.now c.args.before) (variables_of_prefix c.args.role.now c.args.height)) _ _ _ c.variables-declaration-items.result.now c.loop-number.number
    c.declaration-item.result c.loop-number-test.true c.declaration-item.is c.numbered-id.result c.numbered-id.ensures c.is_added.result c.is_added.ensures c.if-not-is_added.true _ _ c.loop-number.invariant

pub loop-number-preserved : goal.loop-number-preserved
loop-number-preserved c =
    one_declared (is_added (variables_of_prefix c.args.role.now c.args.before) (variables_of_prefix c.args.role.now c.args.height)) _ _ _ c.variables-declaration-items.result.now c.loop-number.number
    c.declaration-item.result c.loop-number-test.true c.declaration-item.is c.numbered-id.result c.numbered-id.ensures c.is_added.result c.is_added.ensures c.if-not-is_added.false _ _ _ _ c.in_ok-declare_one.ensures c.loop-number.invariant

pub returns : goal.returns
returns c =
    let r = all_declared c.args.role.now c.args.before c.args.height c.variables-declaration-items.result.now
    c.variables-declaration-items.ensures c.loop-number.number c.loop-number-test.false c.args.k.now c.loop-number.k c.loop-number.values.items c.loop-number.invariant in
    record { values = r.0; declared = r.1; rest = r.2 }

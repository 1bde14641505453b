use Rattle.std.proofs.Common.{ap, ◌∙◌, arith}
use Rattle.cp_model.specs.Strand.{variables_of_prefix}
use Rattle.cp_model.specs.PrefixVariables.{is_added}
use Rattle.cp_strand.specs.Valued.{valued}
use Rattle.cp_strand.proofs.ValuedItems.{declaration-kept, declaration-taken, declarations-end}
use Rattle.cp_strand.proofs.instance_terms.terms_of.Goals as goal

pub loop-number-preserved-then-not-is_added : goal.loop-number-preserved-then-not-is_added
loop-number-preserved-then-not-is_added c =
    let wanted = is_added (variables_of_prefix c.args.role.now c.args.before) (variables_of_prefix c.args.role.now c.args.height) in
    let l = c.loop-number in
    let d = c.declaration-item.result in (
      declaration-kept wanted c.args.old.now c.variables-declaration-items.result.now l.number l.next c.args.values.now d
          c.loop-number-test.true c.declaration-item.is
          c.numbered-id.result c.numbered-id.ensures c.is_added.result c.is_added.ensures l.terms.items c.push.new.self.items _ l.invariant.0
          _ c.in_ok-term_or_variable.field-0 c.in_ok-term_or_variable.ensures c.in_ok-push.ensures.items c.if-not-is_added.true c.item_at.ensures,
      omega (arith, l.invariant.1),
    )

pub loop-number-preserved : goal.loop-number-preserved
loop-number-preserved c =
    let wanted = is_added (variables_of_prefix c.args.role.now c.args.before) (variables_of_prefix c.args.role.now c.args.height) in
    let l = c.loop-number in
    let d = c.declaration-item.result in (
      declaration-taken wanted c.args.old.now c.variables-declaration-items.result.now l.number l.next c.args.values.now d
          c.loop-number-test.true c.declaration-item.is
          c.numbered-id.result c.numbered-id.ensures c.is_added.result c.is_added.ensures l.terms.items c.push-in-loop-number.new.self.items _ l.invariant.0
          _ c.in_ok-term_or_variable-2.field-0 c.in_ok-term_or_variable-2.ensures c.in_ok-push-2.ensures.items c.if-not-is_added.false c.item_at-in-loop-number.ensures,
      omega (arith, l.invariant.1),
    )

pub returns : goal.returns
returns c =
    let l = c.loop-number in
    let wanted = is_added (variables_of_prefix c.args.role.now c.args.before) (variables_of_prefix c.args.role.now c.args.height) in
    let ds = c.variables-declaration-items.result.now in
    declarations-end wanted c.args.old.now ds l.number _ l.terms.items _ c.loop-number-test.false l.invariant.0
    ∙ ap (λ vs. valued wanted c.args.old.now 0 vs c.args.values.now) c.variables-declaration-items.ensures

use Rattle.std.proofs.Common.{length, map}
use Rattle.cp_model.specs.Strand.{variables_of_prefix}
use Rattle.cp_sexpr.specs.View.{view}
use Rattle.cp_roles.proofs.Instantiation.{variable-taken, variables-done}
use Rattle.cp_roles.proofs.instances.instantiated.Goals as goal

pub loop-number-preserved : goal.loop-number-preserved
loop-number-preserved c =
    variable-taken (variables_of_prefix c.args.prefix.role.now c.args.prefix.height) c.args.declared.now (map view c.args.maplets.now) c.args.variables.now c.loop-number.number _ c.args.all.now.items
    c.index-variables-number.result c.loop-number-test.true c.index-variables-number.is c.loop-number.terms.items c.push.new.self.items c.in_ok-term.term c.loop-number.all.items c.variable_value.new.all.items
    c.in_ok-push.ensures.items c.in_ok-term.ensures.term c.in_ok-term.ensures.fresh c.loop-number.invariant

pub returns : goal.returns
returns c =
    variables-done (variables_of_prefix c.args.prefix.role.now c.args.prefix.height) c.args.declared.now (map view c.args.maplets.now) c.args.variables.now c.loop-number.number _ c.args.all.now.items
    c.loop-number-test.false c.loop-number.terms.items (length c.loop-number.all.items) c.loop-number.all.items c.loop-number.invariant

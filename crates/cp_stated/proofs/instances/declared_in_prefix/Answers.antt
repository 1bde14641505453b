use Rattle.std.proofs.Common.{◌++◌, ◌∷◌, [], ap, ◌∙◌}
use Rattle.cp_model.specs.Strand.{variables_of_trace}
use Rattle.cp_model.specs.declared.variable.Declaration.{Declaration}
use Rattle.cp_model.specs.Same.{has_variable}
use Rattle.cp_stated.proofs.NumberedLists.{variable-wanted, variable-passed, variables-wanted}
use Rattle.cp_stated.proofs.instances.declared_in_prefix.Goals as goal

pub loop-number-preserved-then-not-occurs : goal.loop-number-preserved-then-not-occurs
loop-number-preserved-then-not-occurs c =
    let xs = variables_of_trace c.args.prefix.now in
    let d = c.index-variables-number.result in
    let test = c.occurs.ensures ∙ ap (λ n. has_variable xs (record { sort = d.sort; number = n })) c.numbered.ensures in
    variable-passed xs c.args.variables.now c.loop-number.number d c.loop-number-test.true c.index-variables-number.is c.occurs.result test c.if-not-occurs.true
    c.loop-number.declared _ c.loop-number.invariant

pub loop-number-preserved : goal.loop-number-preserved
loop-number-preserved c =
    let xs = variables_of_trace c.args.prefix.now in
    let d = c.index-variables-number.result in
    let test = c.occurs.ensures ∙ ap (λ n. has_variable xs (record { sort = d.sort; number = n })) c.numbered.ensures in
    let old = c.loop-number.declared in
    let name = ap (λ t. old ++ (let e : Declaration = record { identifier = t; sort = d.sort } in e) ∷ []) c.in_ok-identifier.ensures in
    variable-wanted xs c.args.variables.now c.loop-number.number d c.loop-number-test.true c.index-variables-number.is c.occurs.result test c.if-not-occurs.false
    old c.push.new.self _ (c.in_ok-push.ensures ∙ name) c.loop-number.invariant

pub returns : goal.returns
returns c =
    variables-wanted (variables_of_trace c.args.prefix.now) c.args.variables.now c.loop-number.number c.loop-number-test.false c.loop-number.declared _ c.loop-number.invariant

use Rattle.std.proofs.Common.{false, List, sym, ap, ◌∙◌}
use Rattle.cp_model.specs.Homomorphism.{substitution_by}
use Rattle.cp_model.specs.Same.{has_variable}
use Rattle.cp_model.specs.Strand.{variables_of_prefix}
use Rattle.cp_model.specs.declared.variable.Declaration.{Declaration}
use Rattle.cp_language.specs.Printed.{variable}
use Rattle.cp_print.specs.MarkedForms.{maplets_by}
use Rattle.cp_print.specs.Named.{named_in}
use Rattle.cp_print.specs.Spelled.{items_text}
use Rattle.cp_print.proofs.SpelledItems.{items_begin, items_go_on, items_same, items_end, same_text}
use Rattle.cp_print.proofs.MarkedForms.{maplet, maplet_skipped, maplet_taken, no_maplets}
use Rattle.cp_print.proofs.strands.put_maplets.Goals as goal

pub loop-number-init : goal.loop-number-init
loop-number-init c =
    items_begin false c.args.out.now (maplets_by (named_in c.args.naming.now) (variables_of_prefix c.args.role.now c.args.height) (substitution_by c.args.values.now) 0 c.variables-variables.result.now)

pub loop-number-preserved-then-not-occurs_before : goal.loop-number-preserved-then-not-occurs_before
loop-number-preserved-then-not-occurs_before c =
    let l = c.loop-number in
    let prefix = variables_of_prefix c.args.role.now c.args.height in
    let d = c.index-variables-number.result in
    let occurs = c.occurs_before.ensures ∙ ap (λ n. has_variable prefix (variable d.sort n)) c.numbered.ensures in
    items_same false _ _ _ l.invariant (maplet_skipped prefix l.number c.variables-variables.result.now c.loop-number-test.true d c.index-variables-number.is (named_in c.args.naming.now) (substitution_by c.args.values.now)
    (sym occurs ∙ c.if-not-occurs_before.true))

pub loop-number-preserved : goal.loop-number-preserved
loop-number-preserved c =
    let l = c.loop-number in
    let prefix = variables_of_prefix c.args.role.now c.args.height in
    let named = named_in c.args.naming.now in
    let values = substitution_by c.args.values.now in
    let ds = c.variables-variables.result.now in
    let d = c.index-variables-number.result in
    let occurs = c.occurs_before.ensures ∙ ap (λ n. has_variable prefix (variable d.sort n)) c.numbered.ensures in
    items_go_on false (maplet prefix l.number ds c.loop-number-test.true d c.index-variables-number.is named values) _ _ _ l.invariant
    (maplet_taken prefix l.number ds c.loop-number-test.true d c.index-variables-number.is named values (sym occurs ∙ c.if-not-occurs_before.false)) c.put_maplet.ensures

pub returns : goal.returns
returns c =
    let l = c.loop-number in
    let maplets = maplets_by (named_in c.args.naming.now) (variables_of_prefix c.args.role.now c.args.height) (substitution_by c.args.values.now) 0 in
    same_text (ap (λ (ds : List Declaration). items_text false (maplets ds)) c.variables-variables.ensures)
    (items_end false _ _ l.invariant (no_maplets (named_in c.args.naming.now) (variables_of_prefix c.args.role.now c.args.height) (substitution_by c.args.values.now) l.number c.variables-variables.result.now c.loop-number-test.false))

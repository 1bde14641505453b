use Rattle.std.proofs.Common.{◌≡◌, true, false, sym, ap, ap₂, ◌∙◌}
use Rattle.cp_lists.specs.Lists.{item_at}
use Rattle.cp_lists.proofs.Items.{item_of_read}
use Rattle.cp_model.specs.Term.{apply_to}
use Rattle.cp_model.specs.Strand.{variables_of_prefix}
use Rattle.cp_model.specs.Same.{has_variable}
use Rattle.cp_model.specs.Homomorphism.{substitution_by}
use Rattle.cp_term.specs.Variables.{variable_of_sort}
use Rattle.cp_fingerprint.specs.SharedValues.{declared_variable}
use Rattle.cp_fingerprint.proofs.AddedPlaces.{variable_added, variable_passed, variable_test}
use Rattle.cp_fingerprint.proofs.sums.Sums.add_instance.Goals as goal

pub is_in_prefix-requires : goal.is_in_prefix-requires
is_in_prefix-requires c = record {
  kept = c.first_events-first_events.ensures;
  declared = sym (ap (λ ds. item_at ds c.loop-number.number) c.variables-declarations.ensures)
      ∙ item_of_read c.variables-declarations.result.now c.loop-number.number c.index-declarations-number.result c.loop-number-test.true c.index-declarations-number.is;
}

pub loop-number-preserved-then-not-is_in_prefix : goal.loop-number-preserved-then-not-is_in_prefix
loop-number-preserved-then-not-is_in_prefix c = λ r rest.
    c.loop-number.invariant r
    (variable_passed c.text_number-name.result (variables_of_prefix c.args.instance.now.role c.args.instance.now.height) (substitution_by c.args.instance.now.values) c.variables-declarations.result.now c.loop-number.number
    c.index-declarations-number.result c.loop-number-test.true c.index-declarations-number.is
    (variable_test c.is_in_prefix.result c.deref-role.result.now c.args.instance.now.role c.height-height.result c.args.instance.now.height c.loop-number.number c.index-declarations-number.result
    c.is_in_prefix.ensures (c.deref-role.ensures ∙ c.role.ensures) c.height-height.ensures false c.if-not-is_in_prefix.true)
    c.loop-number.self r rest)

pub loop-number-preserved : goal.loop-number-preserved
loop-number-preserved c =
    let k = c.args.instance.now in
    let d = c.index-declarations-number.result in
    let e : has_variable (variables_of_prefix k.role k.height) (declared_variable c.loop-number.number d) ≡ true =
    variable_test c.is_in_prefix.result c.deref-role.result.now k.role c.height-height.result k.height c.loop-number.number d c.is_in_prefix.ensures (c.deref-role.ensures ∙ c.role.ensures)
    c.height-height.ensures true c.if-not-is_in_prefix.false in
    λ r rest.
    c.loop-number.invariant r
    (variable_added c.text_number-name.result (variables_of_prefix k.role k.height) (substitution_by k.values) c.variables-declarations.result.now c.loop-number.number d c.loop-number-test.true
    c.index-declarations-number.is e c.place_weight.result c.place_weight.ensures (apply_to (substitution_by c.values.result.now) (variable_of_sort d.sort c.numbered.result))
    (ap₂ (λ vs n. apply_to (substitution_by vs) (variable_of_sort d.sort n)) c.values.ensures c.numbered.ensures) c.loop-number.self c.add_variable.new.self r c.in_ok-add_variable.ensures rest)

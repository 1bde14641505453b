use Rattle.cp_model.specs.Strand.{payload}
use Rattle.cp_model.specs.Term.{atom_term, IsCarriedByTerm}
use Rattle.cp_collapse.proofs.ItemsWithProperty.{item_found, item_passed, no_item}
use Rattle.cp_normal.proofs.carried_values.carries_one.Goals as goal

pub returns-then-carries_value : goal.returns-then-carries_value
returns-then-carries_value c = item_found (λ v. IsCarriedByTerm (atom_term v) (payload c.args.occurrence.now.event)) _ _ _ c.loop-value-test.true c.value-item.is c.carries_value.ensures c.if-carries_value.true

pub loop-value-preserved : goal.loop-value-preserved
loop-value-preserved c = item_passed (λ v. IsCarriedByTerm (atom_term v) (payload c.args.occurrence.now.event)) _ _ _ c.loop-value-test.true c.value-item.is c.carries_value.ensures c.if-carries_value.false c.loop-value.invariant

pub returns : goal.returns
returns c = no_item (λ v. IsCarriedByTerm (atom_term v) (payload c.args.occurrence.now.event)) _ _ c.loop-value-test.false c.loop-value.invariant

use Rattle.std.proofs.Common.{rules, tests}
use Rattle.std.proofs.lemmas.Iterator.{cases_from_any, YieldsList-from_slice}
use Rattle.cp_skel.specs.Events.{LocatedEvent}
use Rattle.cp_normal.specs.Events.{CarriesOne}
use Rattle.cp_collapse.proofs.AnyItem.{some_has}
use Rattle.cp_normal.proofs.carried_values.some_carries_one.Goals as goal

pub returns : goal.returns
returns c =
    let has = λ (o : LocatedEvent). CarriesOne c.args.values.now o in
    some_has has _ _ (cases_from_any _ _ _ has (λ (o : LocatedEvent). has o → ⊥) c.any.ensures.ran (YieldsList-from_slice c.args.occurrences.now cc) (λ x q k. search (rules, tests)) (λ x q k. search (rules, tests)))

use Rattle.std.proofs.Common.{◌≡◌, Some, true}
use Rattle.std.proofs.lemmas.Result.{IfOk-weaker}
use Rattle.cp_hom.specs.PartialMaps.{partial_view, IsKnown}
use Rattle.cp_hom.specs.Counterparts.{TakesItem}
use Rattle.cp_hom.proofs.FirstChoices.{placed_if_found}
use Rattle.cp_hom.proofs.first_choices.place_first.Goals as goal

pub returns-in-Some : goal.returns-in-Some
returns-in-Some c =
    IfOk-weaker c.place.result _ _ (placed_if_found c.args.a.now c.args.b.now c.args.item c.in-Some.number (partial_view c.args.given)) c.place.ensures

pub returns-in-Some-true : goal.returns-in-Some-true
returns-in-Some-true c =
    let known : c.known_place.result ≡ Some true = cc in
    let sure : IsKnown (TakesItem c.args.a.now c.args.b.now c.args.item c.loop-number.number) c.args.given (Some true) = rw known at c.known_place.ensures in
    placed_if_found c.args.a.now c.args.b.now c.args.item c.loop-number.number (partial_view c.args.given) (Some c.args.given) sure

pub returns-in-None : goal.returns-in-None
returns-in-None c =
    IfOk-weaker c.place-in-None.result _ _ (placed_if_found c.args.a.now c.args.b.now c.args.item c.loop-number.number (partial_view c.args.given)) c.place-in-None.ensures

use Rattle.std.proofs.lemmas.Result.{IfOk-weaker}
use Rattle.cp_unify.specs.Places.{ArePlaces}
use Rattle.cp_unify.proofs.FirstPlaces.{if_any}
use Rattle.cp_unify.proofs.places.worthy_places.Goals as goal

pub returns : goal.returns
returns c =
    IfOk-weaker c.places_of.result (λ places. ArePlaces places.items c.args.bindings.now) _ (λ places h. if_any places.items c.args.bindings.now h) c.places_of.ensures

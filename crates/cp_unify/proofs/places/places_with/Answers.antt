use Rattle.std.proofs.Common.{refl, sym, arith}
use Rattle.std.proofs.lemmas.Bool.{eqb-false}
use Rattle.cp_unify.proofs.FirstPlaces.{if_any, some_places, places_more}
use Rattle.cp_unify.proofs.places.places_with.Goals as goal

pub returns : goal.returns
returns c b bs e is h =
    let ne = eqb-false _ _ (sym c.if-is_empty.ensures) in
    if_any _ _ (places_more c.args.places.items _ b bs c.args.bindings.now c.args.number _ (some_places _ _ (omega arith) h) c.in_ok-put.ensures e is refl)

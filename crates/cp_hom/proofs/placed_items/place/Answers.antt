use Rattle.std.proofs.lemmas.Result.{IfOk-weaker}
use Rattle.cp_hom.specs.Counterparts.{TakesItem}
use Rattle.cp_hom.specs.PartialMaps.{partial_view}
use Rattle.cp_hom.proofs.PairedItems.{finds_by_pair, none_by_pair}
use Rattle.cp_hom.proofs.placed_items.place.Goals as goal

pub returns-in-Some : goal.returns-in-Some
returns-in-Some c =
    IfOk-weaker c.place_pair.result _ _
    (λ answer h. finds_by_pair (TakesItem c.args.a.now c.args.b.now c.args.item c.args.image) c.paired.result c.in-Some.pair c.in-Some.is c.paired.ensures (partial_view c.args.given) answer h)
    c.place_pair.ensures

pub returns-in-None : goal.returns-in-None
returns-in-None c =
    none_by_pair (TakesItem c.args.a.now c.args.b.now c.args.item c.args.image) c.paired.result c.in-None.is c.paired.ensures (partial_view c.args.given)

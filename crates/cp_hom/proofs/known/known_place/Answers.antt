use Rattle.cp_hom.specs.Counterparts.{TakesItem}
use Rattle.cp_hom.specs.PartialMaps.{partial_view}
use Rattle.cp_hom.proofs.PairedItems.{known_by_pair, none_by_pair}
use Rattle.cp_hom.proofs.known.known_place.Goals as goal

pub returns-in-Some : goal.returns-in-Some
returns-in-Some c =
    known_by_pair (TakesItem c.args.a.now c.args.b.now c.args.item c.args.image) c.paired.result c.in-Some.pair c.in-Some.is c.paired.ensures c.args.given.now c.known_pair.result c.known_pair.ensures

pub returns-in-None : goal.returns-in-None
returns-in-None c =
    none_by_pair (TakesItem c.args.a.now c.args.b.now c.args.item c.args.image) c.paired.result c.in-None.is c.paired.ensures (partial_view c.args.given.now)

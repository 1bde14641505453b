use Rattle.std.proofs.Common.{◌≡◌, Some}
use Rattle.cp_hom.specs.PartialMaps.{image_in}
use Rattle.cp_hom.proofs.Beforehand.{number_known}
use Rattle.cp_hom.proofs.known.known_number.Goals as goal

pub returns-in-Some : goal.returns-in-Some
returns-in-Some c =
    let at : image_in c.args.given.now.placements.items c.args.strand ≡ Some c.in-Some.other = cc in
    number_known c.args.given.now c.args.strand c.args.image c.in-Some.other at

use Rattle.std.proofs.Common.{◌≡◌, List, sym, subst}
use Rattle.std.specs.Prelude.{Some, None}
use Rattle.cp_hom.specs.PartialMaps.{partial_view, image_in, IsExtended}
use Rattle.cp_hom.specs.declared.partials.Placement.{Placement}
use Rattle.cp_hom.proofs.Images.{number_there, number_elsewhere, number_placed}
use Rattle.cp_hom.proofs.partials.match_numbers.Goals as goal

pub returns-then-other-image : goal.returns-then-other-image
returns-then-other-image c =
    let at : image_in c.args.given.placements.items c.args.strand ≡ Some c.in-Some.other = cc in
    number_there (partial_view c.args.given) c.args.strand c.args.image c.in-Some.other at c.if-other-image.true

pub returns-else-other-image : goal.returns-else-other-image
returns-else-other-image c =
    let at : image_in c.args.given.placements.items c.args.strand ≡ Some c.in-Some.other = cc in
    number_elsewhere (partial_view c.args.given) c.args.strand c.args.image c.in-Some.other at c.if-other-image.false

pub returns-in_ok-push-in-None : goal.returns-in_ok-push-in-None
returns-in_ok-push-in-None c =
    let p : Placement = record { strand = c.args.strand; image = c.args.image } in
    let free : image_in c.args.given.placements.items c.args.strand ≡ None = cc in
    subst (λ (ps : List Placement). IsExtended (λ f. f.strands c.args.strand ≡ c.args.image) (partial_view c.args.given) (record { placements = ps; bindings = c.args.given.values }))
    (sym c.in_ok-push-in-None.ensures.items) (number_placed c.args.given.placements.items c.args.given.values p free)

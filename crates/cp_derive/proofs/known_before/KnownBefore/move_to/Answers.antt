use Rattle.std.proofs.Common.{◌≡◌, subst, ap, ◌∙◌}
use Rattle.std.specs.Prelude.{◌↔◌}
use Rattle.cp_model.specs.Term.{Term as Plain}
use Rattle.cp_model.specs.Derivable.{DerivableAt}
use Rattle.cp_model.specs.Skeleton.{Skeleton}
use Rattle.cp_skel.specs.Ordered.{IsOrdered}
use Rattle.cp_derive.specs.Before.{PlacesIn, ArePlacesBefore, transmissions_of, given_by}
use Rattle.cp_derive.specs.Given.{IsDerivable}
use Rattle.cp_derive.specs.Places.{AreSamePlaces}
use Rattle.cp_derive.proofs.GivenAtNode.{ordered_of, derivable_at_places}
use Rattle.cp_derive.proofs.TransmissionPlaces.{ok_both}
use Rattle.cp_derive.proofs.known_before.KnownBefore.move_to.Goals as goal

pub returns-clause-at_node : goal.returns-clause-at_node
returns-clause-at_node c =
    let k = c.args.self.skeleton in
    let is : c.self.inside.survey.now ≡ k = ap (λ (p : PlacesIn). p.skeleton) c.self.view_is in
    let ordered : IsOrdered k = subst IsOrdered (c.skeleton.ensures ∙ is) (ordered_of c.skeleton.result.now c.is_sound.ensures) in
    let before : ArePlacesBefore k.pairs c.args.node (transmissions_of k) c.in_ok-places.places.items =
    subst (λ (x : Skeleton). ArePlacesBefore x.pairs c.args.node (transmissions_of x) c.in_ok-places.places.items) is c.in_ok-places.ensures in
    ok_both (λ (f : PlacesIn). f.skeleton ≡ k) (λ (f : PlacesIn). AreSamePlaces c.in_ok-places.places.items f.places)
    (λ (f : PlacesIn). (t : Plain) → DerivableAt k c.args.node t ↔ IsDerivable (given_by f.skeleton f.places) t) c.move_to_places.result
    (λ f e same. derivable_at_places k f.skeleton c.args.node c.in_ok-places.places.items f.places ordered c.requires.there before same e)
    c.move_to_places.ensures.skeleton c.move_to_places.ensures.places

use Rattle.std.proofs.Common.{[], ◌∙◌, ap, sym}
use Rattle.cp_derive.specs.Places.{are_flagged, unflagged_behind}
use Rattle.cp_derive.proofs.GrownKnowledge.{same_places}
use Rattle.cp_derive.proofs.flags.places_behind.Goals as goal

pub returns : goal.returns
returns c =
    same_places c.args.count c.args.last.now c.args.places.now c.in_ok-more.more.items c.in_ok-there.there.items c.in_ok-before.before.items c.in_ok-there.ensures
    (ap (λ ms. are_flagged ms c.args.last.now) (sym c.deref.ensures.value) ∙ sym c.are_flagged.ensures ∙ c.if-not-are_flagged.false) c.in_ok-before.ensures
    (c.in_ok-more.ensures ∙ ap (λ ms. unflagged_behind [] ms c.args.places.now) c.deref-2.ensures.value)

use Rattle.std.proofs.Common.{◌≡◌, ◌++◌, ◌∙◌, Some, ap, sym}
use Rattle.std.proofs.lemmas.Bool.Decides.{Decides-eqb}
use Rattle.std.proofs.lemmas.Slice.Eq.{strip_prefix_is}
use Rattle.cp_derive.specs.Before.{messages_at}
use Rattle.cp_derive.proofs.GivenAtNode.{given_on}
use Rattle.cp_derive.proofs.known_before.KnownBefore.move_to_places.Goals as goal

pub invariant_of-result : goal.invariant_of-result
invariant_of-result c =
    let split : c.deref.result.now ≡ c.deref-2.result.now ++ c.in-Some.more.now =
    strip_prefix_is Decides-eqb c.deref.result.now c.deref-2.result.now (Some c.in-Some.more) c.in-Some.ensures.cases in
    given_on c.self.inside.survey.now c.self.inside.places.items c.in-Some.more.now c.args.places.items c.transmissions-transmissions.result.now c.in_ok-messages.messages.items
    c.self.inside.known c.in_ok-known.known (sym c.deref.ensures.value ∙ split ∙ ap (λ ps. ps ++ c.in-Some.more.now) c.deref-2.ensures.value)
    c.transmissions-transmissions.ensures c.in_ok-messages.ensures c.self.invariant c.in_ok-known.ensures

pub invariant_of-result-in-Some-2 : goal.invariant_of-result-in-Some-2
invariant_of-result-in-Some-2 c =
    given_on c.self.inside.survey.now c.self.inside.places.items c.in-Some-2.more.items c.append.new.self.items c.transmissions-transmissions.result.now
    c.in_ok-messages-in-Some-2.messages.items c.self.inside.known c.in_ok-known-in-Some-2.known c.in_ok-append-in-Some-2.ensures.items
    c.transmissions-transmissions.ensures (c.in_ok-messages-in-Some-2.ensures ∙ ap (λ ps. messages_at ps c.transmissions-transmissions.result.now) c.deref-in-Some-2.ensures.value)
    c.self.invariant c.in_ok-known-in-Some-2.ensures

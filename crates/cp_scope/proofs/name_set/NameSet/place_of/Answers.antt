use Rattle.std.proofs.Common.{ap, ◌∙◌, subst}
use Rattle.std.specs.Prelude.{IfSome}
use Rattle.cp_scope.specs.Places.{place_from, ArePlacesOf}
use Rattle.cp_scope.proofs.name_set.NameSet.place_of.Goals as goal

pub returns-in-Some : goal.returns-in-Some
returns-in-Some c =
    let names = c.self.inside.names.items in
    let places = subst (λ o. IfSome o (λ table. ArePlacesOf names table)) c.in-Some.is c.self.invariant in
    c.place_in.ensures ∙ places c.args.name.now ∙ ap (λ ns. place_from 0 ns c.args.name.now) c.self.view_is

pub returns-in-None : goal.returns-in-None
returns-in-None c = c.first_place.ensures ∙ ap (λ ns. place_from 0 ns c.args.name.now) (c.deref.ensures.value ∙ c.self.view_is)

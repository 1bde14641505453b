use Rattle.std.proofs.Common.{sym, subst, ◌∙◌, arith}
use Rattle.std.proofs.lemmas.Bool.{eqb-false}
use Rattle.cp_unify.specs.Places.{ArePlaces, IsRestAfter}
use Rattle.cp_unify.proofs.FirstPlaces.{behind_all, behind_slice, some_places}
use Rattle.cp_unify.proofs.LeastBound.{none_at_end}
use Rattle.cp_unify.proofs.subst.Subst.from_number.Goals as goal

pub returns-then-number-self : goal.returns-then-number-self
returns-then-number-self c =
    none_at_end c.args.number c.self.inside.least c.as_slice-bindings.result.now c.self.inside.bindings.items c.args.self.now c.self.view_is c.self.invariant.2
    c.if-number-self.true

pub returns-then-is_empty : goal.returns-then-is_empty
returns-then-is_empty c =
    subst (λ bs. IsRestAfter c.args.number bs c.args.self.now) (sym (c.as_slice-bindings.ensures.value ∙ c.self.view_is)) (behind_all c.args.number c.args.self.now)

pub returns : goal.returns
returns c =
    let h : ArePlaces c.self.inside.places.items c.self.inside.bindings.items = some_places _ _ (let ne = eqb-false _ _ (sym c.if-is_empty.ensures) in omega arith) c.self.invariant.1 in
    behind_slice _ _ _ c.self.inside.bindings.items _ _ c.deref.result.now c.as_slice-bindings.ensures.value c.self.view_is
    (subst (λ p. ArePlaces p c.self.inside.bindings.items) (sym c.deref.ensures.value) h) c.count_at.ensures c.saturating_sub-start.ensures

use Rattle.std.proofs.Common.{◌≡◌, subst, sym, ap, ◌∙◌}
use Rattle.cp_unify.specs.Places.{ArePlacesIfAny}
use Rattle.cp_unify.proofs.LeastBound.{one_more}
use Rattle.cp_unify.proofs.subst.Subst.put.Goals as goal

pub invariant_of-self-in_err-self-inside : goal.invariant_of-self-in_err-self-inside
invariant_of-self-in_err-self-inside c =
    let number : c.variable-number.result.number ≡ c.args.binding.variable.number = ap (λ x. x.number) c.variable-number.ensures in (
      (λ e. absurd (cc)),
      subst (λ p. ArePlacesIfAny p c.insert.new.self.items) (sym (ap (λ v. v.items) c.replace-places.ensures.after ∙ c.new.ensures.items)) tt,
      one_more c.self.inside.least c.variable-number.result.number c.min-self-inside.result c.args.binding c.self.inside.bindings.items c.insert.new.self.items
          c.self.invariant.2 number c.min-self-inside.ensures c.in_ok-insert.ensures.items,
    )

pub invariant_of-self-2 : goal.invariant_of-self-2
invariant_of-self-2 c =
    let number : c.variable-number.result.number ≡ c.args.binding.variable.number = ap (λ x. x.number) c.variable-number.ensures in
    let before : ArePlacesIfAny c.replace-places.result.items c.self.inside.bindings.items =
    subst (λ v. ArePlacesIfAny v.items c.self.inside.bindings.items) (sym c.replace-places.ensures.value) c.self.invariant.1 in
    let places = c.in_ok-self-inside.ensures _ _ (c.deref.ensures.value ∙ c.in_ok-insert.ensures.items) number before in (
      (λ e. absurd (cc)),
      rw c.deref.ensures.value at places,
      one_more c.self.inside.least c.variable-number.result.number c.min-self-inside.result c.args.binding c.self.inside.bindings.items c.insert.new.self.items
          c.self.invariant.2 number c.min-self-inside.ensures c.in_ok-insert.ensures.items,
    )

use Rattle.std.proofs.Common.{◌-◌, refl, ap, arith}
use Rattle.cp_model.specs.declared.variable.Variable.{Variable}
use Rattle.cp_unify.proofs.FirstPlaces.{places_before, places_all}
use Rattle.cp_unify.proofs.places.places_of.Goals as goal

pub loop-start-preserved : goal.loop-start-preserved
loop-start-preserved c = (
  omega arith,
  places_before c.args.bindings.now _ _ c.loop-start.start (c.loop-start.start - 1) _ _ _ c.loop-start.invariant.1 (omega arith) (omega arith) c.index-bindings-start.is
      (ap (λ (x : Variable). x.number) c.variable-number.ensures) refl c.in_ok-put.ensures,
)

pub returns : goal.returns
returns c = places_all _ _ _ c.loop-start.invariant.1 c.loop-start-test.false

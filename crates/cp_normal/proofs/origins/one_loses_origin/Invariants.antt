use Rattle.std.proofs.Common.{drop}
use Rattle.cp_model.specs.Realisation.{OriginatesAtTerm}
use Rattle.cp_collapse.specs.Property.{Has}
use Rattle.cp_normal.proofs.origins.one_loses_origin.Given as goal

abbrev pub invariant-loop-unique : goal.invariant-loop-unique
invariant-loop-unique l = Has (λ u. OriginatesAtTerm l.k u.value u.origin → ⊥) l.uniques → Has (λ u. OriginatesAtTerm l.k u.value u.origin → ⊥) (drop l.unique-index l.uniques)

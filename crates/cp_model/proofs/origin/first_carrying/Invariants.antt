use Rattle.cp_model.specs.FirstCarriers.{NoneCarriesBefore}
use Rattle.cp_model.proofs.origin.first_carrying.Given as goal

abbrev pub invariant-loop-place : goal.invariant-loop-place
invariant-loop-place l = NoneCarriesBefore l.message l.events l.place

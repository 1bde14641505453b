use Rattle.std.proofs.Common.{◌≡◌, map, drop}
use Rattle.cp_model.specs.Term.{apply_to}
use Rattle.cp_model.specs.Strand.{event_map}
use Rattle.cp_model.specs.Homomorphism.{substitution_by}
use Rattle.cp_load.proofs.Origins.{origin_from}
use Rattle.cp_load.proofs.unique_origins.instance_origin.Given as goal

abbrev pub invariant-loop-index : goal.invariant-loop-index
invariant-loop-index l =
    let terms = apply_to (substitution_by l.instance.values) in
    origin_from l.value 0 (map (event_map terms) l.prefix) ≡ origin_from l.value l.index (map (event_map terms) (drop l.index l.prefix))

use Rattle.cp_model.specs.Term.{apply_to}
use Rattle.cp_model.specs.Homomorphism.{substitution_by}
use Rattle.cp_load.proofs.Origins.{exact-carries}
use Rattle.cp_load.proofs.unique_origins.carries_under.Goals as goal

pub returns : goal.returns
returns c =
    exact-carries c.carries_under.result (apply_to (substitution_by c.args.values.now) c.args.whole.now) c.args.part.now c.carries_under.ensures.0 c.carries_under.ensures.1

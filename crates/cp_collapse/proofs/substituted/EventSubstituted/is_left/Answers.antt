use Rattle.cp_model.specs.Term.{apply_to}
use Rattle.cp_unify.specs.Bindings.{as_substitution}
use Rattle.cp_collapse.proofs.Held.{event_left}
use Rattle.cp_collapse.proofs.substituted.EventSubstituted.is_left.Goals as goal

pub returns : goal.returns
returns c =
    λ r. event_left (apply_to (as_substitution c.args.s.now)) c.args.self.now c.payload.result.now c.payload.ensures (c.leaves.ensures r)

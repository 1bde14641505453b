use Rattle.cp_model.specs.Stated.{KeepsStated}
use Rattle.cp_skel.proofs.CarriedHomomorphisms.{keeps_stated, kept_by_changes}
use Rattle.cp_skel.proofs.changes_laws.changes_keep_what_is_stated.Goals as goal

pub returns : goal.returns
returns c = record { kept = λ problem. kept_by_changes (KeepsStated problem) (λ old new more. keeps_stated old new more problem) }

use Rattle.cp_model.specs.Homomorphism.{CarriesHomomorphism}
use Rattle.cp_skel.proofs.CarriedHomomorphisms.{carries_on, kept_by_changes}
use Rattle.cp_skel.proofs.changes_laws.changes_keep_homomorphisms.Goals as goal

pub returns : goal.returns
returns c = record { kept = λ problem. kept_by_changes (CarriesHomomorphism problem) (carries_on problem) }

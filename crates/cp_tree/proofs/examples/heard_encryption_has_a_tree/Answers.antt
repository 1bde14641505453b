use Rattle.std.specs.Prelude.{[], ◌∷◌}
use Rattle.cp_theory.specs.EncryptionExamples.{locker, protocol, heard}
use Rattle.cp_theory.proofs.HeardEncryption.{heard_skeleton}
use Rattle.cp_cohort.proofs.OneChild.{roles_declare}
use Rattle.cp_tree.specs.Example.{heard_root, heard_tree, one_step_limits}
use Rattle.cp_tree.proofs.TrueTrees.{true_of}
use Rattle.cp_tree.proofs.SoundExpansions.{expands_soundly}
use Rattle.cp_tree.proofs.SoundGeneralisations.{generalises_soundly}
use Rattle.cp_tree.proofs.ExampleRoot.{heard_own, root_declared, heard_sound}
use Rattle.cp_tree.proofs.ExampleTree.{is_tree}
use Rattle.cp_tree.proofs.examples.heard_encryption_has_a_tree.Goals as goal

pub returns-clause-truth : goal.returns-clause-truth
returns-clause-truth c =
    true_of protocol locker.variables one_step_limits (heard_root ∷ []) heard_tree is_tree heard heard_sound root_declared
    (expands_soundly protocol locker.variables heard roles_declare heard_own) (generalises_soundly protocol locker.variables heard heard_skeleton heard_own)

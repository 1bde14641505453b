use Rattle.std.specs.Prelude.{[], ◌∷◌}
use Rattle.cp_theory.specs.EncryptionExamples.{protocol, locked, heard, reception}
use Rattle.cp_theory.proofs.HeardEncryption.{heard_skeleton, heard_test, heard_guards}
use Rattle.cp_theory.proofs.NoneLeftOut.{covering_leaves_none_out}
use Rattle.cp_cohort.specs.Example.{asked, one_child}
use Rattle.cp_cohort.proofs.CohortCovers.{cohort_covers}
use Rattle.cp_cohort.proofs.OneChild.{roles_declare, heard_declared, is_cohort}
use Rattle.cp_cohort.proofs.examples.heard_encryption_has_one_child.Goals as goal

pub returns-clause-declares : goal.returns-clause-declares
returns-clause-declares c = roles_declare

pub returns-clause-declared : goal.returns-clause-declared
returns-clause-declared c = heard_declared

pub returns-clause-cohort : goal.returns-clause-cohort
returns-clause-cohort c = is_cohort

pub returns-clause-leaves_none_out : goal.returns-clause-leaves_none_out
returns-clause-leaves_none_out c =
    covering_leaves_none_out protocol heard reception locked [] (one_child.skeleton ∷ []) heard_skeleton heard_test heard_guards
    (cohort_covers protocol asked (one_child ∷ []) heard_skeleton roles_declare heard_declared heard_test heard_guards is_cohort)

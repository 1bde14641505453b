use Rattle.std.proofs.Common.{[], ◌∷◌}
use Rattle.cp_theory.specs.EncryptionExamples.{protocol, locked, heard, reception, sent_before}
use Rattle.cp_theory.proofs.HeardEncryption.{heard_skeleton, heard_in_range, heard_test, heard_guards}
use Rattle.cp_theory.proofs.HeardCovered.{heard_covering}
use Rattle.cp_theory.proofs.NoneLeftOut.{covering_leaves_none_out}
use Rattle.cp_theory.proofs.encryption_examples.heard_encryption_example.Goals as goal

pub returns-clause-skeleton : goal.returns-clause-skeleton
returns-clause-skeleton c = heard_skeleton

pub returns-clause-in_range : goal.returns-clause-in_range
returns-clause-in_range c = heard_in_range

pub returns-clause-test : goal.returns-clause-test
returns-clause-test c = heard_test

pub returns-clause-guards : goal.returns-clause-guards
returns-clause-guards c = heard_guards

pub returns-clause-covering : goal.returns-clause-covering
returns-clause-covering c = heard_covering

pub returns-clause-leaves_none_out : goal.returns-clause-leaves_none_out
returns-clause-leaves_none_out c = covering_leaves_none_out protocol heard reception locked [] (sent_before ∷ []) heard_skeleton heard_test heard_guards heard_covering

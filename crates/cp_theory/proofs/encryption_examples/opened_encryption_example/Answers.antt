use Rattle.std.proofs.Common.{[], ◌∷◌}
use Rattle.cp_theory.specs.LetOut.{protocol, secret, let_out, reception, sent_encryption, answer_opened}
use Rattle.cp_theory.proofs.LetOutTest.{let_out_skeleton, let_out_in_range, let_out_test, let_out_guards}
use Rattle.cp_theory.proofs.LetOutAnswers.{let_out_covering}
use Rattle.cp_theory.proofs.NoneLeftOut.{covering_leaves_none_out}
use Rattle.cp_theory.proofs.encryption_examples.opened_encryption_example.Goals as goal

pub returns-clause-skeleton : goal.returns-clause-skeleton
returns-clause-skeleton c = let_out_skeleton

pub returns-clause-in_range : goal.returns-clause-in_range
returns-clause-in_range c = let_out_in_range

pub returns-clause-test : goal.returns-clause-test
returns-clause-test c = let_out_test

pub returns-clause-guards : goal.returns-clause-guards
returns-clause-guards c = let_out_guards

pub returns-clause-covering : goal.returns-clause-covering
returns-clause-covering c = let_out_covering

pub returns-clause-leaves_none_out : goal.returns-clause-leaves_none_out
returns-clause-leaves_none_out c = covering_leaves_none_out protocol let_out reception secret (sent_encryption ∷ []) (answer_opened ∷ []) let_out_skeleton let_out_test let_out_guards let_out_covering

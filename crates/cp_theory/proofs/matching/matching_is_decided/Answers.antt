use Rattle.cp_theory.proofs.Decided.{protection_test}
use Rattle.cp_theory.proofs.matching.matching_is_decided.Goals as goal

pub returns : goal.returns
returns c = protection_test

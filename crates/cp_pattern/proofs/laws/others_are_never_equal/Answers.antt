use Rattle.cp_pattern.proofs.DifferentTerms.{never_equal}
use Rattle.cp_pattern.proofs.laws.others_are_never_equal.Goals as goal

pub returns : goal.returns
returns c = never_equal

use Rattle.cp_pattern.proofs.Unifiers.{one_for_terms}
use Rattle.cp_pattern.proofs.laws.most_general_unifiers_are_determined.Goals as goal

pub returns : goal.returns
returns c = one_for_terms

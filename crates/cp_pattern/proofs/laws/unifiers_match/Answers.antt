use Rattle.cp_pattern.proofs.LawMatches.{unifier_matches}
use Rattle.cp_pattern.proofs.laws.unifiers_match.Goals as goal

pub returns : goal.returns
returns c = unifier_matches

use Rattle.cp_pattern.proofs.LawMatches.{matching_stays}
use Rattle.cp_pattern.proofs.laws.matching_stays.Goals as goal

pub returns : goal.returns
returns c = matching_stays

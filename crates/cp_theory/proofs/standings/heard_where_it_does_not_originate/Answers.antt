use Rattle.cp_theory.proofs.HeardBefore.{heard_before, not_after_its_origin}
use Rattle.cp_theory.proofs.standings.heard_where_it_does_not_originate.Goals as goal

pub returns-clause-heard : goal.returns-clause-heard
returns-clause-heard c = heard_before

pub returns-clause-not_after_its_origin : goal.returns-clause-not_after_its_origin
returns-clause-not_after_its_origin c = not_after_its_origin

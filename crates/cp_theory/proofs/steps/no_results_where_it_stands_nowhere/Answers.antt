use Rattle.cp_theory.proofs.NoStandingLost.{none_carried, none_with_two_origins, none_with_lost_origin, none_not_originating, none_with_cycle}
use Rattle.cp_theory.proofs.steps.no_results_where_it_stands_nowhere.Goals as goal

pub returns-clause-carried : goal.returns-clause-carried
returns-clause-carried c = none_carried

pub returns-clause-two_origins : goal.returns-clause-two_origins
returns-clause-two_origins c = none_with_two_origins

pub returns-clause-lost_origin : goal.returns-clause-lost_origin
returns-clause-lost_origin c = none_with_lost_origin

pub returns-clause-cycle : goal.returns-clause-cycle
returns-clause-cycle c = none_with_cycle

pub returns-clause-not_originating : goal.returns-clause-not_originating
returns-clause-not_originating c = none_not_originating

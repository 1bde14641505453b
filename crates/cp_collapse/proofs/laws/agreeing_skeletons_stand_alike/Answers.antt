use Rattle.cp_collapse.proofs.SameStandings.{same_stands, same_loses_none}
use Rattle.cp_collapse.proofs.SameSkeletons.{same_is_skeleton}
use Rattle.cp_collapse.proofs.laws.agreeing_skeletons_stand_alike.Goals as goal

pub returns-clause-stands : goal.returns-clause-stands
returns-clause-stands c = λ k l b h s. same_stands k l s b h

pub returns-clause-loses_none : goal.returns-clause-loses_none
returns-clause-loses_none c = same_loses_none

pub returns-clause-skeleton : goal.returns-clause-skeleton
returns-clause-skeleton c = λ protocol k l s. same_is_skeleton k l s protocol

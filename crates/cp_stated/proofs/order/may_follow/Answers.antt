use Rattle.std.proofs.Common.{◌++◌, subst}
use Rattle.cp_language.specs.Problems.{between_strands}
use Rattle.cp_load.specs.Acyclic.{IsAcyclicIf}
use Rattle.cp_stated.proofs.order.may_follow.Goals as goal

pub is_further-requires : goal.is_further-requires
is_further-requires c = subst (λ o. IsAcyclicIf c.args.before.acyclic (c.args.before.pairs.now ++ between_strands o)) c.in-Some.is c.requires

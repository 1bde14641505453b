use Rattle.std.proofs.Common.{[], refl}
use Rattle.cp_derive.proofs.OpenedPieces.{opened_more}
use Rattle.cp_derive.proofs.knowledge.Known.new.Goals as goal

pub invariant_of-result : goal.invariant_of-result
invariant_of-result c = opened_more [] _ _ _ _ _ _ _ c.deref.ensures.value c.deref-2.ensures.value refl c.in_ok-open_more.ensures (c.new-opening.ensures c.args.secrets.items)

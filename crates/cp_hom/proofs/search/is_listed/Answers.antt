use Rattle.std.proofs.Common.{subst}
use Rattle.cp_lists.specs.Lists.{IsIn}
use Rattle.cp_lists.proofs.Members.{item_in}
use Rattle.cp_hom.specs.declared.items.Item.{Item}
use Rattle.cp_hom.proofs.search.is_listed.Goals as goal

pub returns-then-is_same_item : goal.returns-then-is_same_item
returns-then-is_same_item c =
    λ _. subst (λ (i : Item). IsIn i c.args.items.now) (c.is_same_item.ensures.0 c.if-is_same_item.true) (item_in c.args.items.now c.loop-other.other-index _ c.loop-other-test.true)

use Rattle.std.proofs.Common.{rules, tests, ◌≡◌, ℕ, Some}
use Rattle.std.proofs.lemmas.Iterator.{cases_from_any, YieldsList-from_slice}
use Rattle.cp_lists.specs.Lists.{item_at}
use Rattle.cp_collapse.proofs.AnyItem.{some_has}
use Rattle.cp_collapse.proofs.partitions.some_in_block.Goals as goal

pub returns : goal.returns
returns c =
    let has = λ (t : ℕ). item_at c.args.partial.now.lowest.items t ≡ Some c.args.block in
    some_has has _ _ (cases_from_any _ _ _ has (λ (t : ℕ). has t → ⊥) c.any.ensures.ran (YieldsList-from_slice c.args.strands.now cc) (λ x q k. search (rules, tests)) (λ x q k. search (rules, tests)))

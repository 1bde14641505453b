use Rattle.std.proofs.Common.{◌-◌, refl, ◌∙◌}
use Rattle.std.specs.Vec.Iter.{into_iter_items, into_iter_len}
use Rattle.std.proofs.lemmas.Iterator.{items_from_collect, YieldsList-from_range}
use Rattle.std.proofs.lemmas.Result.{IfOk-weaker}
use Rattle.cp_tree.specs.Made.{made_of_child}
use Rattle.cp_search.proofs.MadeInTurn.{none_in_turn, next_in_turn, all_in_turn, made_numbers}
use Rattle.cp_search.proofs.StillToCome.{all_to_come, one_less}
use Rattle.cp_search.proofs.children.make_children.Goals as goal

pub loop-child-init : goal.loop-child-init
loop-child-init c = (
  none_in_turn (made_of_child c.args.parent) c.args.children.items (into_iter_items c.into_iter-child-iterator.result) c.args.queue.now.made c.into_iter-child-iterator.ensures.into_iter_gives.0 c.are_found.ensures,
  all_to_come c.args.children.items (into_iter_items c.into_iter-child-iterator.result) c.args.children.len (into_iter_len c.into_iter-child-iterator.result) c.args.children.ok.0 c.into_iter-child-iterator.ensures.into_iter_gives.0 c.into_iter-child-iterator.ensures.into_iter_gives.1,
  λ n kept. kept,
)

pub loop-child-preserved : goal.loop-child-preserved
loop-child-preserved c = (
  next_in_turn (made_of_child c.args.parent) c.args.children.items (into_iter_items c.loop-child.child-iterator) (into_iter_items c.next.new.self) c.in-Some.child c.args.queue.now.made c.loop-child.queue.made c.make_child.new.queue.made c.loop-child.invariant.0
      c.in-Some.ensures.steps.0 c.in_ok-make_child.ensures.made,
  one_less (into_iter_items c.loop-child.child-iterator) (into_iter_items c.next.new.self) c.in-Some.child (into_iter_len c.loop-child.child-iterator) (into_iter_len c.next.new.self) c.loop-child.invariant.1 c.in-Some.ensures.steps.0 c.in-Some.ensures.steps.1,
  λ n kept. c.in_ok-make_child.ensures.kept n (c.loop-child.invariant.2 n kept),
)

pub returns-clause-numbers : goal.returns-clause-numbers
returns-clause-numbers c =
    let all = all_in_turn (made_of_child c.args.parent) c.args.children.items (into_iter_items c.loop-child.child-iterator) c.args.queue.now.made c.loop-child.queue.made (into_iter_len c.loop-child.child-iterator) c.loop-child.invariant.0 c.loop-child.invariant.1 c.in-None.ensures.steps.0 in
    let same = made_numbers (made_of_child c.args.parent) c.args.children.items c.args.queue.now.made c.loop-child.queue.made c.len-first.result c.len.result all c.len-first.ensures c.len.ensures in
    IfOk-weaker c.collect.result _ _ (λ v e. e ∙ same) (items_from_collect c.collect.result c.collect.ensures.ran (YieldsList-from_range c.len-first.result c.len.result (c.len.result - c.len-first.result) refl refl))

use Rattle.std.proofs.Common.{List, [], refl, sym, subst}
use Rattle.std.specs.Vec.Iter.{into_iter_items, into_iter_len}
use Rattle.cp_tree.specs.Made.{made_of_root}
use Rattle.cp_search.specs.declared.made.Made.{Made}
use Rattle.cp_search.proofs.MadeInTurn.{AreMadeInTurn, none_in_turn, next_in_turn, none_found}
use Rattle.cp_search.proofs.StillToCome.{all_to_come, one_less}
use Rattle.cp_search.proofs.roots.make_roots.Goals as goal

pub loop-root-init : goal.loop-root-init
loop-root-init c =
    let left = into_iter_items c.into_iter-root-iterator.result in (
      subst (λ (ms : List Made). AreMadeInTurn made_of_root c.args.roots.items left [] ms) (sym c.new-queue.ensures.made) (none_in_turn made_of_root c.args.roots.items left [] c.into_iter-root-iterator.ensures.into_iter_gives.0 (none_found [] refl)),
      all_to_come c.args.roots.items left c.args.roots.len (into_iter_len c.into_iter-root-iterator.result) c.args.roots.ok.0 c.into_iter-root-iterator.ensures.into_iter_gives.0 c.into_iter-root-iterator.ensures.into_iter_gives.1,
      c.new-queue.ensures.kept,
    )

pub loop-root-preserved : goal.loop-root-preserved
loop-root-preserved c = (
  next_in_turn made_of_root c.args.roots.items (into_iter_items c.loop-root.root-iterator) (into_iter_items c.next.new.self) c.in-Some.root [] c.loop-root.queue.made c.make_root.new.queue.made c.loop-root.invariant.0 c.in-Some.ensures.steps.0 c.in_ok-make_root.ensures.made,
  one_less (into_iter_items c.loop-root.root-iterator) (into_iter_items c.next.new.self) c.in-Some.root (into_iter_len c.loop-root.root-iterator) (into_iter_len c.next.new.self) c.loop-root.invariant.1 c.in-Some.ensures.steps.0 c.in-Some.ensures.steps.1,
  c.in_ok-make_root.ensures.kept 0 c.loop-root.invariant.2,
)

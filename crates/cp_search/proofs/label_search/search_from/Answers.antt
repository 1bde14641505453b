use Rattle.std.proofs.Common.{ℕ, map, length, sym, ap, subst}
use Rattle.cp_tree.specs.Made.{made_of_root}
use Rattle.cp_search.specs.ResolvedLabels.{IsSearched}
use Rattle.cp_search.specs.WaitingRecords.{AreKept}
use Rattle.cp_search.proofs.KeptRecords.{none_after}
use Rattle.cp_search.proofs.SearchedFrom.{searched_first}
use Rattle.cp_search.proofs.label_search.search_from.Goals as goal

pub loop-search-init : goal.loop-search-init
loop-search-init c = (
  searched_first c.args.protocol.now c.args.limits c.args.roots.items c.in_ok-queue.queue.made c.in_ok-queue.ensures.made c.requires.sound c.new.result.items c.new.ensures.items,
  subst (λ (n : ℕ). AreKept n c.in_ok-queue.queue) (sym (ap length c.new.ensures.items)) c.in_ok-queue.ensures.kept,
)

pub expand_next-requires-clause-sound : goal.expand_next-requires-clause-sound
expand_next-requires-clause-sound c =
    let r : IsSearched c.args.protocol.now c.args.limits (map made_of_root c.args.roots.items) c.resolve_leaves.new.search.queue.made c.resolve_leaves.new.search.settled.items c.resolve_leaves.new.search.expanded = c.in_ok-waiting.ensures.searched c.args.protocol.now (map made_of_root c.args.roots.items) c.loop-search.invariant.0 in
    r.sound

pub returns-clause-none_left : goal.returns-clause-none_left
returns-clause-none_left c =
    let s = c.resolve_leaves.new.search in
    none_after (length s.settled.items) s.queue _ c.in_ok-waiting.field-0 c.in_default.is c.loop-search.invariant.0.within c.in_ok-waiting.ensures.all c.in_ok-waiting.ensures.kept

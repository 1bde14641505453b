use Rattle.std.proofs.Common.{◌≡◌, ◌<◌, ◌+◌, ℕ, [], ◌∷◌, ◌++◌, length, Option, Some, IfSome, IfNone, sym, ap, subst, ◌∙◌, arith}
use Rattle.cp_lists.proofs.Appended.{length_pushed}
use Rattle.cp_search.specs.declared.label_search.Search.{Search}
use Rattle.cp_search.specs.declared.waiting.Waiting.{Waiting}
use Rattle.cp_search.specs.ResolvedLabels.{IsNextToExpand, IsSearched}
use Rattle.cp_search.specs.WaitingRecords.{AreKept}
use Rattle.cp_search.proofs.ExpandedNext.{next_to_expand, realised_rests}
use Rattle.cp_search.proofs.KeptRecords.{kept_still, kept_later}
use Rattle.cp_search.proofs.ResolvedLeaves.{ResolvesLeaf, by_mark, by_generalising, leaf_pushed}
use Rattle.cp_search.proofs.WaitingLabels.{OneResolved, one_resolved}
use Rattle.cp_search.proofs.label_search.resolve_leaves.Goals.{After-len-next, After-take, In_ok-push, in-Leaf, in-Realised+in_ok-settled-in-Realised}
use Rattle.cp_search.proofs.label_search.resolve_leaves.Goals as goal

-- the next label is there
there : (c : After-len-next) → c.len-next.result < length c.loop-alloc.search.queue.made
there c =
    let test = c.loop-alloc-test.true in
    let s = c.len.ensures in
    let m = c.len-in-loop-alloc.ensures in
    let place = c.len-next.ensures in
    omega (arith, test, s, m, place)

pub label-requires : goal.label-requires
label-requires c = there (goal.at.label-requires c).After-len-next

pub take-requires : goal.take-requires
take-requires c = record { there = there (goal.at.take-requires c).After-len-next }

pub resolve_leaf-settled-requires : goal.resolve_leaf-settled-requires
resolve_leaf-settled-requires c = record { there = there (goal.at.resolve_leaf-settled-requires c).After-len-next }

pub resolve_realised-requires : goal.resolve_realised-requires
resolve_realised-requires c = record { there = there (goal.at.resolve_realised-requires c).After-len-next }

-- the label that is to be expanded, whose record is taken out
to_expand : (c : After-take) → (w : Waiting) × (c.take.result ≡ Some w) × IsNextToExpand c.args.limits (record c.loop-alloc.search { queue = c.take.new.self }) w
to_expand c =
    let place : c.len-next.result ≡ length c.loop-alloc.search.settled.items = c.len-next.ensures ∙ c.loop-alloc.search.settled.ok.0 in
    next_to_expand c.args.limits c.loop-alloc.search c.take.new.self c.len-next.result c.label.result.now c.take.result place c.label.ensures (sym c.rule_of.ensures ∙ c.in-Tested.is) c.loop-alloc.invariant.kept c.take.ensures.made c.take.ensures.taken

pub returns-in-Tested-clause-next : goal.returns-in-Tested-clause-next
returns-in-Tested-clause-next c =
    let w = to_expand (goal.at.returns-in-Tested-clause-next c).After-take in
    subst (λ (found : Option Waiting). IfSome found (IsNextToExpand c.args.limits (record c.loop-alloc.search { queue = c.take.new.self }))) (sym w.1) w.2

some_taken : (c : After-take) (Nothing : Type 0) → IfNone c.take.result Nothing
some_taken c Nothing = let w = to_expand c in subst (λ (found : Option Waiting). IfNone found Nothing) (sym w.1) tt

pub returns-in-Tested-clause-all : goal.returns-in-Tested-clause-all
returns-in-Tested-clause-all c = some_taken (goal.at.returns-in-Tested-clause-all c).After-take _

pub returns-in-Tested-clause-kept : goal.returns-in-Tested-clause-kept
returns-in-Tested-clause-kept c = some_taken (goal.at.returns-in-Tested-clause-kept c).After-take _

-- what the label becomes
resolved : (c : In_ok-push) → ResolvesLeaf c.len-next.result c.loop-alloc.search.queue.made c.match-rule_of.search.queue.made c.rule_of.result c.match-rule_of.settled
resolved c =
    elim c.match-rule_of.branch [
      | in-Leaf w ↦
          by_mark c.len-next.result c.loop-alloc.search.queue.made c.match-rule_of.search.queue.made c.rule_of.result w.in-Leaf.mark c.match-rule_of.settled w.in-Leaf.is (w.settled-is ∙ w.resolve_leaf-settled.ensures.leaf) (ap (λ (s : Search). s.queue.made) w.search-is ∙ w.resolve_leaf-settled.ensures.made)
      | in-Realised+in_ok-settled-in-Realised w ↦
          by_generalising c.len-next.result c.loop-alloc.search.queue.made w.resolve_realised.new.queue.made c.match-rule_of.search.queue.made c.rule_of.result _ c.match-rule_of.settled w.in-Realised.is w.in_ok-settled-in-Realised.ensures.resolved (ap (λ (s : Search). s.queue.made) w.search-is) w.settled-is
    ]

-- what stays so until it is pushed
kept : (c : In_ok-push) → (c.match-rule_of.search.settled.items ≡ c.loop-alloc.search.settled.items) × (c.match-rule_of.search.expanded ≡ c.loop-alloc.search.expanded)
kept c =
    elim c.match-rule_of.branch [
      | in-Leaf w ↦ (ap (λ (s : Search). s.settled.items) w.search-is, ap (λ (s : Search). s.expanded) w.search-is)
      | in-Realised+in_ok-settled-in-Realised w ↦ (ap (λ (s : Search). s.settled.items) w.search-is, ap (λ (s : Search). s.expanded) w.search-is)
    ]

-- the records of the labels behind it
others : (c : In_ok-push) → AreKept c.len-next.result c.loop-alloc.search.queue → AreKept (c.len-next.result + 1) c.match-rule_of.search.queue
others c h =
    elim c.match-rule_of.branch [
      | in-Leaf w ↦ kept_still (c.len-next.result + 1) w.resolve_leaf-settled.new.queue c.match-rule_of.search.queue (ap (λ (s : Search). s.queue) w.search-is) (w.resolve_leaf-settled.ensures.others h)
      | in-Realised+in_ok-settled-in-Realised w ↦
          let never = realised_rests c.args.limits c.loop-alloc.search.expanded c.label.result.now (sym w.in-Realised.is ∙ c.rule_of.ensures) in
          kept_still (c.len-next.result + 1) w.resolve_realised.new.queue c.match-rule_of.search.queue (ap (λ (s : Search). s.queue) w.search-is)
          (w.in_ok-settled-in-Realised.ensures.kept (c.len-next.result + 1) (kept_later c.len-next.result c.loop-alloc.search.queue c.label.result.now c.label.ensures h never))
    ]

pushed : (c : In_ok-push) → c.push.new.self.items ≡ c.loop-alloc.search.settled.items ++ c.match-rule_of.settled ∷ []
pushed c = c.in_ok-push.ensures.items ∙ ap (λ ss. ss ++ c.match-rule_of.settled ∷ []) (kept c).0

-- what comes of it when it is resolved
one : (c : In_ok-push) → OneResolved c.loop-alloc.search.queue.made c.match-rule_of.search.queue.made c.loop-alloc.search.settled.items c.push.new.self.items
one c =
    one_resolved c.loop-alloc.search.queue.made c.match-rule_of.search.queue.made c.loop-alloc.search.settled.items c.push.new.self.items c.len-next.result c.label.result.now c.rule_of.result c.match-rule_of.settled
    (c.len-next.ensures ∙ c.loop-alloc.search.settled.ok.0) c.label.ensures (resolved c) (pushed c)

pub loop-alloc-preserved : goal.loop-alloc-preserved
loop-alloc-preserved c =
    let place : c.len-next.result ≡ length c.loop-alloc.search.settled.items = c.len-next.ensures ∙ c.loop-alloc.search.settled.ok.0 in
    let longer : length c.push.new.self.items ≡ c.len-next.result + 1 = let e = ap length (pushed c) in let f = length_pushed c.loop-alloc.search.settled.items c.match-rule_of.settled in omega (arith, e, f, place) in
    record {
      searched = λ protocol made h.
          subst (IsSearched protocol c.args.limits made c.match-rule_of.search.queue.made c.push.new.self.items) (sym (kept c).1)
          (leaf_pushed protocol c.args.limits made c.loop-alloc.search.queue.made c.match-rule_of.search.queue.made c.loop-alloc.search.settled.items c.push.new.self.items c.loop-alloc.search.expanded c.label.result.now c.rule_of.result
          c.match-rule_of.settled c.len-next.result (c.loop-alloc.invariant.searched protocol made h) c.label.ensures c.rule_of.ensures (resolved c) place (pushed c));
      within = λ _. (one c).within;
      expanded = (kept c).1 ∙ c.loop-alloc.invariant.expanded;
      kept = subst (λ (n : ℕ). AreKept n c.match-rule_of.search.queue) (sym longer) (others c (subst (λ (n : ℕ). AreKept n c.loop-alloc.search.queue) (sym place) c.loop-alloc.invariant.kept));
    }

pub loop-alloc-smaller : goal.loop-alloc-smaller
loop-alloc-smaller c = (one c).fewer_left

use Rattle.std.proofs.Common.{◌≡◌, ◌≢◌, ℕ, ◌+◌, ◌<◌, [], length, false, refl, sym, ap, subst, ◌∙◌, arith}
use Rattle.cp_lists.proofs.Appended.{length_pushed}
use Rattle.cp_lists.proofs.Items.{item_below}
use Rattle.cp_skel.specs.Events.{events_of}
use Rattle.cp_search.specs.declared.made.Made.{Made}
use Rattle.cp_search.specs.declared.resolved.Resolved.TheVariants as settled
use Rattle.cp_search.specs.WaitingRecords.{AreKept}
use Rattle.cp_search.proofs.ExpandedNext.{expanded_pushed, found_to_expand, tested_waits}
use Rattle.cp_search.proofs.label_search.expand_next.Goals as goal

pub expand_label-requires : goal.expand_label-requires
expand_label-requires c =
    let next = c.requires.next in
    let made = c.args.search.now.queue.made in
    let place = next.own.number in
    let waits = tested_waits c.args.limits c.args.search.now.expanded next.label next.expands in
    record {
      there = subst (λ (i : ℕ). i < length made) (sym place) (item_below made (length c.args.search.now.settled.items) next.label next.at);
      sound = c.requires.sound;
      unrealised = λ m at.
          let same : next.label ≡ m = found_to_expand c.args.waiting.label (length c.args.search.now.settled.items) made next.label m next.at place at in
          subst (λ (x : Made). (x.dead ≡ false) × (x.unrealised ≢ [])) same (waits.lives, waits.unrealised);
      events = λ m at.
          let same : next.label ≡ m = found_to_expand c.args.waiting.label (length c.args.search.now.settled.items) made next.label m next.at place at in
          c.deref.ensures.value ∙ next.own.events ∙ ap (λ (x : Made). events_of x.skeleton) same;
    }

pub returns-clause-searched : goal.returns-clause-searched
returns-clause-searched c = λ made h.
    expanded_pushed c.args.protocol.now c.args.limits made c.args.search.now.queue.made c.expand_label.new.queue.made c.args.search.now.settled.items c.args.waiting.label c.args.search.now.expanded c.in_ok-expanded.expanded c.requires.next.label h
    c.requires.next.at c.requires.next.expands c.requires.next.own.number c.in_ok-expanded.ensures.expanded c.push.new.self.items c.in_ok-push.ensures.items (c.args.search.now.expanded + 1) refl

pub returns-clause-kept : goal.returns-clause-kept
returns-clause-kept c =
    let n = length c.args.search.now.settled.items + 1 in
    let longer : length c.push.new.self.items ≡ n = let e = ap length c.in_ok-push.ensures.items in let f = length_pushed c.args.search.now.settled.items (settled.Expanded c.in_ok-expanded.expanded) in omega (arith, e, f) in
    subst (λ (k : ℕ). AreKept k c.expand_label.new.queue) (sym longer) (c.in_ok-expanded.ensures.kept n c.requires.next.others)

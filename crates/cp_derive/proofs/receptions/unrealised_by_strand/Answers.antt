use Rattle.std.proofs.Common.{◌≡◌, ◌≤◌, length, List, arith, refl, ap, sym, subst, ◌∙◌}
use Rattle.cp_skel.specs.Events.{LocatedEvent, events_of}
use Rattle.cp_derive.proofs.ByStrand.{left_length, picked_between, start_within, whole_picked, all_gone_through}
use Rattle.cp_derive.proofs.receptions.unrealised_by_strand.Goals as goal

pub start_of_next-start-requires : goal.start_of_next-start-requires
start_of_next-start-requires c =
    let left : length c.split_at.result.0.now ≡ c.loop-end.end = left_length c.events-occurrences.result.now c.split_at.result.0.now c.loop-end.end c.split_at.ensures.front c.loop-end.invariant.within in
    omega (arith, c.loop-end-test.true)

pub unrealised_between-requires-clause-start : goal.unrealised_between-requires-clause-start
unrealised_between-requires-clause-start c =
    let left : length c.split_at.result.0.now ≡ c.loop-end.end = left_length c.events-occurrences.result.now c.split_at.result.0.now c.loop-end.end c.split_at.ensures.front c.loop-end.invariant.within in
    omega (arith, c.start_of_next-start.ensures)

pub unrealised_between-requires-clause-end : goal.unrealised_between-requires-clause-end
unrealised_between-requires-clause-end c =
    subst (λ (os : List LocatedEvent). c.loop-end.end ≤ length os) (c.events-occurrences.ensures ∙ ap events_of (sym c.loop-end.invariant.skeleton)) c.loop-end.invariant.within

pub loop-end-preserved : goal.loop-end-preserved
loop-end-preserved c =
    let within : c.start_of_next-start.result ≤ length c.events-occurrences.result.now =
    start_within c.events-occurrences.result.now c.split_at.result.0.now c.loop-end.end c.start_of_next-start.result c.split_at.ensures.front c.start_of_next-start.ensures c.loop-end.invariant.within in
    record {
      skeleton = c.in_ok-more.ensures.skeleton ∙ c.loop-end.invariant.skeleton;
      within = within;
      picks = picked_between c.args.survey.now c.loop-end.known_before.skeleton c.events-occurrences.result.now c.split_at.result.0.now c.loop-end.end c.start_of_next-start.result
          c.split_at.ensures.front c.events-occurrences.ensures c.loop-end.invariant.skeleton c.start_of_next-start.ensures c.loop-end.invariant.within
          c.loop-end.nodes.items c.in_ok-more.more.items c.reverse.new.self.items c.append.new.self.items c.in_ok-more.ensures.picks c.reverse.ensures.items c.in_ok-append.ensures.items
          c.loop-end.invariant.picks;
    }

pub loop-end-smaller : goal.loop-end-smaller
loop-end-smaller c =
    let left : length c.split_at.result.0.now ≡ c.loop-end.end = left_length c.events-occurrences.result.now c.split_at.result.0.now c.loop-end.end c.split_at.ensures.front c.loop-end.invariant.within in
    omega (arith, c.start_of_next-start.ensures)

pub loop-end-init : goal.loop-end-init
loop-end-init c = record {
  skeleton = c.in_ok-known_before.ensures;
  within = omega arith;
  picks = whole_picked c.args.survey.now c.events-occurrences.result.now (length c.events-occurrences.result.now) c.new-nodes.result.items refl c.new-nodes.ensures.items;
}

pub returns : goal.returns
returns c =
    all_gone_through c.args.survey.now c.events-occurrences.result.now c.loop-end.end c.loop-end.nodes.items c.reverse-2.new.self.items
    (omega (arith, c.loop-end-test.false)) c.events-occurrences.ensures c.reverse-2.ensures.items c.loop-end.invariant.picks

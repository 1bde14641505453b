use Rattle.std.proofs.Common.{[], map, drop, sym, ap, ◌∙◌}
use Rattle.std.proofs.lemmas.List.{drop_all}
use Rattle.std.specs.Map.{lookup}
use Rattle.std.specs.Prelude.{nat_eq}
use Rattle.cp_order.specs.PredecessorNodes.{tops_of, is_within}
use Rattle.cp_load.specs.declared.acyclic.Ranked.{Ranked}
use Rattle.cp_load.proofs.NoCycles.{swept-first, swept-step, swept-all}
use Rattle.cp_load.proofs.acyclic.none_leads_back.Goals as goal

pub loop-next-init : goal.loop-next-init
loop-next-init c =
    ([], swept-first (map (λ (r : Ranked). r.pair) c.args.ranked.now) (tops_of c.new-tops.result) (λ x. ap (λ es. is_within (lookup (nat_eq x.strand) es) x.index) c.new-tops.ensures.empty))

pub loop-next-preserved : goal.loop-next-preserved
loop-next-preserved c =
    swept-step (λ (r : Ranked). r.pair) c.args.ranked.now c.loop-next.next-index _ (tops_of c.loop-next.tops) (tops_of c.raise.new.tops) c.loop-next-test.true c.loop-next.invariant c.in_ok-raise.ensures
    (sym c.is_below.ensures ∙ c.if-is_below.false)

pub returns : goal.returns
returns c = λ e.
    swept-all (map (λ (r : Ranked). r.pair) c.args.ranked.now) (map (λ (r : Ranked). r.pair) (drop c.loop-next.next-index c.args.ranked.now)) c.loop-next.invariant.0 (tops_of c.loop-next.tops)
    (ap (map (λ (r : Ranked). r.pair)) (drop_all c.loop-next.next-index c.args.ranked.now c.loop-next-test.false)) c.loop-next.invariant.1

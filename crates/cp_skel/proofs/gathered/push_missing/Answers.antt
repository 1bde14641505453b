use Rattle.std.proofs.Common.{inl, inr, sym, subst}
use Rattle.std.proofs.lemmas.Bool.{both_ways}
use Rattle.cp_lists.specs.Lists.{IsIn}
use Rattle.cp_skel.proofs.EachOnce.{put-nowhere, put-behind, if_pushed}
use Rattle.cp_skel.proofs.gathered.push_missing.Goals as goal
use Rattle.cp_skel.proofs.gathered.push_missing.Goals.{then-has-via-then-has, then-has-via-else-has+then-has-2}

pub returns-then-has : goal.returns-then-has
returns-then-has g c =
    elim c.then-has.branch [
      | then-has-via-then-has w ↦ put-nowhere g.met.T.Gathered.gathers c.args.old.now c.args.more.now.items c.args.item (inl (c.has.ensures.0 w.if-has.true))
      | then-has-via-else-has+then-has-2 w ↦ put-nowhere g.met.T.Gathered.gathers c.args.old.now c.args.more.now.items c.args.item
          (inr (subst (IsIn c.args.item) w.deref.ensures.value (w.has-else-has.ensures.0 w.if-has-2.true)))
    ]

pub returns : goal.returns
returns g c =
    if_pushed c.args.more.now.items c.push.result c.map_err.result c.push.ensures.items c.map_err.ensures.variant
    (put-behind g.met.T.Gathered.gathers c.args.old.now c.args.more.now.items c.push.new.self.items c.args.item
    (λ i. both_ways c.has.result c.if-has.false (c.has.ensures.1 i))
    (λ i. both_ways c.has-else-has.result c.if-has-2.false (c.has-else-has.ensures.1 (subst (IsIn c.args.item) (sym c.deref.ensures.value) i))))

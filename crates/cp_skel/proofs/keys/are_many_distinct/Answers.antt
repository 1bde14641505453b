use Rattle.std.proofs.Common.{◌+◌, take, sym, subst}
use Rattle.std.proofs.lemmas.Bool.{both_ways}
use Rattle.cp_lists.specs.Lists.{IsIn}
use Rattle.cp_skel.specs.KeyTable.{HasKey}
use Rattle.cp_skel.proofs.AlreadyListed.{one-more}
use Rattle.cp_skel.proofs.KeyLaws.{once_more, each_more}
use Rattle.cp_skel.proofs.keys.are_many_distinct.Goals as goal
use Rattle.cp_skel.proofs.keys.are_many_distinct.Goals.{else-not-is_new-via-then-not-is_new+else-has, else-not-is_new-via-else-not-is_new}

pub loop-index-preserved : goal.loop-index-preserved
loop-index-preserved g c =
    let items = c.args.items.now in
    let n = c.loop-index.index in
    let item = c.index-items-index.result in
    let key = g.T.Gathered.key in
    let has_key = λ (v : _). HasKey c.put.new.self (key v) in
    let apart : IsIn item (take n items) → ⊥ = elim c.else-not-is_new.branch [
      | else-not-is_new-via-then-not-is_new+else-has w ↦ λ i. both_ways w.has.result w.if-has.false (w.has.ensures.1 (subst (IsIn item) (sym c.split_at.ensures.front) i))
      | else-not-is_new-via-else-not-is_new w ↦ λ i. c.in-Ok.ensures.new w.if-not-is_new.false (subst (HasKey c.loop-index.keys) (sym c.key.ensures) (c.loop-index.invariant.keyed item i))
    ] in
    record {
      once = once_more items n item c.loop-index-test.true c.index-items-index.is apart c.loop-index.invariant.once;
      keyed = each_more has_key (take n items) (take (n + 1) items) item (one-more items n item c.loop-index-test.true c.index-items-index.is)
          (λ v i. c.in-Ok.ensures.kept (key v) (c.loop-index.invariant.keyed v i)) (subst (HasKey c.put.new.self) c.key.ensures c.in-Ok.ensures.there);
    }

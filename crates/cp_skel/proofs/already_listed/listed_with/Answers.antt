use Rattle.std.proofs.Common.{◌≡◌, ◌+◌, [], ◌∷◌, sym, subst}
use Rattle.std.proofs.lemmas.Bool.{both_ways}
use Rattle.cp_lists.specs.Lists.{IsIn}
use Rattle.cp_skel.specs.InOrder.{ListsTo}
use Rattle.cp_skel.proofs.AlreadyListed.{lists-known, lists-next, lists-other}
use Rattle.cp_skel.proofs.already_listed.listed_with.Goals as goal

pub returns-then-has : goal.returns-then-has
returns-then-has g c =
    lists-known g.met.T.Gathered.gathers c.args.old.now c.args.count c.args.item.now c.requires (subst (IsIn c.args.item.now) c.split_at.ensures.front (c.has.ensures.0 c.if-has.true))

pub returns : goal.returns
returns g c =
    lists-other g.met.T.Gathered.gathers c.args.old.now c.args.count c.args.item.now c.requires
    (λ i. both_ways c.has.result c.if-has.false (c.has.ensures.1 (subst (IsIn c.args.item.now) (sym c.split_at.ensures.front) i)))
    (λ i. both_ways c.has-2.result c.if-has-2.false (c.has-2.ensures.1 (subst (IsIn c.args.item.now) (sym c.split_at.ensures.back) i)))

pub returns-then-is_same : goal.returns-then-is_same
returns-then-is_same g c =
    let old = c.args.old.now in
    let same : c.index-old-count.result ≡ c.args.item.now = c.is_same.ensures.0 c.if-is_same.true in
    subst (λ v. ListsTo g.T.Gathered.among g.T.Gathered.onto old c.args.count (v ∷ []) (c.args.count + 1)) same
    (lists-next g.met.T.Gathered.gathers old c.args.count c.index-old-count.result c.if-count-old.true c.index-old-count.is)

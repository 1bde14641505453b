use Rattle.std.proofs.Common.{rules, ◌≡◌, sym, subst}
use Rattle.cp_lists.proofs.Collected.{if_mapped}
use Rattle.cp_model.specs.Skeleton.{Skeleton}
use Rattle.cp_cohort.specs.CoveringChildren.{HasGrown}
use Rattle.cp_cohort.proofs.grown_skeletons.grown_to.Goals as goal

pub grow-requires : goal.grow-requires
grow-requires c = record { there = c.requires.there; reached = c.requires.reached }

pub returns : goal.returns
returns c =
    if_mapped c.grow.result c.map.result (λ u l grown k j is.
    let told : l ≡ c.grow.new.k = search rules in
    subst (λ (h : Skeleton). HasGrown c.args.strand c.args.instance.now.role c.args.instance.now.height j c.args.k h) (sym told) (grown j is)) c.grow.ensures c.map.ensures.cases

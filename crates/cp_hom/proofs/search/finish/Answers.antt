use Rattle.std.proofs.Common.{◌≡◌, List, sym, subst, subst₂, ◌∙◌}
use Rattle.cp_model.specs.Homomorphism.{SkeletonMap, IsEmbedding}
use Rattle.cp_model.specs.declared.node.OrderPair.{OrderPair}
use Rattle.cp_model.specs.Skeleton.{SkeletonStrand}
use Rattle.cp_model.proofs.CarriedParts.{not_both}
use Rattle.cp_hom.specs.Maps.{map_view}
use Rattle.cp_hom.specs.PartialMaps.{partial_view, map_of}
use Rattle.cp_hom.specs.Counterparts.{KeepsApart, KeepsPairs}
use Rattle.cp_hom.proofs.Embedded.{whole_embeds, apart_never, pairs_never}
use Rattle.cp_hom.proofs.search.finish.Goals as goal

-- what was checked, and what it says
same_apart : (xs ys : List SkeletonStrand) (f g : SkeletonMap) → xs ≡ ys → f ≡ g → KeepsApart xs f.strands → KeepsApart ys g.strands
same_apart xs ys f g e d h = subst₂ (λ (zs : List SkeletonStrand) (k : SkeletonMap). KeepsApart zs k.strands) e d h

same_pairs : (ps qs rs ss : List OrderPair) (f g : SkeletonMap) → ps ≡ qs → rs ≡ ss → f ≡ g → KeepsPairs ps rs f → KeepsPairs qs ss g
same_pairs ps qs rs ss f g e d k h = subst (KeepsPairs qs ss) k (subst₂ (λ (xs ys : List OrderPair). KeepsPairs xs ys f) e d h)

pub returns-then-not-keeps_apart-clause-none : goal.returns-then-not-keeps_apart-clause-none
returns-then-not-keeps_apart-clause-none c =
    apart_never c.args.a.now c.args.b.now (partial_view c.args.given) c.requires.whole
    (λ apart. not_both c.if-not-keeps_apart.true
    (c.keeps_apart.ensures.1 (same_apart c.args.a.now.strands c.strands.result.now (map_of (partial_view c.args.given)) (map_view c.in_ok-mapping.mapping) (sym c.strands.ensures) (sym c.in_ok-mapping.ensures) apart)))

pub returns-then-not-branch-clause-none : goal.returns-then-not-branch-clause-none
returns-then-not-branch-clause-none c =
    pairs_never c.args.a.now c.args.b.now (partial_view c.args.given) c.requires.ordered c.requires.other_ordered c.requires.whole
    (λ kept. not_both c.if-not-branch.true
    (c.in_ok-keeps_pairs.ensures.1 (same_pairs c.args.a.now.pairs c.pairs.result.now c.args.b.now.pairs c.pairs-2.result.now
    (map_of (partial_view c.args.given)) (map_view c.in_ok-mapping.mapping) (sym c.order.ensures ∙ sym c.pairs.ensures) (sym c.order-2.ensures ∙ sym c.pairs-2.ensures) (sym c.in_ok-mapping.ensures) kept)))

pub returns-clause-some : goal.returns-clause-some
returns-clause-some c =
    subst (IsEmbedding c.args.a.now c.args.b.now) (sym c.in_ok-mapping.ensures)
    (whole_embeds c.args.a.now c.args.b.now (partial_view c.args.given) c.requires.ordered c.requires.other_ordered c.requires.whole
    (same_apart c.strands.result.now c.args.a.now.strands (map_view c.in_ok-mapping.mapping) (map_of (partial_view c.args.given)) c.strands.ensures c.in_ok-mapping.ensures
    (c.keeps_apart.ensures.0 c.if-not-keeps_apart.false))
    (same_pairs c.pairs.result.now c.args.a.now.pairs c.pairs-2.result.now c.args.b.now.pairs (map_view c.in_ok-mapping.mapping) (map_of (partial_view c.args.given))
    (c.pairs.ensures ∙ c.order.ensures) (c.pairs-2.ensures ∙ c.order-2.ensures) c.in_ok-mapping.ensures (c.in_ok-keeps_pairs.ensures.0 c.if-not-branch.false)))

use Rattle.std.proofs.Common.{◌++◌, ◌∷◌, [], ap, ◌∙◌}
use Rattle.cp_roles.specs.Named.{shared_roles_view}
use Rattle.cp_model.specs.Skeleton.{SkeletonStrand}
use Rattle.cp_report.specs.Heads.{strand_heads}
use Rattle.cp_report.specs.Skeletons.{strand_of}
use Rattle.cp_spelled.specs.Views.{scope_view}
use Rattle.cp_stated.proofs.FormLists.{headed-made, headed-left}
use Rattle.cp_stated.proofs.stated_strands.strands_of.Goals as goal

pub loop-item-preserved-then-not-is_strand : goal.loop-item-preserved-then-not-is_strand
loop-item-preserved-then-not-is_strand c =
    headed-left strand_heads c.args.items.now c.loop-item.item-index c.item-item.result c.loop-item-test.true c.item-item.is (strand_of (shared_roles_view c.args.roles.now) (scope_view c.args.scope))
    c.is_strand.result c.is_strand.ensures c.if-not-is_strand.true c.loop-item.strands.items _ c.loop-item.invariant

pub loop-item-preserved : goal.loop-item-preserved
loop-item-preserved c =
    let make = strand_of (shared_roles_view c.args.roles.now) (scope_view c.args.scope) in
    let old = c.loop-item.strands.items in
    headed-made strand_heads c.args.items.now c.loop-item.item-index c.item-item.result c.loop-item-test.true c.item-item.is make
    c.is_strand.result c.is_strand.ensures c.if-not-is_strand.false old c.push.new.self.items _
    (c.in_ok-push.ensures.items ∙ ap (λ (s : SkeletonStrand). old ++ s ∷ []) c.in_ok-strand.ensures) c.loop-item.invariant

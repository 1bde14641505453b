use Rattle.cp_shapes.proofs.RisingRows.{row_without, row_with, whole_row}
use Rattle.cp_shapes.proofs.InstancesByEmbeddings.{kept_apart, instance_below}
use Rattle.cp_shapes.proofs.rows.row_of.Goals as goal

pub loop-shape-preserved-then-not-may_embed : goal.loop-shape-preserved-then-not-may_embed
loop-shape-preserved-then-not-may_embed c =
    row_without _ c.args.instance c.loop-shape.shape c.loop-shape.row.items c.loop-shape.invariant
    (kept_apart (λ k. k.now) c.args.candidates.now c.args.signatures.now c.args.instance c.loop-shape.shape c.index-signatures-shape.result c.index-signatures-instance.result c.may_embed.result c.requires.signatures c.index-signatures-shape.is c.index-signatures-instance.is c.if-not-may_embed.true c.may_embed.ensures.kept)

pub loop-shape-preserved : goal.loop-shape-preserved
loop-shape-preserved c =
    row_with _ c.args.instance c.loop-shape.shape c.loop-shape.row.items c.loop-shape.invariant (c.in_ok-is_instance.ensures.0 c.if-not-branch.false) c.push.new.self.items c.in_ok-push.ensures.items

pub returns : goal.returns
returns c =
    whole_row _ c.args.instance c.loop-shape.shape c.loop-shape.row.items c.loop-shape.invariant
    (λ k h. instance_below (λ k. k.now) c.args.candidates.now c.args.instance k c.loop-shape.shape c.loop-shape-test.false h)

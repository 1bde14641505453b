use Rattle.cp_lists.proofs.Items.{map_of_read}
use Rattle.cp_shapes.proofs.InstancesByEmbeddings.{does_not_embed, embeds_here, comes_first, comes_later}
use Rattle.cp_shapes.proofs.rows.is_instance.Goals as goal

pub returns-then-is_none : goal.returns-then-is_none
returns-then-is_none c =
    let m = map_of_read (λ k. k.now) c.args.candidates.now c.args.instance c.index-candidates-instance.result c.requires.instance_within c.index-candidates-instance.is in
    let n = map_of_read (λ k. k.now) c.args.candidates.now c.args.shape c.index-candidates-shape.result c.requires.shape_within c.index-candidates-shape.is in
    does_not_embed _ c.args.instance c.args.shape _ _ m n c.in_ok-embed.field-0 c.is_none.result c.is_none.ensures c.if-is_none.true c.in_ok-embed.ensures.none

pub returns-then-shape-instance-2 : goal.returns-then-shape-instance-2
returns-then-shape-instance-2 c =
    let m = map_of_read (λ k. k.now) c.args.candidates.now c.args.instance c.index-candidates-instance.result c.requires.instance_within c.index-candidates-instance.is in
    let n = map_of_read (λ k. k.now) c.args.candidates.now c.args.shape c.index-candidates-shape.result c.requires.shape_within c.index-candidates-shape.is in
    comes_first _ c.args.instance c.args.shape _ _ m n c.if-shape-instance.false
    (embeds_here _ c.args.instance c.args.shape _ _ m n c.in_ok-embed.field-0 c.is_none.result c.is_none.ensures c.if-is_none.false c.in_ok-embed.ensures.some) c.if-shape-instance-2.true

pub returns : goal.returns
returns c =
    let m = map_of_read (λ k. k.now) c.args.candidates.now c.args.instance c.index-candidates-instance.result c.requires.instance_within c.index-candidates-instance.is in
    let n = map_of_read (λ k. k.now) c.args.candidates.now c.args.shape c.index-candidates-shape.result c.requires.shape_within c.index-candidates-shape.is in
    let m-2 = map_of_read (λ k. k.now) c.args.candidates.now c.args.instance c.index-candidates-instance-2.result c.requires.instance_within c.index-candidates-instance-2.is in
    let n-2 = map_of_read (λ k. k.now) c.args.candidates.now c.args.shape c.index-candidates-shape-2.result c.requires.shape_within c.index-candidates-shape-2.is in
    comes_later _ c.args.instance c.args.shape _ _ m-2 n-2 c.in_ok-back.back c.is_none-2.result c.is_none-2.ensures c.in_ok-back.ensures.some c.in_ok-back.ensures.none c.if-shape-instance.false
    (embeds_here _ c.args.instance c.args.shape _ _ m n c.in_ok-embed.field-0 c.is_none.result c.is_none.ensures c.if-is_none.false c.in_ok-embed.ensures.some) c.if-shape-instance-2.false

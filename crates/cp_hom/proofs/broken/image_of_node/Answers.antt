use Rattle.std.proofs.Common.{sym, ◌∙◌}
use Rattle.cp_hom.proofs.Images.{node_there}
use Rattle.cp_hom.proofs.broken.image_of_node.Goals as goal

pub returns : goal.returns
returns c = λ f placed. node_there f c.args.placements.now c.args.node c.in_ok-strand.strand (sym c.image_of.ensures ∙ c.in_ok-strand.was) placed

use Rattle.cp_stated.proofs.images.pair_image.Goals as goal

pub returns : goal.returns
returns c = λ values i. record { earlier = c.node_image.ensures i; later = c.node_image-2.ensures i }

use Rattle.cp_shapes.proofs.Instances.{shapes_apart}
use Rattle.cp_shapes.proofs.laws.shapes_are_apart.Goals as goal

pub returns : goal.returns
returns c = shapes_apart

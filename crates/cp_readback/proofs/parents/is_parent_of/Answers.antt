use Rattle.cp_lists.specs.Lists.{item_at}
use Rattle.std.specs.Prelude.{Some, None}
use Rattle.cp_readback.specs.Families.{labels_of}
use Rattle.cp_readback.proofs.Relations.{parent-is}
use Rattle.cp_readback.proofs.parents.is_parent_of.Goals as goal

pub returns-in-Some : goal.returns-in-Some
returns-in-Some c = parent-is c.args.parent (item_at (labels_of c.args.family.now) c.args.label) (Some c.in-Some.stated) c.in-Some.ensures

pub returns-in-None : goal.returns-in-None
returns-in-None c = parent-is c.args.parent (item_at (labels_of c.args.family.now) c.args.label) None c.in-None.ensures

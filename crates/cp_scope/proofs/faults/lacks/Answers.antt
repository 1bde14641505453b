use Rattle.std.proofs.Common.{ap, ◌∙◌}
use Rattle.cp_scope.specs.FirstFault.{first_onto}
use Rattle.cp_scope.proofs.MissingItems.{lacks-is}
use Rattle.cp_scope.proofs.faults.lacks.Goals as goal

pub returns : goal.returns
returns c = c.note_unless.ensures ∙ ap (first_onto c.args.first.now) (lacks-is c.args.count c.args.place c.args.items.now)

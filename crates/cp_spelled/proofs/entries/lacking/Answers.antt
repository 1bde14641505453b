use Rattle.std.proofs.Common.{ap, ◌∙◌}
use Rattle.cp_spelled.specs.FirstMisfit.{first_onto}
use Rattle.cp_spelled.proofs.InOrder.{lacking-is}
use Rattle.cp_spelled.proofs.entries.lacking.Goals as goal

pub returns : goal.returns
returns c = c.note_unless.ensures ∙ ap (first_onto c.args.first.now) (lacking-is c.args.count c.args.place c.args.items.now)

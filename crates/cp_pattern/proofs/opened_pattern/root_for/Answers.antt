use Rattle.std.proofs.Common.{ap, sym, ◌∙◌}
use Rattle.std.specs.Prelude.{slice_get}
use Rattle.cp_model.specs.Data.{roots}
use Rattle.cp_pattern.proofs.Opened.{named_alike}
use Rattle.cp_pattern.proofs.opened_pattern.root_for.Goals as goal

pub returns : goal.returns
returns c =
    named_alike c.args.variables.now c.args.count c.args.number c.root.result.now c.if-number-count.false
    (ap (slice_get (roots c.args.variables.now)) (sym c.numbered.ensures) ∙ c.root.ensures)

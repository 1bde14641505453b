use Rattle.std.proofs.Common.{map, ap, ◌∙◌}
use Rattle.cp_report.specs.Heads.{is_headed_by}
use Rattle.cp_items.proofs.heads.has_one_of.Goals as goal

pub returns-in-Some : goal.returns-in-Some
returns-in-Some c = c.is_one_of.ensures ∙ ap (is_headed_by (map (λ w. w.now) c.args.heads.now)) c.in-Some.ensures

pub returns-in-None : goal.returns-in-None
returns-in-None c = ap (is_headed_by (map (λ w. w.now) c.args.heads.now)) c.in-None.ensures

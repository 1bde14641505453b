use Rattle.std.proofs.Common.{sym, ap, ◌∙◌}
use Rattle.cp_sexpr.specs.View.{view}
use Rattle.cp_report.specs.Spelled.{sort_of_head}
use Rattle.cp_scope.specs.Forms.{headed_view}
use Rattle.cp_spelled.proofs.Scoped.{shape-headed}
use Rattle.cp_spelled.proofs.scope.sort_by_shape.Goals as goal

pub returns-in-Some : goal.returns-in-Some
returns-in-Some c =
    c.sort_of_head.ensures ∙ ap sort_of_head c.term_head.ensures ∙ shape-headed (view c.args.form.now) (headed_view c.in-Some.list) c.in-Some.ensures

pub returns-in-None : goal.returns-in-None
returns-in-None c = c.sort_of_leaf.ensures (sym c.in-None.ensures)

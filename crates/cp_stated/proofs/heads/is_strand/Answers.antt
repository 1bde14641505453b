use Rattle.std.proofs.Common.{sym, ◌∙◌}
use Rattle.std.specs.Prelude.{codes}
use Rattle.cp_sexpr.specs.View.{view}
use Rattle.cp_stated.proofs.Entered.{first-head, second-head}
use Rattle.cp_stated.proofs.heads.is_strand.Goals as goal

pub returns-then-has_head : goal.returns-then-has_head
returns-then-has_head c = first-head (codes "defstrand") (codes "deflistener") (view c.args.form.now) (sym c.has_head.ensures ∙ c.if-has_head.true)

pub returns : goal.returns
returns c = c.has_head-2.ensures ∙ second-head (codes "defstrand") (codes "deflistener") (view c.args.form.now) (sym c.has_head.ensures ∙ c.if-has_head.false)

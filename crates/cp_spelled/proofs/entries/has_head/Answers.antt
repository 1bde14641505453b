use Rattle.std.proofs.Common.{◌∙◌}
use Rattle.cp_sexpr.specs.View.{view}
use Rattle.cp_scope.specs.Forms.{headed_view}
use Rattle.cp_spelled.proofs.Headed.{head-is, head-none}
use Rattle.cp_spelled.proofs.entries.has_head.Goals as goal

pub returns-in-Some : goal.returns-in-Some
returns-in-Some c = c.is_word.ensures ∙ head-is c.args.word.now (view c.args.form.now) (headed_view c.in-Some.list) c.in-Some.ensures

pub returns-in-None : goal.returns-in-None
returns-in-None c = head-none c.args.word.now (view c.args.form.now) c.in-None.ensures

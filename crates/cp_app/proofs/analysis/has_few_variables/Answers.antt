use Rattle.std.proofs.Common.{length, ap, ◌∙◌, arith}
use Rattle.cp_app.proofs.Trees.{few_counted}
use Rattle.cp_app.proofs.analysis.has_few_variables.Goals as goal

pub returns : goal.returns
returns c = few_counted c.args.label.now.skeleton.variables c.len.result (c.len.ensures ∙ ap length c.variables.ensures) (omega arith)

use Rattle.std.proofs.Common.{ap, ◌∙◌}
use Rattle.std.proofs.lemmas.Result.{IfOk-weaker}
use Rattle.cp_report.specs.Skeletons.{named_declarations}
use Rattle.cp_stated.proofs.names.problem_variables.Goals as goal

pub returns : goal.returns
returns c =
    let names = c.deref.ensures.value ∙ c.in_ok-names.ensures in
    IfOk-weaker c.named_declarations.result _ _
    (λ v h. h ∙ ap (λ ns. named_declarations ns c.args.problem.now.skeleton.variables) names) c.named_declarations.ensures

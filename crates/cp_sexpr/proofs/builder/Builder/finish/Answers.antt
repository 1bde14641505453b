use Rattle.std.proofs.Common.{[], refl, ap, ◌∙◌}
use Rattle.cp_sexpr.specs.UnfinishedForms.{unfinished_onto}
use Rattle.cp_sexpr.proofs.Stacks.{unfinished, unfinished_onto-push}
use Rattle.cp_sexpr.proofs.builder.Builder.finish.Goals as goal

pub returns-clause-unclosed : goal.returns-clause-unclosed
returns-clause-unclosed c =
    let left = c.pop.new.self.items in
    (unfinished c.in-Some.list, unfinished_onto [] left, ap (unfinished_onto []) c.in-Some.ensures.items ∙ unfinished_onto-push [] left c.in-Some.list, refl)

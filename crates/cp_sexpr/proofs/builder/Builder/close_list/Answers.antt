use Rattle.std.proofs.Common.{◌∙◌}
use Rattle.std.proofs.lemmas.Result.{on_ok_weaker}
use Rattle.cp_sexpr.proofs.Stacks.{closed_is, open_not_empty}
use Rattle.cp_sexpr.proofs.builder.Builder.close_list.Goals as goal

pub returns-clause-ok : goal.returns-clause-ok
returns-clause-ok c =
    let closed = closed_is c.args.self.now.lists.items c.pop.new.self.items c.in-Some.field-0 c.replace-items.new.dest c.replace-items.result c.args.self.now.items
    c.in-Some.ensures.items c.replace-items.ensures.after c.replace-items.ensures.value in
    on_ok_weaker c.add.result (λ e. e ∙ closed) c.add.ensures.ok

pub returns-clause-accepted : goal.returns-clause-accepted
returns-clause-accepted c =
    on_ok_weaker c.add.result (λ _. λ code r. open_not_empty c.args.self.now.lists.items c.pop.new.self.items c.in-Some.field-0 c.in-Some.ensures.items r.0) c.add.ensures.ok

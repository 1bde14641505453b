use Rattle.std.proofs.Common.{ap, ◌∙◌}
use Rattle.cp_sexpr.specs.View.{views}
use Rattle.cp_sexpr.specs.UnfinishedForms.{Building, building_of}
use Rattle.cp_sexpr.specs.Syntax.{Forms}
use Rattle.cp_sexpr.proofs.Stacks.{views-push}
use Rattle.cp_sexpr.proofs.builder.Builder.add.Goals as goal

pub returns-clause-ok : goal.returns-clause-ok
returns-clause-ok c =
    let with_items : Forms → Building = λ fs. record { lists = (building_of c.args.self.now).lists; items = fs } in
    ap with_items (ap views c.in_ok-push.ensures.items ∙ views-push c.args.self.now.items.items c.args.form)

use Rattle.std.proofs.Common.{sym, ◌∙◌}
use Rattle.cp_scope.proofs.Views.{headed-view}
use Rattle.cp_scope.proofs.forms.headed.Goals as goal

pub returns : goal.returns
returns c =
    headed-view c.args.form.now c.in_ok-first.first.now c.in-List.place c.in-List.items c.in_ok-head.head.now c.in_ok-first.items.now
    c.in-List.is (sym c.as_slice.ensures.value ∙ c.in_ok-first.ensures.cases.0) c.in_ok-head.ensures

use Rattle.cp_scope.proofs.Views.{list_items-view}
use Rattle.cp_scope.proofs.forms.list_items.Goals as goal

pub returns-in-List : goal.returns-in-List
returns-in-List c = list_items-view c.args.form.now c.in-List.field-0 c.in-List.items c.as_slice.result.now c.in-List.is c.as_slice.ensures.value

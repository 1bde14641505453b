use Rattle.std.proofs.Common.{◌≡◌, ◌<◌, List, length, Some, sym, subst}
use Rattle.cp_lists.specs.Lists.{item_at}
use Rattle.cp_lists.proofs.Items.{item_of_read}
use Rattle.cp_search.specs.declared.made.Made.{Made}
use Rattle.cp_search.proofs.labels.MadeLabels.label.Goals as goal

pub returns : goal.returns
returns c =
    let label = c.index.result.now in
    let within = subst (λ (ms : List Made). c.args.number < length ms) (sym c.self.view_is) c.requires in
    subst (λ (ms : List Made). item_at ms c.args.number ≡ Some label) c.self.view_is (item_of_read c.self.inside.all.items c.args.number label within c.index.ensures)

use Rattle.std.proofs.Common.{true, codes, map, ap, ◌∙◌}
use Rattle.cp_language.specs.Report.{item_unless_empty}
use Rattle.cp_print.specs.Order.{pair_form}
use Rattle.cp_print.specs.Spelled.{items_text}
use Rattle.cp_print.proofs.SpelledItems.{same_text, failed}
use Rattle.cp_print.proofs.labels.put_order.Goals as goal

pub returns-in-Ok : goal.returns-in-Ok
returns-in-Ok c = same_text (ap (λ fs. items_text true (item_unless_empty (codes "precedes") fs)) (ap (map pair_form) c.deref.ensures.value ∙ c.in-Ok.ensures)) c.put_section.ensures

pub returns-in-Err : goal.returns-in-Err
returns-in-Err c = failed _ c.fail.ensures

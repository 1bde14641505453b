use Rattle.std.proofs.Common.{true, [], ◌∷◌, codes, sym, subst}
use Rattle.cp_base.specs.Growing.{Grows}
use Rattle.cp_language.specs.Printed.{headed_list, numeral}
use Rattle.cp_language.specs.Report.{parent_items}
use Rattle.cp_print.specs.Spelled.{items_text}
use Rattle.cp_print.proofs.SpelledItems.{one_item}
use Rattle.cp_print.proofs.items.put_parent.Goals as goal

pub returns-in-Some : goal.returns-in-Some
returns-in-Some c =
    subst (λ p. Grows c.args.out.now c.put_list.new.out (items_text true (parent_items p))) (sym c.in-Some.is)
    (one_item true (headed_list (codes "parent") (numeral c.in-Some.parent ∷ [])) c.put_list.ensures)

use Rattle.std.proofs.Common.{true, sym, subst}
use Rattle.cp_base.specs.Growing.{Grows}
use Rattle.cp_language.specs.Printed.{plain_list}
use Rattle.cp_language.specs.Report.{mark_words, mark_items}
use Rattle.cp_print.specs.Spelled.{items_text}
use Rattle.cp_print.proofs.SpelledItems.{one_item}
use Rattle.cp_print.proofs.items.put_mark.Goals as goal

pub returns-in-Some : goal.returns-in-Some
returns-in-Some c =
    subst (λ m. Grows c.args.out.now c.put_mark_words.new.out (items_text true (mark_items m))) (sym c.in-Some.is) (one_item true (plain_list (mark_words c.in-Some.mark)) c.put_mark_words.ensures)

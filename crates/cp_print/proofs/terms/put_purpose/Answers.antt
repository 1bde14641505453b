use Rattle.std.proofs.Common.{false, sym, subst}
use Rattle.std.specs.Option.{option_map}
use Rattle.cp_base.specs.Growing.{Grows}
use Rattle.cp_language.specs.Printed.{no_place}
use Rattle.cp_sexpr.specs.Syntax.{string}
use Rattle.cp_print.specs.Parts.{purpose_items}
use Rattle.cp_print.specs.Spelled.{items_text}
use Rattle.cp_print.proofs.SpelledItems.{one_item}
use Rattle.cp_print.proofs.terms.put_purpose.Goals as goal

pub returns-in-Some : goal.returns-in-Some
returns-in-Some c =
    subst (λ p. Grows c.args.out.now c.put_quoted.new.out (items_text false (purpose_items (option_map (λ t. t.now) p)))) (sym c.in-Some.is)
    (one_item false (string no_place c.in-Some.purpose.now) c.put_quoted.ensures)

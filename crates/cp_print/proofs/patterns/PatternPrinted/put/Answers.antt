use Rattle.std.proofs.Common.{false, ap, ◌∙◌}
use Rattle.cp_language.specs.Report.{named_by}
use Rattle.cp_print.specs.Spelled.{item_text}
use Rattle.cp_print.proofs.SpelledItems.{same_text}
use Rattle.cp_print.proofs.PatternForms.{as_pattern}
use Rattle.cp_print.proofs.patterns.PatternPrinted.put.Goals as goal

pub returns : goal.returns
returns c =
    same_text (ap (item_text false) (as_pattern (named_by c.args.names.now) c.args.self.now _ _ c.term.ensures.term (c.deref.ensures.value ∙ c.in-Ok.ensures))) c.put_term.ensures

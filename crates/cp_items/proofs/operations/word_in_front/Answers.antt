use Rattle.std.proofs.Common.{ap, ◌∙◌}
use Rattle.cp_report.specs.Labels.{operation_word}
use Rattle.cp_items.proofs.operations.word_in_front.Goals as goal

pub returns : goal.returns
returns c = c.operation_word.ensures ∙ ap operation_word c.name_in_front.ensures

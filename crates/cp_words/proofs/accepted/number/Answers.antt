use Rattle.std.proofs.Common.{◌∙◌}
use Rattle.cp_words.proofs.Numerals.{number_parsed}
use Rattle.cp_words.proofs.accepted.number.Goals as goal

pub returns : goal.returns
returns c = c.ok.ensures.value ∙ number_parsed c.args.text.now c.parse.result c.parse.ensures.value.0

use Rattle.clap.specs.Words.{found_of}
use Rattle.cp_words.proofs.Failures.{no_number, a_number}
use Rattle.cp_words.proofs.parser.number_in.Goals as goal

pub returns-in_err-get_str : goal.returns-in_err-get_str
returns-in_err-get_str c = no_number (found_of c.args.options.now) c.args.name.now c.from_residual.result c.in_err-get_str.ensures c.from_residual.ensures

pub returns : goal.returns
returns c = a_number (found_of c.args.options.now) c.args.name.now c.in_ok-get_str.field-0.now c.number.result c.in_ok-get_str.ensures c.number.ensures

use Rattle.cp_load.specs.Inputs.{input_entries}
use Rattle.cp_print.proofs.AllLabels.{all_written_text, all_written_ends, all_front}
use Rattle.cp_print.proofs.report.print_pieces.Goals as goal

pub returns-clause-ok : goal.returns-clause-ok
returns-clause-ok c = all_written_text (input_entries c.args.input.now) c.args.trees.now c.args.out.now.items c.args.ends.now.items c.put_report.new.out.items c.put_report.new.ends.items c.put_report.result c.put_report.ensures.ok

pub returns-clause-ends : goal.returns-clause-ends
returns-clause-ends c = all_written_ends (input_entries c.args.input.now) c.args.trees.now c.args.out.now.items c.args.ends.now.items c.put_report.new.out.items c.put_report.new.ends.items c.put_report.result c.put_report.ensures.ok

pub returns-clause-err : goal.returns-clause-err
returns-clause-err c = all_front (input_entries c.args.input.now) c.args.trees.now c.args.out.now.items c.put_report.new.out.items c.put_report.result c.put_report.ensures.err

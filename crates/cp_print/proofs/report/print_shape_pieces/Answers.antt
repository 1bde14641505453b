use Rattle.cp_load.specs.Inputs.{input_entries}
use Rattle.cp_print.proofs.AllLabels.{shapes_written_text, shapes_written_ends}
use Rattle.cp_print.proofs.report.print_shape_pieces.Goals as goal

pub returns-clause-ok : goal.returns-clause-ok
returns-clause-ok c = shapes_written_text (input_entries c.args.input.now) c.args.trees.now c.args.out.now.items c.args.ends.now.items c.put_report.new.out.items c.put_report.new.ends.items c.put_report.result c.put_report.ensures.ok

pub returns-clause-ends : goal.returns-clause-ends
returns-clause-ends c = shapes_written_ends (input_entries c.args.input.now) c.args.trees.now c.args.out.now.items c.args.ends.now.items c.put_report.new.out.items c.put_report.new.ends.items c.put_report.result c.put_report.ensures.ok

use Rattle.std.specs.Prelude.{[], option_map}
use Rattle.cp_report.specs.Misfits.{number_misfits}
use Rattle.cp_report.specs.Labels.{is_label_in}
use Rattle.cp_spelled.proofs.InOrder.{entry-taken}
use Rattle.cp_readback.specs.Families.{labels_of}
use Rattle.cp_readback.proofs.marks.one_label_misfits.Goals as goal

pub returns : goal.returns
returns c =
    entry-taken (number_misfits (is_label_in (option_map (λ f. labels_of f.now) c.args.tree))) [] c.args.place c.args.items.now c.in-Some.rest.now c.in-Some.number.now
    c.args.first.now c.label_number_misfits.new.first c.no_more.new.first c.in-Some.ensures.cases.0 c.label_number_misfits.ensures (c.no_more.ensures c.args.place)

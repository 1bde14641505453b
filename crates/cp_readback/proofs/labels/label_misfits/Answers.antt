use Rattle.std.proofs.Common.{map}
use Rattle.std.specs.Prelude.{option_map}
use Rattle.std.proofs.lemmas.Result.{on_ok_weaker}
use Rattle.cp_sexpr.specs.View.{view}
use Rattle.cp_load.specs.UncheckedProblems.{unchecked_view}
use Rattle.cp_readback.specs.Families.{labels_of}
use Rattle.cp_readback.proofs.AllItems.{numbered-read}
use Rattle.cp_readback.proofs.labels.label_misfits.Goals as goal

pub returns : goal.returns
returns c =
    on_ok_weaker c.items_misfits.result
    (λ h. numbered-read (unchecked_view c.args.setting.problem.now) (option_map (λ f. labels_of f.now) c.args.setting.tree) c.args.number (view c.args.form.now) c.items_behind.result.now c.in-Some.stated.now c.in-Some.field-0-1.now
    (map view c.items_of_label.result.now) c.place_of-place.result c.args.first.now c.number_misfits.new.first c.items_misfits.new.first
    c.in-Some.ensures.cases.0 c.items_behind.ensures c.place_of-place.ensures c.items_of_label.ensures c.number_misfits.ensures h)
    c.items_misfits.ensures

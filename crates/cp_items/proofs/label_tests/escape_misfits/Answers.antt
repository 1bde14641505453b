use Rattle.std.proofs.Common.{map}
use Rattle.cp_sexpr.specs.View.{view}
use Rattle.cp_report.specs.Misfits.{place_before, misfit_unless, lacking, each_misfits}
use Rattle.cp_report.specs.Spelled.{pattern_misfits}
use Rattle.cp_scope.proofs.FirstOf.{first_then_three}
use Rattle.cp_stated.proofs.Results.{when_ok}
use Rattle.cp_items.proofs.label_tests.escape_misfits.Goals as goal

pub returns : goal.returns
returns c =
    let fs = map view c.args.items.now in
    when_ok c.patterns_misfits.result
    (λ h. first_then_three place_before c.args.first.now c.note_unless.new.self c.lacking.new.first c.patterns_misfits.new.first (misfit_unless c.args.has_test c.args.place) (lacking 1 c.args.place fs)
    (each_misfits (pattern_misfits c.args.variables.now) fs) c.note_unless.ensures c.lacking.ensures h) c.patterns_misfits.ensures

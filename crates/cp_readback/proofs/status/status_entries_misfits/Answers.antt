use Rattle.std.proofs.Common.{map, sym, ap, ◌∙◌}
use Rattle.cp_sexpr.specs.View.{view}
use Rattle.cp_report.specs.Misfits.{entries_misfits}
use Rattle.cp_report.specs.ReadBack.{behind_outcome}
use Rattle.cp_spelled.specs.FirstMisfit.{first_onto}
use Rattle.cp_readback.specs.Counts.{count_kinds, status_misfits_by_counts}
use Rattle.cp_items.proofs.FitItems.{first-read, first-refused}
use Rattle.cp_readback.proofs.Counted.{outcome-fits, outcome-unknown}
use Rattle.cp_readback.proofs.status.status_entries_misfits.Goals as goal

pub returns-then-names_outcome : goal.returns-then-names_outcome
returns-then-names_outcome c =
    let rest = map view c.in-Some.rest.now in
    first-read (status_misfits_by_counts c.args.counts c.args.place) c.args.items.now c.in-Some.rest.now c.in-Some.word.now c.args.first.now c.behind_outcome_misfits.new.first _ c.in-Some.ensures.cases.0
    (c.behind_outcome_misfits.ensures ∙ ap (λ w. first_onto c.args.first.now (entries_misfits (behind_outcome w (count_kinds c.args.counts)) c.args.place rest)) c.symbol_or_empty.ensures)
    (outcome-fits c.args.counts c.args.place (view c.in-Some.word.now) rest (sym c.names_outcome.ensures ∙ c.if-names_outcome.true))

pub returns-else-names_outcome : goal.returns-else-names_outcome
returns-else-names_outcome c =
    first-refused (status_misfits_by_counts c.args.counts c.args.place) c.args.items.now c.in-Some.rest.now c.in-Some.word.now c.args.first.now c.note-else-names_outcome.new.self c.place_of.result c.in-Some.ensures.cases.0 c.note-else-names_outcome.ensures c.place_of.ensures
    (outcome-unknown c.args.counts c.args.place (view c.in-Some.word.now) (map view c.in-Some.rest.now) (sym c.names_outcome.ensures ∙ c.if-names_outcome.false))

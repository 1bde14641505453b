use Rattle.std.proofs.Common.{[], ◌∷◌, ap, ◌∙◌}
use Rattle.cp_sexpr.specs.View.{view}
use Rattle.cp_language.specs.Faults.{place_of}
use Rattle.cp_language.specs.Problems.{node_of}
use Rattle.cp_report.specs.Misfits.{place_before, any_number_misfits, entries_misfits, list_misfits}
use Rattle.cp_report.specs.Skeletons.{there_misfits}
use Rattle.cp_spelled.specs.FirstMisfit.{first_onto}
use Rattle.cp_scope.proofs.FirstOf.{first_then}
use Rattle.cp_stated.proofs.nodes.node_misfits.Goals as goal

pub returns : goal.returns
returns c =
    let ks = c.args.strands.now in
    let f = view c.args.form.now in
    let p = c.numbers_misfits.new.first in
    first_then place_before c.args.first.now p c.there_misfits.new.first (list_misfits (entries_misfits (any_number_misfits ∷ any_number_misfits ∷ [])) f) (there_misfits ks (place_of f) (node_of f)) c.numbers_misfits.ensures
    (c.there_misfits.ensures ∙ ap (λ at. first_onto p (there_misfits ks at c.node_of.result)) c.place_of.ensures ∙ ap (λ n. first_onto p (there_misfits ks (place_of f) n)) c.node_of.ensures)

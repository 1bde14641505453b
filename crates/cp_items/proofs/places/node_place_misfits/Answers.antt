use Rattle.std.proofs.Common.{ℕ, List, ◌∷◌, map, sym, ap, ◌∙◌}
use Rattle.cp_sexpr.specs.View.{view}
use Rattle.cp_sexpr.specs.declared.form.Form as program
use Rattle.cp_language.specs.Problems.{number_of}
use Rattle.cp_report.specs.Skeletons.{strand_number_misfits}
use Rattle.cp_report.specs.Labels.{index_misfits}
use Rattle.cp_spelled.specs.FirstMisfit.{first_onto}
use Rattle.cp_report.specs.Misfits.{place_before}
use Rattle.cp_scope.proofs.FirstOf.{first_then}
use Rattle.cp_items.specs.Parts.{node_place_misfits}
use Rattle.cp_items.proofs.places.node_place_misfits.Goals as goal

pub returns : goal.returns
returns c =
    let ks = c.args.strands.now in
    let strand = c.in-Some.strand.now in
    let index = c.in-Some-split_first.index.now in
    let p = c.strand_number_misfits.new.first in
    first_then place_before c.args.first.now p c.index_misfits.new.first (strand_number_misfits ks (view strand)) (index_misfits ks (number_of (view strand)) (view index)) c.strand_number_misfits.ensures
    (c.index_misfits.ensures ∙ ap (λ (n : ℕ). first_onto p (index_misfits ks n (view index))) c.number_of.ensures)
    ∙ sym (ap (λ (fs : List program.Form). first_onto c.args.first.now (node_place_misfits ks (map view fs))) (c.in-Some.ensures.cases.0 ∙ ap (λ (gs : List program.Form). strand ∷ gs) c.in-Some-split_first.ensures.cases.0))

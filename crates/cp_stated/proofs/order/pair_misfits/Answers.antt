use Rattle.std.proofs.Common.{[], ◌∷◌, ◌++◌, sym, ap, ◌∙◌, subst}
use Rattle.std.specs.Prelude.{None}
use Rattle.cp_sexpr.specs.View.{view}
use Rattle.cp_language.specs.Faults.{place_of}
use Rattle.cp_language.specs.Problems.{between_strands}
use Rattle.cp_load.specs.Acyclic.{IsAcyclicIf}
use Rattle.cp_report.specs.Misfits.{misfit_unless, entries_misfits, list_misfits}
use Rattle.cp_report.specs.Skeletons.{node_misfits, is_further_pair, pair_stated}
use Rattle.cp_spelled.specs.FirstMisfit.{first_onto, onto_none}
use Rattle.cp_spelled.proofs.Firsts.{merged-unless}
use Rattle.cp_stated.proofs.Unless.{by_itself}
use Rattle.cp_stated.proofs.order.pair_misfits.Goals as goal

pub returns : goal.returns
returns c =
    let ks = c.args.before.strands.now in
    let f = view c.args.form.now in
    let shape = list_misfits (entries_misfits (node_misfits ks ∷ node_misfits ks ∷ [])) f in
    let i = c.nodes_misfits.new.first in
    let j = c.note_unless_misfit.new.self in
    merged-unless None i j j shape (misfit_unless (is_further_pair ks c.args.before.pairs.now (pair_stated f)) (place_of f))
    (c.nodes_misfits.ensures ∙ ap (λ o. first_onto o shape) c.new-inside.ensures)
    (c.note_unless_misfit.ensures ∙ ap (λ at. onto_none i (misfit_unless c.in_ok-follows.follows at)) c.place_of.ensures
    ∙ ap (λ b. onto_none i (misfit_unless b (place_of f))) (c.in_ok-follows.ensures ∙ ap (is_further_pair ks c.args.before.pairs.now) c.pair_stated.ensures))
    (by_itself j)

pub may_follow-requires : goal.may_follow-requires
may_follow-requires c = subst (λ o. IsAcyclicIf c.args.before.acyclic (c.args.before.pairs.now ++ between_strands o)) (sym c.pair_stated.ensures) c.requires

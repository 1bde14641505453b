use Rattle.std.proofs.Common.{[], ◌++◌, refl, ap, ◌∙◌}
use Rattle.cp_lists.proofs.Members.{drop_read}
use Rattle.cp_model.specs.Problem.{variables_of_atoms, variables_of_terms, variables_of_uniques}
use Rattle.cp_model.specs.Strand.{payload, variables_of_trace}
use Rattle.cp_model.specs.Term.{variables_of}
use Rattle.cp_skel.specs.Events.{variables_of_located}
use Rattle.cp_skel.proofs.VariablesOfLists.{put_next, put_last, of_events, all_gathered}
use Rattle.cp_skel.proofs.used.used_terms.Goals as goal

pub loop-occurrence-preserved : goal.loop-occurrence-preserved
loop-occurrence-preserved c =
    put_next (variables_of_trace c.loop-occurrence.events.items) (variables_of_trace c.add_term.new.events.items) _ _ _ _
    (c.in_ok-add_term.ensures ∙ ap (λ xs. variables_of_trace c.loop-occurrence.events.items ++ xs) (ap variables_of (c.payload.ensures ∙ ap payload c.event.ensures)))
    (ap variables_of_located (drop_read c.deref-occurrence-items.result.now c.loop-occurrence.occurrence-index c.occurrence-item.result c.loop-occurrence-test.true c.occurrence-item.is)) c.loop-occurrence.invariant

pub returns : goal.returns
returns c =
    let k = c.args.k.now in
    all_gathered k [] (variables_of_trace c.loop-occurrence.events.items) (variables_of_trace c.add_atoms.new.events.items)
    (variables_of_trace c.add_atoms-2.new.events.items) (variables_of_trace c.add_uniques.new.events.items) (variables_of_trace c.add_terms.new.events.items)
    refl
    (put_last variables_of_located c.deref-occurrence-items.result.now c.loop-occurrence.occurrence-index c.loop-occurrence-test.false (variables_of_trace c.loop-occurrence.events.items) _ refl c.loop-occurrence.invariant
    ∙ ap variables_of_located (c.deref-occurrence-items.ensures.value ∙ c.in_ok-occurrences.ensures.listed) ∙ of_events k)
    (c.in_ok-add_atoms.ensures ∙ ap (λ vs. variables_of_trace c.loop-occurrence.events.items ++ variables_of_atoms vs) (c.non_originating.ensures ∙ ap (λ a. a.non_originating) c.assumptions-assumptions.ensures))
    (c.in_ok-add_atoms-2.ensures ∙ ap (λ vs. variables_of_trace c.add_atoms.new.events.items ++ variables_of_atoms vs) (c.penetrator_non_originating.ensures ∙ ap (λ a. a.penetrator_non_originating) c.assumptions-assumptions.ensures))
    (c.in_ok-add_uniques.ensures ∙ ap (λ vs. variables_of_trace c.add_atoms-2.new.events.items ++ variables_of_uniques vs) (c.uniquely_originating.ensures ∙ ap (λ a. a.uniquely_originating) c.assumptions-assumptions.ensures))
    (c.in_ok-add_terms.ensures ∙ ap (λ vs. variables_of_trace c.add_uniques.new.events.items ++ variables_of_terms vs) (c.values.ensures ∙ ap (λ p. p.values) c.from_problem.ensures))

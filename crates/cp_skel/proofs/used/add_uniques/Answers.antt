use Rattle.std.proofs.Common.{refl, ap, ◌∙◌, ◌++◌}
use Rattle.cp_lists.proofs.Members.{drop_read}
use Rattle.cp_model.specs.Strand.{variables_of_trace}
use Rattle.cp_model.specs.Term.{variables_of, atom_term}
use Rattle.cp_model.specs.Problem.{variables_of_uniques}
use Rattle.cp_skel.proofs.VariablesOfLists.{put_next, put_last}
use Rattle.cp_skel.proofs.used.add_uniques.Goals as goal

pub loop-unique-preserved : goal.loop-unique-preserved
loop-unique-preserved c =
    put_next (variables_of_trace c.loop-unique.events.items) (variables_of_trace c.add_term.new.events.items) _ _ _ _
    (c.in_ok-add_term.ensures ∙ ap (λ xs. variables_of_trace c.loop-unique.events.items ++ xs) (ap variables_of (c.as_term.ensures ∙ ap atom_term c.value.ensures)))
    (ap variables_of_uniques (drop_read c.args.uniques.now c.loop-unique.unique-index c.unique-item.result c.loop-unique-test.true c.unique-item.is)) c.loop-unique.invariant

pub returns : goal.returns
returns c =
    put_last variables_of_uniques c.args.uniques.now c.loop-unique.unique-index c.loop-unique-test.false (variables_of_trace c.loop-unique.events.items) _ refl c.loop-unique.invariant

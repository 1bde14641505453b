use Rattle.std.proofs.Common.{refl, ap, ◌∙◌, ◌++◌}
use Rattle.cp_lists.proofs.Members.{drop_read}
use Rattle.cp_model.specs.Strand.{variables_of_trace}
use Rattle.cp_model.specs.Term.{variables_of}
use Rattle.cp_model.specs.Problem.{variables_of_atoms}
use Rattle.cp_skel.proofs.VariablesOfLists.{put_next, put_last}
use Rattle.cp_skel.proofs.used.add_atoms.Goals as goal

pub loop-atom-preserved : goal.loop-atom-preserved
loop-atom-preserved c =
    put_next (variables_of_trace c.loop-atom.events.items) (variables_of_trace c.add_term.new.events.items) _ _ _ _
    (c.in_ok-add_term.ensures ∙ ap (λ xs. variables_of_trace c.loop-atom.events.items ++ xs) (ap variables_of c.as_term.ensures))
    (ap variables_of_atoms (drop_read c.args.atoms.now c.loop-atom.atom-index c.atom-item.result c.loop-atom-test.true c.atom-item.is)) c.loop-atom.invariant

pub returns : goal.returns
returns c =
    put_last variables_of_atoms c.args.atoms.now c.loop-atom.atom-index c.loop-atom-test.false (variables_of_trace c.loop-atom.events.items) _ refl c.loop-atom.invariant

use Rattle.std.proofs.Common.{refl, ap}
use Rattle.cp_lists.proofs.Members.{drop_read}
use Rattle.cp_model.specs.Strand.{variables_of_trace}
use Rattle.cp_model.specs.Problem.{variables_of_terms}
use Rattle.cp_skel.proofs.VariablesOfLists.{put_next, put_last}
use Rattle.cp_skel.proofs.used.add_terms.Goals as goal

pub loop-term-preserved : goal.loop-term-preserved
loop-term-preserved c =
    put_next (variables_of_trace c.loop-term.events.items) (variables_of_trace c.add_term.new.events.items) _ _ _ _
    (c.in_ok-add_term.ensures)
    (ap variables_of_terms (drop_read c.args.terms.now c.loop-term.term-index c.term-item.result c.loop-term-test.true c.term-item.is)) c.loop-term.invariant

pub returns : goal.returns
returns c =
    put_last variables_of_terms c.args.terms.now c.loop-term.term-index c.loop-term-test.false (variables_of_trace c.loop-term.events.items) _ refl c.loop-term.invariant

use Rattle.std.proofs.Common.{ap, ◌∙◌, ◌++◌}
use Rattle.cp_model.specs.Strand.{variables_of_trace}
use Rattle.cp_model.specs.Term.{variables_of}
use Rattle.cp_skel.proofs.EachOnce.{if_pushed}
use Rattle.cp_skel.proofs.VariablesOfLists.{sent_behind}
use Rattle.cp_skel.proofs.used.add_term.Goals as goal

pub returns : goal.returns
returns c =
    if_pushed c.args.events.now.items c.push.result c.map_err.result c.push.ensures.items c.map_err.ensures.variant
    (λ added. ap variables_of_trace added ∙ sent_behind c.args.events.now.items c.in_ok-term.term
    ∙ ap (λ t. variables_of_trace c.args.events.now.items ++ variables_of t) c.in_ok-term.ensures)

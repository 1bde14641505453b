use Rattle.std.proofs.Common.{◌∙◌, ap, map}
use Rattle.cp_model.specs.RunView.{trace_view}
use Rattle.cp_model.proofs.RunLinks.{makes_run}
use Rattle.cp_model.proofs.runs.run_of.Goals as goal

pub returns-clause-is_run : goal.returns-clause-is_run
returns-clause-is_run c =
    makes_run c.args.bundle.now _ (c.in_ok-strands.ensures ∙ ap (map trace_view) c.deref.ensures.value) (c.in_ok-events.ensures.items ∙ c.deref-2.ensures.value)

use Rattle.std.proofs.Common.{◌∙◌, ap, map}
use Rattle.cp_model.specs.RunView.{trace_view}
use Rattle.cp_model.proofs.RunLinks.{makes_bundle}
use Rattle.cp_model.proofs.runs.bundle_of.Goals as goal

pub returns-clause-bundle : goal.returns-clause-bundle
returns-clause-bundle c =
    makes_bundle c.args.run.now _ c.deref.result.now c.deref-2.result.now c.deref.ensures.value c.deref-2.ensures.value c.in_ok-senders.ensures
    (c.in_ok-strands.ensures ∙ ap (map trace_view) c.deref-3.ensures.value) (c.in_ok-order.ensures.items ∙ c.deref-4.ensures.value)

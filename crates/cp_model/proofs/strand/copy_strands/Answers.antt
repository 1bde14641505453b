use Rattle.std.proofs.Common.{rules}
use Rattle.cp_model.specs.RunView.{trace_view}
use Rattle.cp_lists.proofs.Collected.{collected_from_slice}
use Rattle.cp_model.proofs.strand.copy_strands.Goals as goal

pub returns : goal.returns
returns c = collected_from_slice trace_view trace_view c.args.strands.now c.try_collect.result (λ x y q k. search rules) c.try_collect.ensures.runs c.map.ensures.runs c.iter.ensures.runs c.iter.ensures.rest

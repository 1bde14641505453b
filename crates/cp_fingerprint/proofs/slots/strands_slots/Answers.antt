use Rattle.std.proofs.Common.{rules}
use Rattle.cp_lists.proofs.Collected.{collected_from_slice}
use Rattle.cp_fingerprint.specs.SharedValues.{strand_slots}
use Rattle.cp_fingerprint.proofs.slots.strands_slots.Goals as goal

pub returns : goal.returns
returns c = collected_from_slice (λ v. v.items) strand_slots c.args.strands.now c.try_collect.result (λ x y q k. search rules) c.try_collect.ensures.runs c.map.ensures.runs c.iter.ensures.runs c.iter.ensures.rest

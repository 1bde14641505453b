use Rattle.std.proofs.Common.{length, map, ap, ◌∙◌}
use Rattle.cp_fingerprint.specs.SharedValues.{strand_slots}
use Rattle.cp_fingerprint.proofs.AddedPlaces.{skeleton_added}
use Rattle.cp_fingerprint.proofs.weights.Weights.of.Goals as goal

pub invariant_of-result : goal.invariant_of-result
invariant_of-result c = (
  skeleton_added c.args.k.now c.values.result.now c.strands.result.now (c.values.ensures ∙ ap (λ f. f.values) c.from_problem.ensures) c.strands.ensures c.in_ok-sums.sums c.add_values.new.self
      c.add_strands.new.self c.in_ok-sums.ensures c.in_ok-add_values.ensures c.in_ok-counts.ensures.added,
  c.in_ok-counts.ensures.counts ∙ ap (λ ss. map length (map strand_slots ss)) c.strands.ensures,
)

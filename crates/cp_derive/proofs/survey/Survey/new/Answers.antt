use Rattle.std.proofs.Common.{ap, ◌∙◌}
use Rattle.cp_model.specs.Skeleton.{Skeleton}
use Rattle.cp_derive.specs.Transmissions.{transmissions_among}
use Rattle.cp_derive.proofs.survey.Survey.new.Goals as goal

pub invariant_of-result : goal.invariant_of-result
invariant_of-result c =
    record {
      transmissions = c.in_ok-transmissions.ensures ∙ ap transmissions_among c.events.ensures;
      along = c.in_ok-sorted.ensures ∙ c.pairs.ensures ∙ c.order.ensures ∙ ap (λ (k : Skeleton). k.pairs) c.skeleton.ensures;
    }

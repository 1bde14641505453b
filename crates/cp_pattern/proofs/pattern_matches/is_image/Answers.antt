use Rattle.std.proofs.Common.{sym, ◌∙◌}
use Rattle.cp_pattern.proofs.pattern_matches.is_image.Goals as goal

pub returns : goal.returns
returns c = (λ e. sym c.in_ok-image.ensures.plain ∙ c.same.ensures.0 e, λ e. c.same.ensures.1 (c.in_ok-image.ensures.plain ∙ e))

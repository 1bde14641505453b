use Rattle.std.proofs.Common.{refl}
use Rattle.cp_unify.proofs.DifferenceSteps.{inverse_sorted}
use Rattle.cp_unify.proofs.MatchedTerms.{asymmetric_of, asymmetric_is_key}
use Rattle.cp_unify.proofs.difference.bind_inverse.Goals as goal

pub invert-requires : goal.invert-requires
invert-requires c = asymmetric_is_key _ (asymmetric_of _ _ refl c.requires)

pub of-requires : goal.of-requires
of-requires c = inverse_sorted _ _ c.requires c.in_ok-inverse.ensures.plain

use Rattle.std.proofs.Common.{arith}
use Rattle.cp_model.proofs.CarriedParts.{not_both}
use Rattle.cp_derive.proofs.BuildSteps.{atom_builds, atom_at_hand, enc_up, enc_parts}
use Rattle.cp_derive.proofs.built_terms.+builds.Goals as goal

pub returns-in-Atom : goal.returns-in-Atom
returns-in-Atom t c = (
  λ r. atom_builds _ _ _ _ _ c.in-Atom.ensures.1 c.loop-left.invariant.1 (c.is_at_hand.ensures.0 r),
  λ h. c.is_at_hand.ensures.1 (atom_at_hand _ _ _ _ _ c.in-Atom.ensures.1 c.loop-left.invariant.2 h),
)

pub loop-left-preserved : goal.loop-left-preserved
loop-left-preserved t c = (
  grind arith,
  enc_up _ _ _ _ _ _ _ c.in-Encryption.ensures.1 c.in-Encryption.ensures.2 (c.is_at_hand-in-Encryption.ensures.0 c.if-not-is_at_hand.false) c.loop-left.invariant.1,
  λ h. (enc_parts _ _ _ _ _ _ _ c.in-Encryption.ensures.1 c.in-Encryption.ensures.2 (λ i. not_both c.if-is_among.false (c.is_among.ensures.1 i)) c.loop-left.invariant.2 h).0,
)

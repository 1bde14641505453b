use Rattle.std.proofs.Common.{inl}
use Rattle.cp_model.proofs.CarriedParts.{not_both}
use Rattle.cp_normal.proofs.Heard.{heard_listed}
use Rattle.cp_normal.proofs.narrowing.next_among.Goals as goal

pub returns-then-is_refuted : goal.returns-then-is_refuted
returns-then-is_refuted c = inl (c.is_refuted.ensures.0 c.if-is_refuted.true)

pub returns-in_ok-atoms-in-Some : goal.returns-in_ok-atoms-in-Some
returns-in_ok-atoms-in-Some c = (
  λ r. not_both c.if-is_refuted.false (c.is_refuted.ensures.1 r),
  rw c.in-Some.is at c.in_ok-misplaced.ensures,
  heard_listed c.args.k.now c.in-Some.misplaced.node c.events.result.now c.in_ok-atoms-in-Some.atoms.items c.events.ensures c.in_ok-atoms-in-Some.ensures,
)

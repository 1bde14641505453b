use Rattle.std.proofs.Common.{◌∙◌, sym}
use Rattle.cp_collapse.proofs.Joined.{alike_if, if_alike}
use Rattle.cp_collapse.proofs.partitions.are_of_one_role.Goals as goal

pub returns : goal.returns
returns c = (
  λ r. alike_if c.args.strands.now c.args.s c.args.t c.in-Some.first.now c.in-Some-instance_at.second.now c.in-Some.ensures.some c.in-Some-instance_at.ensures.some
      (sym (c.deref.ensures ∙ c.role.ensures) ∙ c.is_same_role.ensures.0 r ∙ (c.deref-2.ensures ∙ c.role-2.ensures)),
  λ o. c.is_same_role.ensures.1 ((c.deref.ensures ∙ c.role.ensures) ∙ if_alike c.args.strands.now c.args.s c.args.t c.in-Some.first.now c.in-Some-instance_at.second.now c.in-Some.ensures.some c.in-Some-instance_at.ensures.some o ∙ sym (c.deref-2.ensures ∙ c.role-2.ensures)),
)

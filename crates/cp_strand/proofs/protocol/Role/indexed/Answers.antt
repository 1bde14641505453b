use Rattle.std.proofs.Common.{ap₂, ◌∙◌}
use Rattle.cp_strand.specs.FirstEvents.{first_events}
use Rattle.cp_strand.specs.RoleParts.{role_of_parts}
use Rattle.cp_strand.proofs.FirstEvents.{all_indexed}
use Rattle.cp_strand.proofs.protocol.Role.indexed.Goals as goal

pub invariant_of-role : goal.invariant_of-role
invariant_of-role c = (
  c.role.invariant.0,
  all_indexed (role_of_parts c.role.inside) c.in_ok-role-inside.field-0.items (c.in_ok-role-inside.ensures ∙ ap₂ first_events c.deref.ensures.value c.deref-2.ensures.value),
)

use Rattle.cp_roles.proofs.DeclaredEvents.{no_events}
use Rattle.cp_roles.proofs.roles.no_role.Goals as goal

pub new-requires-6 : goal.new-requires-6
new-requires-6 c = no_events _ _ c.new-trace.ensures.items

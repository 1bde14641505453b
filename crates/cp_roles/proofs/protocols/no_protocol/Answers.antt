use Rattle.std.proofs.Common.{ap}
use Rattle.cp_roles.specs.Named.{shared_roles_view}
use Rattle.cp_roles.proofs.DeclaredEvents.{no_roles}
use Rattle.cp_roles.proofs.protocols.no_protocol.Goals as goal

pub new-requires-2 : goal.new-requires-2
new-requires-2 c = no_roles _ (ap shared_roles_view c.new-roles.ensures.items)

use Rattle.cp_language.proofs.Roles.{role_declares, protocol_declares}
use Rattle.cp_language.proofs.wellformed.roles_declare_their_variables.Goals as goal

pub returns-clause-role : goal.returns-clause-role
returns-clause-role c = role_declares

pub returns-clause-protocol : goal.returns-clause-protocol
returns-clause-protocol c = protocol_declares

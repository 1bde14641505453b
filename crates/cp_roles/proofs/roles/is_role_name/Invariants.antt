use Rattle.std.proofs.Common.{◌≡◌, drop}
use Rattle.cp_language.specs.Words.{is_one_of}
use Rattle.cp_roles.specs.Named.{role_names}
use Rattle.cp_roles.proofs.roles.is_role_name.Given as goal

abbrev pub invariant-loop-role : goal.invariant-loop-role
invariant-loop-role l = is_one_of l.name (role_names (drop l.role-index l.roles)) ≡ is_one_of l.name (role_names l.roles)

use Rattle.std.proofs.Common.{◌≡◌, drop}
use Rattle.cp_language.specs.Problems.{role_named}
use Rattle.cp_roles.specs.Named.{shared_roles_view}
use Rattle.cp_roles.proofs.roles.role_named.Given as goal

abbrev pub invariant-loop-role : goal.invariant-loop-role
invariant-loop-role l = role_named (shared_roles_view (drop l.role-index l.roles)) l.name ≡ role_named (shared_roles_view l.roles) l.name

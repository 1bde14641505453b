use Rattle.std.proofs.Common.{option_map, ap, ◌∙◌}
use Rattle.cp_language.specs.Problems.{role_named}
use Rattle.cp_roles.specs.Named.{shared_roles_view}
use Rattle.cp_roles.proofs.Maplets.{instance-read}
use Rattle.cp_roles.proofs.faults.instance_faults.Goals as goal

pub returns : goal.returns
returns c =
    instance-read (shared_roles_view c.args.roles.now) c.args.variables.now c.args.place c.args.items.now c.name-item.result c.height-item.result c.in-len2-up.len_at_least c.name-item.is c.height-item.is
    (option_map (λ r. r.now.value) c.role_named-role.result) c.args.first.now c.role_name_faults.new.first c.height_faults.new.first c.maplets_faults_of.new.first
    (c.role_named-role.ensures ∙ ap (role_named (shared_roles_view c.args.roles.now)) c.symbol_or_empty.ensures) c.role_name_faults.ensures c.height_faults.ensures c.maplets_faults_of.ensures

use Rattle.std.proofs.Common.{◌-◌, length, map, take, drop, ap, ◌∙◌}
use Rattle.std.proofs.lemmas.Result.{IfOk-weaker}
use Rattle.cp_sexpr.specs.View.{view}
use Rattle.cp_scope.specs.FirstFault.{first_onto}
use Rattle.cp_roles.proofs.DeclaredEvents.{roles_read}
use Rattle.cp_roles.proofs.ProtocolNames.{few_items, protocol-read}
use Rattle.cp_roles.proofs.protocols.protocol_of.Goals as goal

pub returns-in_default-clause-faults : goal.returns-in_default-clause-faults
returns-in_default-clause-faults c =
    let same = c.note.ensures ∙ ap (first_onto c.args.first.now) (few_items c.args.names.now c.args.place c.args.items.now c.in_default.len_below) in
    IfOk-weaker c.no_protocol.result _ _ (λ r h. same) c.no_protocol.ensures

pub new-requires : goal.new-requires
new-requires c = let fs = c.args.items.now in roles_read _ (map view (take (length fs - 2) (drop 2 fs))) c.in_ok-roles.ensures.roles

pub returns-clause-faults : goal.returns-clause-faults
returns-clause-faults c =
    protocol-read c.args.names.now c.args.place c.args.items.now c.name-item.result c.algebra-item.result c.in-len2-up.len_at_least c.name-item.is c.algebra-item.is
    c.args.first.now c.protocol_name_faults.new.first c.algebra_faults.new.first c.roles_of.new.first
    c.protocol_name_faults.ensures c.algebra_faults.ensures c.in_ok-roles.ensures.faults

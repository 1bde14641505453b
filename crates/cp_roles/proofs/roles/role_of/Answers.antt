use Rattle.std.proofs.Common.{sym, ap, ◌∙◌}
use Rattle.std.proofs.lemmas.Result.{IfOk-weaker}
use Rattle.cp_sexpr.specs.View.{view}
use Rattle.cp_language.specs.Roles.{events_stated}
use Rattle.cp_scope.specs.FirstFault.{first_onto}
use Rattle.cp_roles.proofs.DeclaredEvents.{events_read}
use Rattle.cp_roles.specs.Named.{role_names}
use Rattle.cp_roles.proofs.RoleNames.{few_items, role-read}
use Rattle.cp_roles.proofs.roles.role_of.Goals as goal

pub returns-in_default-clause-faults : goal.returns-in_default-clause-faults
returns-in_default-clause-faults c =
    let same = c.note.ensures ∙ ap (first_onto c.args.first.now) (few_items (role_names c.args.before.now) c.args.list.place c.args.list.items.now c.in_default.len_below) in
    IfOk-weaker c.no_role.result _ _ (λ r h. same) c.no_role.ensures

pub new-role-requires : goal.new-role-requires
new-role-requires c =
    events_read c.into_declarations.result.items c.in_ok-trace.trace.items (view c.trace-item.result)
    (c.in_ok-trace.ensures ∙ ap (λ ds. events_stated ds (view c.trace-item.result)) (sym c.into_declarations.ensures))

pub returns-clause-faults : goal.returns-clause-faults
returns-clause-faults c =
    let ds = c.in_ok-variables.variables in
    let read =
    role-read (role_names c.args.before.now) c.args.list.place c.args.list.items.now c.name-item.result c.variables-item.result c.trace-item.result c.in-len3-up.len_at_least c.name-item.is c.variables-item.is c.trace-item.is
    ds ds ds c.deref.result.now
    c.args.first.now c.role_name_faults.new.first c.variables_of.new.first c.trace_faults.new.first c.role_items_faults.new.first
    c.in_ok-variables.ensures.declared c.in_ok-variables.ensures.declared (c.deref.ensures.value ∙ c.in_ok-trace.ensures) c.in_ok-variables.ensures.declared
    c.role_name_faults.ensures c.in_ok-variables.ensures.faults c.trace_faults.ensures c.in_ok-role_items_faults.ensures in
    IfOk-weaker c.indexed.result _ _ (λ r h. read) c.indexed.ensures

use Rattle.std.proofs.Common.{ap, ◌∙◌}
use Rattle.cp_sexpr.specs.View.{view}
use Rattle.cp_language.specs.Roles.{role_faults}
use Rattle.cp_scope.specs.FirstFault.{first_onto}
use Rattle.cp_scope.specs.Forms.{headed_view}
use Rattle.cp_roles.specs.Named.{role_names}
use Rattle.cp_roles.proofs.RoleNames.{role-stated}
use Rattle.cp_roles.proofs.roles.protocol_item.Goals as goal

pub returns-in_ok-push-in-Role-clause-faults : goal.returns-in_ok-push-in-Role-clause-faults
returns-in_ok-push-in-Role-clause-faults c =
    let list = headed_view c.in-Some.list in
    c.in_ok-role-in-Role.ensures.faults ∙ ap (λ rs. first_onto c.args.first.now (role_faults (role_names rs) list.at list.items)) c.deref.ensures.value
    ∙ ap (first_onto c.args.first.now) (role-stated (role_names c.args.roles.now.items) (view c.args.form.now) list c.in-Some.ensures c.in-Role.ensures)

use Rattle.std.proofs.Common.{◌-◌, ◌++◌, length, map, take, drop, option_map, ap, ◌∙◌}
use Rattle.cp_sexpr.specs.View.{view}
use Rattle.cp_language.specs.Problems.{role_named, is_known}
use Rattle.cp_roles.specs.Named.{shared_roles_view}
use Rattle.cp_report.specs.Misfits.{place_before, symbol_misfits, unless_misfit}
use Rattle.cp_report.specs.Skeletons.{height_misfits, prefix_misfits}
use Rattle.cp_spelled.specs.FirstMisfit.{first_onto}
use Rattle.cp_spelled.specs.Views.{scope_view}
use Rattle.cp_scope.proofs.FirstOf.{first_then}
use Rattle.cp_stated.proofs.InstanceEntries.{few-entries, instance-read}
use Rattle.cp_stated.proofs.Unless.{asked, not-asked}
use Rattle.cp_stated.proofs.instances.instance_misfits.Goals as goal
use Rattle.cp_stated.proofs.instances.instance_misfits.Goals.{then-is_none+in_ok-prefix_misfits, else-is_none}

pub returns-in_default : goal.returns-in_default
returns-in_default c =
    c.note.ensures ∙ ap (first_onto c.args.first.now) (few-entries (shared_roles_view c.args.roles.now) (scope_view c.args.scope) c.args.place c.args.items.now c.in_default.len_below)

pub returns : goal.returns
returns c =
    let roles = shared_roles_view c.args.roles.now in
    let s = scope_view c.args.scope in
    let n = view c.name-item.result in
    let h = view c.height-item.result in
    let role = option_map (λ r. r.now.value) c.role_named-role.result in
    let maplets = map view (take (length c.args.items.now - 2) (drop 2 c.args.items.now)) in
    let front = symbol_misfits (λ t. is_known (role_named roles t)) n in
    let i = c.if-is_none.inside in
    let first = first_then place_before _ c.role_name_misfits.new.first c.height_misfits.new.first front (height_misfits role h) (c.role_name_misfits.ensures ∙ ap (λ o. first_onto o front) c.new-inside.ensures) c.height_misfits.ensures in
    let others = prefix_misfits s role c.number_of-number.result c.args.place maplets in
    instance-read roles s c.args.place c.args.items.now c.name-item.result c.height-item.result c.in-len2-up.len_at_least c.name-item.is c.height-item.is role
    (c.role_named-role.ensures ∙ ap (role_named roles) c.symbol_or_empty.ensures) c.args.first.now c.merge.new.self
    (elim c.if-is_none.branch [
      | then-is_none+in_ok-prefix_misfits w ↦
          asked c.args.first.now c.height_misfits.new.first i c.merge.new.self c.is_none.result (front ++ height_misfits role h) others first c.is_none.ensures c.merge.ensures
          w.if-is_none.true (w.inside-is ∙ w.in_ok-prefix_misfits.ensures)
      | else-is_none w ↦
          not-asked c.args.first.now c.height_misfits.new.first i c.merge.new.self c.is_none.result (front ++ height_misfits role h) others first c.is_none.ensures c.merge.ensures
          w.if-is_none.false w.inside-is
    ] ∙ ap (λ m. first_onto c.args.first.now (unless_misfit (front ++ height_misfits role h) (prefix_misfits s role m c.args.place maplets))) c.number_of-number.ensures)

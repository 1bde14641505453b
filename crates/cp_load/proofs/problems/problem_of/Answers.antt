use Rattle.std.proofs.Common.{[], map, take, drop, length, ◌-◌, refl, ap, ◌∙◌}
use Rattle.std.proofs.lemmas.Result.{IfOk-weaker}
use Rattle.cp_language.specs.Problems.{protocol_named, protocol_or_none, has_strand}
use Rattle.cp_sexpr.specs.View.{view}
use Rattle.cp_scope.specs.FirstFault.{first_onto}
use Rattle.cp_roles.specs.Above.{protocols_view, turned}
use Rattle.cp_roles.specs.Named.{shared_roles_view}
use Rattle.cp_load.proofs.ProblemParts.{remade, bodies-same, few_items, few_stated, problem-read}
use Rattle.cp_load.proofs.problems.problem_of.Goals as goal

pub returns-in_default-clause-faults : goal.returns-in_default-clause-faults
returns-in_default-clause-faults c =
    let same = c.note.ensures ∙ ap (first_onto c.args.first.now) (few_items (turned (protocols_view c.args.above.now) []) c.args.place c.args.items.now c.in_default.len_below) in
    IfOk-weaker c.no_problem.result _ _ (λ r h. same) c.no_problem.ensures

pub returns-in_default-clause-problem : goal.returns-in_default-clause-problem
returns-in_default-clause-problem c =
    IfOk-weaker c.no_problem.result _ _ (λ r h. h ∙ few_stated (turned (protocols_view c.args.above.now) []) c.args.place c.args.items.now c.in_default.len_below) c.no_problem.ensures

pub returns-clause-faults : goal.returns-clause-faults
returns-clause-faults c =
    let above = turned (protocols_view c.args.above.now) [] in
    let body = map view (take (length c.args.items.now - 2) (drop 2 c.args.items.now)) in
    let protocol = c.in_ok-protocol.protocol.value in
    let ds = c.in_ok-declared.declared in
    let strands = c.in_ok-strands.strands.items in
    let all = c.in_ok-strands.variables.items in
    let named = c.in_ok-protocol.ensures ∙ ap (λ t. protocol_or_none (protocol_named above t)) c.symbol_or_empty.ensures in
    let made = remade c.deref.result.now protocol ds ds body c.in_ok-strands.field-0.strands.items strands c.in_ok-strands.field-0.variables.items all
    c.deref.ensures refl (ap (λ v. v.items) c.in_ok-strands.strands-is) (ap (λ v. v.items) c.in_ok-strands.variables-is)
    c.in_ok-strands.ensures in
    let items = bodies-same (shared_roles_view c.roles.result.now) protocol.roles ds ds c.deref-3.result.now strands body c.variables_of.new.first
    (c.roles.ensures ∙ ap (λ q. q.roles) c.deref-2.ensures) refl (c.deref-3.ensures.value ∙ ap (λ v. v.items) c.in_ok-strands.strands-is) in
    problem-read above c.args.place c.args.items.now c.name-item.result c.variables-item.result c.in-len2-up.len_at_least c.name-item.is c.variables-item.is
    protocol named strands ds all c.in_ok-declared.ensures.declared made c.has_strand.result
    c.args.first.now c.note_unless.new.self c.protocol_name_faults.new.first c.variables_of.new.first c.body_faults.new.first
    (c.has_strand.ensures ∙ ap has_strand c.later_items.ensures) c.note_unless.ensures c.protocol_name_faults.ensures c.in_ok-declared.ensures.faults (c.in_ok-body_faults.ensures ∙ items)

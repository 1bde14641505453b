use Rattle.std.proofs.Common.{◌≡◌, ap, ◌∙◌}
use Rattle.cp_base.specs.declared.place.Code.TheVariants.{RoleUniqNoOrigin}
use Rattle.cp_sexpr.specs.View.{view}
use Rattle.cp_language.specs.Faults.{fault_unless, place_of}
use Rattle.cp_model.specs.Same.{origin_in}
use Rattle.cp_language.specs.Terms.{atom_faults, term_of}
use Rattle.cp_language.specs.Roles.{is_somewhere, role_unique_faults}
use Rattle.cp_scope.specs.FirstFault.{first_onto, onto_none}
use Rattle.cp_roles.proofs.ExactOrigins.{somewhere}
use Rattle.cp_scope.proofs.Firsts.{merged-unless}
use Rattle.cp_scope.proofs.Items.{each-taken}
use Rattle.cp_roles.proofs.uniques.role_uniques_faults.Goals as goal

pub loop-item-preserved : goal.loop-item-preserved
loop-item-preserved c =
    let ds = c.args.scope.variables.now in
    let f = view c.item-item.result in
    let i = c.atom_faults.new.first in
    let trace = c.args.scope.trace.now in
    let holds : c.is_some.result ≡ is_somewhere (origin_in trace (term_of ds f)) = c.is_some.ensures ∙ somewhere c.origin.result ∙ ap is_somewhere (c.origin.ensures ∙ ap (origin_in trace) c.in_ok-value.ensures) in
    let taken =
    merged-unless c.loop-item.first i c.note_unless_faulty.new.self c.merge.new.self (atom_faults ds f) (fault_unless (is_somewhere (origin_in trace (term_of ds f))) (place_of f) RoleUniqNoOrigin)
    (c.atom_faults.ensures ∙ ap (λ o. first_onto o (atom_faults ds f)) c.new-inside.ensures)
    (c.note_unless_faulty.ensures ∙ ap (λ at. onto_none i (fault_unless c.is_some.result at RoleUniqNoOrigin)) c.place_of.ensures ∙ ap (λ b. onto_none i (fault_unless b (place_of f) RoleUniqNoOrigin)) holds)
    c.merge.ensures in
    each-taken (role_unique_faults ds trace) c.args.items.now c.loop-item.item-index c.item-item.result c.loop-item-test.true c.item-item.is
    c.loop-item.first c.merge.new.self _ taken c.loop-item.invariant

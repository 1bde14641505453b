use Rattle.std.proofs.Common.{◌≡◌, map, refl, sym, ap, ◌∙◌, subst}
use Rattle.cp_sexpr.specs.View.{view}
use Rattle.cp_model.specs.Declares.{HasDeclaringRoles}
use Rattle.cp_model.specs.Skeleton.{Skeleton, skeleton_of}
use Rattle.cp_skel.specs.Sound.{IsSound}
use Rattle.cp_load.specs.UncheckedProblems.{unchecked_view}
use Rattle.cp_report.specs.Spelled.{Scope}
use Rattle.cp_report.specs.Skeletons.{scope_of, strands_mapped, skeleton_stated}
use Rattle.cp_spelled.specs.Views.{scope_view}
use Rattle.cp_stated.specs.ProblemMap.{values_by}
use Rattle.cp_stated.proofs.GivenOnce.{values-same, from-stated, parts_stated}
use Rattle.cp_stated.proofs.SoundStated.{stated_sound}
use Rattle.cp_stated.proofs.skeletons.skeleton_stated.Goals as goal

-- what the parts of the new skeleton make
parts : (c : goal.After-of)
    → skeleton_of c.in_ok-variables.variables c.args.strands.items c.of.result c.in_ok-assumptions.assumptions c.in_ok-from_problem.from_problem ≡ skeleton_stated (unchecked_view c.args.problem.now) (map view c.args.items.now)
parts c =
    let p = unchecked_view c.args.problem.now in
    let items = map view c.args.items.now in
    let names = c.args.names.now in
    let to_strands = c.in_ok-to_strands.ensures ∙ ap strands_mapped c.entries_under-entries.ensures in
    let values =
    c.in_ok-values.ensures ∙ ap (values_by names (scope_view c.args.scope)) c.entries_under-entries.ensures ∙ values-same p names (scope_view c.args.scope) (scope_of items) _ c.requires.names c.requires.scope in
    let from = from-stated p items c.args.problem.now.skeleton.from_problem c.deref.result.now c.deref-2.result.now c.in_ok-assumptions.assumptions c.in_ok-to_strands.to_strands.items c.in_ok-values.values.items
    c.in_ok-from_problem.from_problem refl (c.deref.ensures.value ∙ c.requires.strands) (c.deref-2.ensures.value ∙ c.in_ok-pairs.ensures) c.in_ok-assumptions.ensures to_strands values
    c.in_ok-from_problem.ensures in
    parts_stated p items c.in_ok-variables.variables c.args.strands.items c.of.result c.in_ok-assumptions.assumptions c.in_ok-from_problem.from_problem (c.in_ok-variables.ensures ∙ c.as_slice.ensures ∙ ap (λ (s : Scope). s.variables) c.requires.scope) c.requires.strands (c.of.ensures ∙ c.in_ok-pairs.ensures) c.in_ok-assumptions.ensures from

pub new-requires : goal.new-requires
new-requires c =
    subst IsSound (sym (parts c)) (stated_sound (unchecked_view c.args.problem.now) c.requires.others_fit.0 (map view c.args.items.now) (subst HasDeclaringRoles c.deref-3.ensures c.is_sound.ensures) c.requires.strands_fit c.requires.others_fit.1)

pub returns-clause-skeleton : goal.returns-clause-skeleton
returns-clause-skeleton c = c.new.ensures ∙ parts c.before

pub returns-clause-variables : goal.returns-clause-variables
returns-clause-variables c =
    ap (λ (k : Skeleton). k.variables) c.new.ensures ∙ c.in_ok-variables.ensures ∙ c.as_slice.ensures ∙ ap (λ (s : Scope). s.variables) c.requires.scope

pub assumptions_under-requires : goal.assumptions_under-requires
assumptions_under-requires c = c.requires.scope

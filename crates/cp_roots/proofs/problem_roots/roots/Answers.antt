use Rattle.std.proofs.Common.{[], sym, ◌∙◌}
use Rattle.std.proofs.lemmas.List.{nil_from_length}
use Rattle.cp_roots.proofs.AllRoots.{all_roots}
use Rattle.cp_roots.proofs.FewInstances.{nothing_to_identify}
use Rattle.cp_roots.proofs.Over.{skeleton_over}
use Rattle.cp_roots.proofs.RootsSoFar.{none_done, one_done, all_done, no_others}
use Rattle.cp_roots.proofs.problem_roots.roots.Goals as goal

pub loop-collapse-init : goal.loop-collapse-init
loop-collapse-init c = none_done c.reverse.new.self.items c.in_ok-roots.roots.items

pub loop-collapse-preserved : goal.loop-collapse-preserved
loop-collapse-preserved c =
    one_done c.reverse.new.self.items c.loop-collapse.rest.items c.pop.new.self.items c.in_ok-roots.roots.items c.loop-collapse.roots.items c.in-Some.collapse c.loop-collapse.invariant c.in-Some.ensures.items
    c.put_collapse.new.roots.items c.in_ok-put_collapse.ensures

pub returns-then-not-has_two_instances : goal.returns-then-not-has_two_instances
returns-then-not-has_two_instances c =
    let nothing = nothing_to_identify c.args.problem.now c.strands.result.now (sym c.strands.ensures) (sym c.has_two_instances.ensures ∙ c.if-not-has_two_instances.true) in
    let roots = c.in_ok-roots.roots.items in
    let are = all_roots c.args.protocol.now c.args.problem.now.variables c.args.problem.now (skeleton_over c.args.protocol.now c.args.problem.now c.is_sound.ensures c.requires.over) c.requires.own [] nothing c.args.problem.now.variables roots roots
    c.in_ok-roots.ensures (no_others roots) (λ k i. elim i [ ]) in
    record { exact = are.exact; sound = are.sound; variables = are.variables }

pub returns : goal.returns
returns c =
    let all = all_done c.in_ok-rest.rest.items c.reverse.new.self.items c.loop-collapse.rest.items c.in_ok-roots.roots.items c.loop-collapse.roots.items c.reverse.ensures.items
    (nil_from_length c.loop-collapse.rest.items (sym c.loop-collapse.rest.ok.0 ∙ c.in_default.ensures.cases.0)) c.loop-collapse.invariant in
    let are = all_roots c.args.protocol.now c.args.problem.now.variables c.args.problem.now (skeleton_over c.args.protocol.now c.args.problem.now c.is_sound.ensures c.requires.over) c.requires.own c.in_ok-rest.rest.items c.in_ok-rest.ensures.exact
    c.args.problem.now.variables c.in_ok-roots.roots.items c.loop-collapse.roots.items c.in_ok-roots.ensures all c.in_ok-rest.ensures.variables in
    record { exact = are.exact; sound = are.sound; variables = are.variables }

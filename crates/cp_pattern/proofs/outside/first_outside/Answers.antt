use Rattle.std.proofs.Common.{sym, ◌∙◌, subst}
use Rattle.cp_model.proofs.CarriedParts.{not_both}
use Rattle.cp_unify.specs.Bindings.{as_substitution}
use Rattle.cp_theory.specs.Inside.{IsInside}
use Rattle.cp_pattern.proofs.FirstOutside.{first_found, one_more_inside}
use Rattle.cp_pattern.proofs.outside.first_outside.Goals as goal

pub loop-path-preserved : goal.loop-path-preserved
loop-path-preserved c =
    let s = as_substitution c.args.from.now in
    let inside = subst (IsInside c.args.patterns.now s c.args.term.now) c.as_slice.ensures (c.in_ok-is_inside.ensures.0 c.if-branch.true) in
    one_more_inside c.args.patterns.now s c.args.critical.now c.args.term.now c.deref-path-items.result.now (c.deref-path-items.ensures.value ∙ c.in_ok-paths.ensures.paths)
    c.loop-path.path-index c.loop-path.invariant c.path-item.result c.loop-path-test.true c.path-item.is inside

pub returns-in-loop-path-clause-some : goal.returns-in-loop-path-clause-some
returns-in-loop-path-clause-some c =
    let s = as_substitution c.args.from.now in
    let first = first_found c.args.patterns.now s c.args.critical.now c.args.term.now c.deref-path-items.result.now (c.deref-path-items.ensures.value ∙ c.in_ok-paths.ensures.paths)
    c.loop-path.path-index c.loop-path.invariant c.path-item.result c.loop-path-test.true c.path-item.is
    (λ inside. not_both c.if-branch.false (c.in_ok-is_inside.ensures.1 (subst (IsInside c.args.patterns.now s c.args.term.now) (sym c.as_slice.ensures) inside))) in
    rw c.in_ok-first.ensures first

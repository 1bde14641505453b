use Rattle.std.proofs.Common.{refl}
use Rattle.cp_model.proofs.CarriedParts.{not_both}
use Rattle.cp_unify.specs.Bindings.{as_substitution}
use Rattle.cp_pattern.proofs.Matched.{one_matches, next_is_there, none_matches}
use Rattle.cp_pattern.proofs.pattern_matches.some_match.Goals as goal

pub loop-pattern-init : goal.loop-pattern-init
loop-pattern-init c h = h

pub returns-then-branch : goal.returns-then-branch
returns-then-branch c = (
  λ e. one_matches (as_substitution c.args.from.now) c.args.term.now c.args.patterns.now c.loop-pattern.pattern-index c.pattern-item.result c.loop-pattern-test.true c.pattern-item.is _ c.in_ok-matches.ensures c.if-branch.true,
  λ m. refl,
)

pub loop-pattern-preserved : goal.loop-pattern-preserved
loop-pattern-preserved c =
    next_is_there (as_substitution c.args.from.now) c.args.term.now c.args.patterns.now c.loop-pattern.pattern-index c.pattern-item.result c.loop-pattern-test.true c.pattern-item.is _ c.in_ok-matches.ensures c.if-branch.false c.loop-pattern.invariant

pub returns : goal.returns
returns c = (
  λ e. absurd (not_both refl e),
  λ m. absurd (none_matches (as_substitution c.args.from.now) c.args.term.now c.args.patterns.now c.loop-pattern.pattern-index c.loop-pattern-test.false c.loop-pattern.invariant m),
)

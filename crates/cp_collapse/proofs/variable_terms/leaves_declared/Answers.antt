use Rattle.std.proofs.Common.{◌<◌, length, sym, ◌∙◌}
use Rattle.cp_unify.specs.Bindings.{as_substitution}
use Rattle.cp_collapse.proofs.KeptTerms.{one_kept}
use Rattle.cp_collapse.proofs.variable_terms.leaves_declared.Goals as goal

pub loop-number-preserved : goal.loop-number-preserved
loop-number-preserved c =
    let l = c.loop-number in
    let lt : l.number < length c.args.terms.now = rw c.if-terms-declarations.false c.loop-number-test.true in
    one_kept (as_substitution c.args.s.now) l.number c.args.declarations.now c.args.terms.now c.index-declarations-number.result c.index-terms-number.result
    c.loop-number-test.true c.index-declarations-number.is lt c.index-terms-number.is
    (c.leaves.ensures c.if-not-leaves.false) (sym c.is_of_sort.ensures ∙ c.if-not-is_of_sort.false) l.invariant

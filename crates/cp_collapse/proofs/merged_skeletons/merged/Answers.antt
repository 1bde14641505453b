use Rattle.std.proofs.Common.{◌≡◌, List, refl, subst, ◌∙◌}
use Rattle.cp_unify.specs.Bindings.{as_substitution}
use Rattle.cp_model.specs.Skeleton.{Assumptions, FromProblem}
use Rattle.cp_model.specs.declared.node.OrderPair.{OrderPair}
use Rattle.cp_collapse.specs.Collapses.{ArePairsIn, assumptions_in, IsFromProblemIn}
use Rattle.cp_collapse.specs.MergedParts.{parts_view}
use Rattle.cp_collapse.proofs.Collected.{listed_collapsed}
use Rattle.cp_collapse.proofs.merged_skeletons.merged.Goals as goal

pub returns : goal.returns
returns c =
    let p = c.args.partial.now.lowest.items in
    let r = c.args.partial.now.bindings.value in
    let images = c.in_ok-pairs.pairs.items in
    let b = c.in_ok-assumptions.assumptions in
    let g = c.in_ok-from_problem.from_problem in
    let m = parts_view c.args.k.now.variables (record { strands = c.in_ok-strands.strands; pairs = c.in_ok-pairs.pairs; assumptions = c.in_ok-assumptions.assumptions; from_problem = c.in_ok-from_problem.from_problem }) in
    listed_collapsed c.args.k.now m _ p r c.in_ok-strands.strands.items c.requires.partition c.requires.exact c.in_ok-strands.ensures refl
    (subst (λ (qs : List OrderPair). ArePairsIn p qs images) (c.pairs.ensures ∙ c.order.ensures) (subst (λ xs. ArePairsIn xs c.pairs.result.now images) c.deref.ensures.value c.in_ok-pairs.ensures))
    c.requires.forward
    (subst (λ (a : Assumptions). b ≡ assumptions_in p (as_substitution r) a) c.assumptions.ensures
    (subst (λ s. b ≡ assumptions_in p (as_substitution s) c.assumptions.result.now) c.deref-2.ensures (subst (λ xs. b ≡ assumptions_in xs (as_substitution c.deref-2.result.now) c.assumptions.result.now) c.deref-3.ensures.value c.in_ok-assumptions.ensures)))
    (subst (λ (f : FromProblem). IsFromProblemIn p (as_substitution r) f g) c.from_problem.ensures
    (subst (λ s. IsFromProblemIn p (as_substitution s) c.from_problem.result.now g) c.deref-2.ensures (subst (λ xs. IsFromProblemIn xs (as_substitution c.deref-2.result.now) c.from_problem.result.now g) c.deref-3.ensures.value c.in_ok-from_problem.ensures)))
    refl

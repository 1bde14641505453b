use Rattle.std.proofs.Common.{arith}
use Rattle.std.proofs.lemmas.Result.{IfOk-weaker}
use Rattle.cp_unify.specs.Solved.{IsSolution}
use Rattle.cp_unify.proofs.SolvedParts.{leads_first, leads_on, leads_nowhere, leads_to_end, leads_apart}
use Rattle.cp_unify.proofs.unification.+solve.Goals as goal

pub loop-first-init : goal.loop-first-init
loop-first-init t c = (grind arith, leads_first _ _ _ c.requires)

pub solve-requires : goal.solve-requires
solve-requires t c = (grind arith, c.loop-first.invariant.1.solved)

pub returns-then-not-branch : goal.returns-then-not-branch
returns-then-not-branch t c = leads_nowhere _ _ _ _ _ _ c.loop-first.invariant.1 _ _ _ _ _ _ c.in-Parts.ensures c.in_ok-solve-in-Parts.ensures c.if-not-branch.true

pub loop-first-preserved : goal.loop-first-preserved
loop-first-preserved t c =
    (grind arith, leads_on _ _ _ _ _ _ c.loop-first.invariant.1 _ _ _ _ _ _ c.in-Parts.ensures c.in_ok-solve-in-Parts.ensures c.if-not-branch.false)

pub solve_leaf-requires : goal.solve_leaf-requires
solve_leaf-requires t c = record { solved = c.loop-first.invariant.1.solved; leaf = c.in-Leaf.ensures }

pub returns-in-Leaf : goal.returns-in-Leaf
returns-in-Leaf t c =
    IfOk-weaker c.solve_leaf.result (λ same. IsSolution same c.loop-first.left.now c.loop-first.right.now c.loop-first.solved c.solve_leaf.new.solved) _
    (λ same k. leads_to_end _ _ _ _ _ _ c.loop-first.invariant.1 same c.solve_leaf.new.solved k) c.solve_leaf.ensures

pub returns-in-Apart : goal.returns-in-Apart
returns-in-Apart t c = leads_apart _ _ _ _ _ _ c.loop-first.invariant.1 c.in-Apart.ensures

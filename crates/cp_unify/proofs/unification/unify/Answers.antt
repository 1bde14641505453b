use Rattle.std.proofs.Common.{List, [], subst, sym}
use Rattle.cp_unify.specs.Bindings.{Binding}
use Rattle.cp_unify.specs.Solved.{AreSolvedBut}
use Rattle.cp_unify.specs.Unifiers.{IsMostGeneralUnifier}
use Rattle.cp_unify.proofs.Answered.{some_answer, none_answer}
use Rattle.cp_unify.proofs.SolvedParts.{is_solved}
use Rattle.cp_unify.proofs.unification.unify.Goals as goal

pub into_solved-requires : goal.into_solved-requires
into_solved-requires c = (is_solved _ _ _ _ _ c.in_ok-solve.ensures c.if-branch.true).solved

pub returns-then-branch-clause-some : goal.returns-then-branch-clause-some
returns-then-branch-clause-some c =
    let h : AreSolvedBut c.args.s.now [] c.in-Some.solved = rw c.in-Some.is at c.in_ok-solved.ensures in
    subst (λ (q : List Binding). IsMostGeneralUnifier c.args.a.now c.args.b.now c.args.s.now q) (sym c.into_solved.ensures)
    (some_answer _ _ _ _ _ _ h c.in_ok-solve.ensures c.if-branch.true)

pub returns-else-branch-clause-none : goal.returns-else-branch-clause-none
returns-else-branch-clause-none c =
    let h : AreSolvedBut c.args.s.now [] c.in-Some.solved = rw c.in-Some.is at c.in_ok-solved.ensures in
    none_answer _ _ _ _ _ _ h c.in_ok-solve.ensures c.if-branch.false

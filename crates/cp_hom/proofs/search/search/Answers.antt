use Rattle.std.proofs.Common.{◌≡◌, ◌<◌, List, [], ◌∷◌, ◌++◌, sym, ap, ◌∙◌, subst}
use Rattle.cp_hom.specs.PartialMaps.{partial_view}
use Rattle.cp_hom.specs.OpenMaps.{OpenMap, branch_view, branches_view, all_steps, AreOpen, IsWithinSome}
use Rattle.cp_hom.specs.declared.search.Branch.{Branch}
use Rattle.cp_hom.proofs.SearchSteps.{first_open, first_within, popped, last_open, front_open}
use Rattle.cp_hom.proofs.search.search.Goals as goal

pub loop-branch-init : goal.loop-branch-init
loop-branch-init c =
    let o : Branch = record { done = 0; choice = 0; given = c.args.given } in
    let e : branches_view c.push.new.self.items ≡ branch_view o ∷ [] = ap branches_view (c.in_ok-push.ensures.items ∙ ap (λ (os : List Branch). os ++ (o ∷ [])) c.new-branches.ensures.items) in
    record {
      are_open = subst (AreOpen c.args.a.now c.args.b.now c.args.items.now) (sym e)
          (first_open c.args.a.now c.args.b.now c.args.items.now (partial_view c.args.given) c.requires.started);
      none_lost = λ f h follows. subst (IsWithinSome c.args.a.now c.args.b.now c.args.items.now f) (sym e)
          (first_within c.args.a.now c.args.b.now c.args.items.now (partial_view c.args.given) c.requires.items f h follows);
    }

pub advance-requires-clause-branch : goal.advance-requires-clause-branch
advance-requires-clause-branch c =
    last_open c.args.a.now c.args.b.now c.args.items.now (branches_view c.pop.new.self.items) (branch_view c.in-Some.branch)
    (subst (AreOpen c.args.a.now c.args.b.now c.args.items.now) (popped _ _ _ c.in-Some.ensures.items) c.loop-branch.invariant.are_open)

pub advance-requires-clause-branches : goal.advance-requires-clause-branches
advance-requires-clause-branches c =
    front_open c.args.a.now c.args.b.now c.args.items.now (branches_view c.pop.new.self.items) (branch_view c.in-Some.branch)
    (subst (AreOpen c.args.a.now c.args.b.now c.args.items.now) (popped _ _ _ c.in-Some.ensures.items) c.loop-branch.invariant.are_open)

pub loop-branch-smaller : goal.loop-branch-smaller
loop-branch-smaller c =
    let t = rw c.in_default-2.is at c.in_ok-found.ensures.none in
    subst (λ (os : List OpenMap). all_steps c.args.b.now c.args.items.now (branches_view c.advance.new.branches.items) < all_steps c.args.b.now c.args.items.now os)
    (sym (popped _ _ _ c.in-Some.ensures.items)) t.fewer_steps

pub loop-branch-preserved : goal.loop-branch-preserved
loop-branch-preserved c =
    let t = rw c.in_default-2.is at c.in_ok-found.ensures.none in
    record {
      are_open = t.are_open;
      none_lost = λ f h follows. t.none_lost f h
          (subst (IsWithinSome c.args.a.now c.args.b.now c.args.items.now f) (popped _ _ _ c.in-Some.ensures.items) (c.loop-branch.invariant.none_lost f h follows));
    }

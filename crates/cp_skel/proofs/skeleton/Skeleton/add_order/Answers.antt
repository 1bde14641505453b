use Rattle.std.proofs.Common.{refl}
use Rattle.cp_skel.specs.Parts.{skeleton_of_parts}
use Rattle.cp_skel.proofs.AddedPairs.{is_back, not_back, sound_with, before_with}
use Rattle.cp_skel.proofs.skeleton.Skeleton.add_order.Goals as goal

pub returns-then-leads_back-clause-refused : goal.returns-then-leads_back-clause-refused
returns-then-leads_back-clause-refused c =
    let back = is_back (skeleton_of_parts c.self.inside) _ c.self.view_is c.self.invariant _ c.requires.pair _ _ c.pairs.ensures c.in_ok-leads_back.ensures c.if-leads_back.true in
    (λ e. back, λ b. refl)

pub returns-clause-refused : goal.returns-clause-refused
returns-clause-refused c =
    let free = not_back (skeleton_of_parts c.self.inside) _ c.self.view_is c.self.invariant _ c.requires.pair _ _ c.pairs.ensures c.in_ok-leads_back.ensures c.if-leads_back.false in
    (λ e. absurd (cc), λ b. absurd (free b))

pub invariant_of-self-2 : goal.invariant_of-self-2
invariant_of-self-2 c =
    sound_with (skeleton_of_parts c.self.inside) _ c.self.view_is c.self.invariant _ c.requires.pair _ _ c.pairs.ensures c.in_ok-leads_back.ensures c.if-leads_back.false c.add.new.self c.in_ok-add.ensures.keeps

pub returns-clause-before : goal.returns-clause-before
returns-clause-before c = λ t.
    before_with (skeleton_of_parts c.self.inside) _ c.self.view_is c.self.invariant _ c.requires.pair _ _ c.pairs.ensures c.in_ok-leads_back.ensures c.if-leads_back.false c.add.new.self c.in_ok-add.ensures.keeps

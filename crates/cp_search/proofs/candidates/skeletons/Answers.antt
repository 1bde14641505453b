use Rattle.std.proofs.Common.{map, sym, ap, [], ◌∷◌, ◌++◌, ◌∙◌}
use Rattle.std.proofs.lemmas.List.{map-append}
use Rattle.cp_search.specs.declared.made.Made.{Made}
use Rattle.cp_search.specs.Candidates.{open_from}
use Rattle.cp_search.proofs.Opened.{passed_here, taken_here}
use Rattle.cp_search.proofs.candidates.skeletons.Goals as goal

pub loop-number-preserved-then-not-is_open : goal.loop-number-preserved-then-not-is_open
loop-number-preserved-then-not-is_open c =
    passed_here (λ x. x.skeleton) c.args.made.now c.args.settled.now c.loop-number.number (map (λ x. x.skeleton) (open_from 0 c.args.made.now c.args.settled.now)) c.index-settled-number.result c.loop-number-test.true c.index-settled-number.is c.requires
    c.is_open.result c.is_open.ensures c.if-not-is_open.true (map (λ k. k.now) c.loop-number.skeletons.items) c.loop-number.invariant

pub loop-number-preserved : goal.loop-number-preserved
loop-number-preserved c =
    taken_here (λ x. x.skeleton) c.args.made.now c.args.settled.now c.loop-number.number (map (λ x. x.skeleton) (open_from 0 c.args.made.now c.args.settled.now)) c.index-settled-number.result c.loop-number-test.true c.index-settled-number.is c.requires
    c.is_open.result c.is_open.ensures c.index-made-number.result c.index-made-number.is c.if-not-is_open.false (map (λ k. k.now) c.loop-number.skeletons.items) (map (λ k. k.now) c.push.new.self.items) (ap (map (λ k. k.now)) c.in_ok-push.ensures.items ∙ (map-append _ _ _ ∙ ap (λ (m : Made). map (λ k. k.now) c.loop-number.skeletons.items ++ m.skeleton ∷ []) (sym c.index-made-number.is))) c.loop-number.invariant

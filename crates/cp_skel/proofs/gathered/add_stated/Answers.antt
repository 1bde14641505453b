use Rattle.std.proofs.Common.{◌+◌, [], ◌∷◌, drop, ap, ◌∙◌}
use Rattle.std.proofs.lemmas.Bool.{both_ways}
use Rattle.std.proofs.lemmas.List.{drop_all}
use Rattle.cp_lists.proofs.Members.{drop_read}
use Rattle.cp_skel.proofs.EachOnce.{kept-taken, kept-left, kept-end}
use Rattle.cp_skel.proofs.gathered.add_stated.Goals as goal
use Rattle.cp_skel.proofs.gathered.add_stated.Goals.{then-has+in_ok-clone+in_ok-add_once, else-has}

pub loop-item-preserved : goal.loop-item-preserved
loop-item-preserved g c =
    let n = c.loop-item.item-index in
    let old = c.args.old.now in
    let stated = c.args.stated.now in
    let v = c.item-item.result in
    let onto = g.T.Gathered.onto in
    let next = drop_read stated n v c.loop-item-test.true c.item-item.is in
    elim c.if-has.branch [
      | then-has+in_ok-clone+in_ok-add_once w ↦
          kept-taken g.met.T.Gathered.gathers old (drop n stated) (drop (n + 1) stated) c.loop-item.listed.items c.if-has.listed.items _ v next c.loop-item.invariant
          (c.has.ensures.0 w.if-has.true) (ap (λ l. l.items) w.listed-is ∙ w.in_ok-add_once.ensures.added ∙ ap (λ a. onto c.loop-item.listed.items (a ∷ [])) (g.met.T.Gathered.same_clone v _ w.in_ok-clone.ensures.cases))
      | else-has w ↦
          kept-left g.met.T.Gathered.gathers old (drop n stated) (drop (n + 1) stated) c.loop-item.listed.items c.if-has.listed.items _ v next c.loop-item.invariant
          (λ i. both_ways c.has.result w.if-has.false (c.has.ensures.1 i)) (ap (λ l. l.items) w.listed-is)
    ]

pub returns : goal.returns
returns g c =
    kept-end g.met.T.Gathered.gathers c.args.old.now (drop c.loop-item.item-index c.args.stated.now) c.loop-item.listed.items _
    (drop_all c.loop-item.item-index c.args.stated.now c.loop-item-test.false) c.loop-item.invariant

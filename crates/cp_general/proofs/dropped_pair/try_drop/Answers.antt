use Rattle.std.proofs.Common.{refl, sym, subst, ap, ◌∙◌}
use Rattle.std.proofs.lemmas.Option.{IfSome_then}
use Rattle.std.proofs.lemmas.Result.{IfOk-weaker}
use Rattle.cp_model.specs.declared.strand.Event.TheVariants.{Receive as recv}
use Rattle.cp_model.specs.Skeleton.{Skeleton}
use Rattle.cp_model.specs.Derivable.{DerivableAt}
use Rattle.cp_skel.specs.Ordered.{ordered_by}
use Rattle.cp_general.proofs.Dropped.{keeps_of, of_keeps, sound_of, leaves_of, never_of, never_keeps}
use Rattle.cp_general.proofs.Stepped.{if_none_then}
use Rattle.cp_general.proofs.FitTests.{both_some}
use Rattle.cp_general.proofs.dropped_pair.try_drop.Goals as goal

pub derived_in_order-requires-clause-sound : goal.derived_in_order-requires-clause-sound
derived_in_order-requires-clause-sound c =
    let k = c.args.k.now in
    let same = rw c.in-Some.is at c.in_ok-order.ensures.order in
    sound_of k c.is_sound.ensures c.requires.lists c.args.pair c.requires.may c.in-Some.order same
    (keeps_of k c.is_sound.ensures c.requires.lists c.args.pair c.requires.may c.in-Some.order k.from_problem.pairs same refl (rw c.in-Some.is at c.in_ok-order.ensures.keeps))

pub derived_in_order-requires-clause-there : goal.derived_in_order-requires-clause-there
derived_in_order-requires-clause-there c =
    let o = c.requires.may.covering.of_order.pair in
    (recv o.received, o.reception)

pub returns-in-Some-clause-some : goal.returns-in-Some-clause-some
returns-in-Some-clause-some c =
    let k = c.args.k.now in
    let o = c.requires.may.covering.of_order.pair in
    let same = rw c.in-Some.is at c.in_ok-order.ensures.order in
    both_some c.derived_in_order.result _ _ _
    (λ h exact derived.
    leaves_of k c.is_sound.ensures c.requires.lists c.args.pair c.requires.may h (exact ∙ ap (ordered_by k) same) c.requires.fit
    (keeps_of k c.is_sound.ensures c.requires.lists c.args.pair c.requires.may c.in-Some.order k.from_problem.pairs same refl (rw c.in-Some.is at c.in_ok-order.ensures.keeps))
    (subst (λ (z : Skeleton). DerivableAt z c.args.pair.later o.received) (sym exact) (derived o.received o.reception)))
    c.derived_in_order.ensures.exact c.derived_in_order.ensures.derived

pub returns-in-Some-clause-none : goal.returns-in-Some-clause-none
returns-in-Some-clause-none c =
    let k = c.args.k.now in
    let o = c.requires.may.covering.of_order.pair in
    let same = rw c.in-Some.is at c.in_ok-order.ensures.order in
    IfOk-weaker c.derived_in_order.result _ _
    (λ found h. if_none_then found h
    (λ none. never_of k c.is_sound.ensures c.requires.lists c.args.pair c.requires.may (ordered_by k c.in-Some.order) (ap (ordered_by k) same) (none o.received o.reception)))
    c.derived_in_order.ensures.none

pub returns-in-Some-clause-variables : goal.returns-in-Some-clause-variables
returns-in-Some-clause-variables c =
    IfOk-weaker c.derived_in_order.result _ _ (λ found h. IfSome_then found h (λ g exact. ap (λ (d : Skeleton). d.variables) exact)) c.derived_in_order.ensures.exact

pub returns-in-None-clause-none : goal.returns-in-None-clause-none
returns-in-None-clause-none c =
    let k = c.args.k.now in
    never_keeps k c.is_sound.ensures c.requires.lists c.args.pair c.requires.may
    (λ keeps. (rw c.in-None.is at c.in_ok-order.ensures.none) (of_keeps k c.is_sound.ensures c.requires.lists c.args.pair c.requires.may _ k.from_problem.pairs refl refl keeps))

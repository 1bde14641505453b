use Rattle.std.proofs.Common.{◌∙◌, ap}
use Rattle.std.proofs.lemmas.Result.{IfOk-weaker}
use Rattle.std.proofs.lemmas.Option.{IfSome_then}
use Rattle.cp_model.specs.Skeleton.{Skeleton}
use Rattle.cp_skel.proofs.SoundSkeletons.{sound_ordered}
use Rattle.cp_general.proofs.Stepped.{way_begins, none_dropped, all_delete_none, all_fit, if_none_then, added_still}
use Rattle.cp_general.proofs.generalisation.dropped_where_fit.Goals as goal

pub dropped_of_all-requires-clause-fit : goal.dropped_of_all-requires-clause-fit
dropped_of_all-requires-clause-fit c =
    all_fit c.args.k.now c.in_ok-all.all c.in_ok-all.ensures.same c.in_ok-all.ensures.before c.is_sound.ensures.skeleton.no_cycle c.requires.fit

pub dropped_of_all-requires-clause-added : goal.dropped_of_all-requires-clause-added
dropped_of_all-requires-clause-added c = added_still c.args.k.now c.in_ok-all.all c.in_ok-all.ensures.same c.args.added.now c.requires.added

pub returns-clause-some : goal.returns-clause-some
returns-clause-some c =
    let k = c.args.k.now in
    let all = c.in_ok-all.all in
    let same = c.in_ok-all.ensures.same in
    let before = c.in_ok-all.ensures.before in
    IfOk-weaker c.dropped_of_all.result _ _
    (λ found h. IfSome_then found h (λ g leads. leads k (λ h. way_begins k all h same before c.requires.none (all_delete_none k all same before (sound_ordered k c.is_sound.ensures) c.requires.none))))
    c.dropped_of_all.ensures.some

pub returns-clause-none : goal.returns-clause-none
returns-clause-none c =
    IfOk-weaker c.dropped_of_all.result _ _
    (λ found h. if_none_then found h (none_dropped c.args.k.now c.in_ok-all.all c.in_ok-all.ensures.same c.in_ok-all.ensures.before))
    c.dropped_of_all.ensures.none

pub returns-clause-variables : goal.returns-clause-variables
returns-clause-variables c =
    IfOk-weaker c.dropped_of_all.result _ _ (λ found h. IfSome_then found h (λ g same. same ∙ ap (λ (d : Skeleton). d.variables) c.in_ok-all.ensures.same)) c.dropped_of_all.ensures.variables

-- Where the forms have no faults, the skeletons of the unchecked problems are sound.
use Rattle.std.proofs.Common.{◌≡◌, ℕ, ◌<◌, List, [], length, get_or, map, sym, subst}
use Rattle.cp_lists.proofs.Members.{into_map, item_is_in}
use Rattle.cp_lists.specs.Lists.{IsIn}
use Rattle.cp_model.proofs.SingleMaps.{states_itself}
use Rattle.cp_model.proofs.StatedItself.{keeps_its_own}
use Rattle.cp_sexpr.specs.View.{view, views}
use Rattle.cp_sexpr.specs.declared.form.Form as program
use Rattle.cp_language.specs.Input.{Entry, entries_from, input_of, faults_of}
use Rattle.cp_scope.proofs.Views.{items_of-forms_of}
use Rattle.cp_language.proofs.Problems.{are_skeletons, map_to_themselves, roles_are_well_formed}
use Rattle.cp_load.specs.UncheckedProblems.{unchecked_entry_view, HaveSoundSkeletons, IsSoundIfThere}
use Rattle.cp_load.specs.declared.unchecked_problems.UncheckedEntry.{UncheckedEntry}

pub unchecked_sound : (fs : List program.Form) (us : List UncheckedEntry) → faults_of (views fs) ≡ [] → map unchecked_entry_view us ≡ entries_from [] (map view fs) → HaveSoundSkeletons us
unchecked_sound fs us none same u listed problem is =
    let entry = unchecked_entry_view u in
    let here : IsIn entry (entries_from [] (map view fs)) = subst (λ (es : List Entry). IsIn entry es) same (into_map unchecked_entry_view listed) in
    let entered : IsIn entry (input_of (views fs)) = subst (λ gs. IsIn entry (entries_from [] gs)) (sym (items_of-forms_of (map view fs))) here in
    let skeleton = are_skeletons (views fs) entry problem none entered is in
    let kept = keeps_its_own problem.variables problem.skeleton (states_itself (map_to_themselves (views fs) entry problem none entered is)) in
    record {
      protocol = problem.protocol;
      declared = λ role i. (roles_are_well_formed (views fs) entry problem role none entered is i).trace;
      skeleton = skeleton;
      in_range = kept.in_range;
      assumed = kept.assumed;
      ordered = kept.ordered;
    }

-- one of the unchecked entries
pub one_sound : (us : List UncheckedEntry) (i : ℕ) (u : UncheckedEntry) → HaveSoundSkeletons us → i < length us → u ≡ get_or us i u → IsSoundIfThere u
one_sound us i u sound lt is = sound u (item_is_in us i u lt is)

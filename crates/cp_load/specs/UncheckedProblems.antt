-- What forms state while they are read. Where they have faults, an unchecked problem may be no problem: its skeleton may be none.
use Rattle.std.specs.Prelude.{◌≡◌, List, Some}
use Rattle.cp_lists.specs.Lists.{IsIn}
use Rattle.cp_sexpr.specs.View.{view}
use Rattle.cp_language.specs.Problems.{Problem}
use Rattle.cp_language.specs.Input.{Entry, plain_entry, protocol_entry, problem_entry, stated}
use Rattle.cp_model.specs.Skeleton.{Skeleton, skeleton_of}
use Rattle.cp_skel.specs.Sound.{IsSound}
use Rattle.cp_load.specs.declared.unchecked_problems.UncheckedSkeleton.{UncheckedSkeleton}
use Rattle.cp_load.specs.declared.unchecked_problems.UncheckedProblem.{UncheckedProblem}
use Rattle.cp_load.specs.declared.unchecked_problems.UncheckedEntry.{UncheckedEntry}
use Rattle.cp_load.specs.declared.unchecked_problems.UncheckedEntry.TheVariants as unchecked

-- The skeleton of these parts.
abbrev pub skeleton_unchecked : UncheckedSkeleton → Skeleton
skeleton_unchecked k = skeleton_of k.variables k.strands.items k.order k.assumptions k.from_problem

-- The problem that an unchecked problem stands for.
abbrev pub unchecked_view : UncheckedProblem → Problem
unchecked_view d = record {
  protocol = d.protocol.value;
  variables = d.skeleton.variables;
  declared = d.declared;
  skeleton = skeleton_unchecked d.skeleton;
}

-- What an unchecked entry stands for.
abbrev pub unchecked_entry_view : UncheckedEntry → Entry
unchecked_entry_view (unchecked.Plain f) = plain_entry (view f.now)
unchecked_entry_view (unchecked.Protocol f p) = protocol_entry (view f.now) p.value
unchecked_entry_view (unchecked.Problem f d) = problem_entry (view f.now) (unchecked_view d)

-- If the entry has a problem, the skeleton of that is sound.
abbrev pub IsSoundIfThere : UncheckedEntry → Type 0
IsSoundIfThere u = (p : Problem) → stated (unchecked_entry_view u) ≡ Some p → IsSound p.skeleton

-- The skeletons of the problems of all these entries are sound.
abbrev pub HaveSoundSkeletons : List UncheckedEntry → Type 0
HaveSoundSkeletons us = (u : UncheckedEntry) → IsIn u us → IsSoundIfThere u

-- An example: the normal form of a skeleton in which a unique text is misplaced.
use Rattle.std.specs.Prelude.{[], ◌∷◌, ◌==◌, if◌then◌else◌}
use Rattle.cp_model.specs.Term.{Substitution}
use Rattle.cp_model.specs.Identity.{unchanged}
use Rattle.cp_model.specs.Skeleton.{Skeleton}
use Rattle.cp_theory.specs.Normal.{skeleton_under, with_pairs}
use Rattle.cp_theory.specs.RepeatedText.{two_say_it, from_speaker}

-- The text that the repeater heard is the one that he says.
abbrev pub heard_is_said : Substitution
heard_is_said = record unchanged { texts = λ n. if n == 1 then 0 else n }

-- The repeater heard the text from the speaker, and says it.
abbrev pub repeated_after_speaker : Skeleton
repeated_after_speaker = with_pairs (skeleton_under heard_is_said two_say_it) (from_speaker ∷ [])

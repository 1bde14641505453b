-- Labels that are sound for one problem, and others that are made behind them.
use Rattle.std.proofs.Common.{◌≡◌, ⊎_elim, List, ◌++◌, Some, sym, ap, ◌∙◌}
use Rattle.cp_lists.specs.Lists.{item_at, IsIn}
use Rattle.cp_lists.proofs.Items.{front_or_behind}
use Rattle.cp_model.specs.Strand.{Protocol}
use Rattle.cp_model.specs.Skeleton.{Skeleton}
use Rattle.cp_tree.specs.Sound.{IsSoundMade}
use Rattle.cp_search.specs.declared.made.Made.{Made}
use Rattle.cp_search.specs.MadeLabels.{made_view}
use Rattle.cp_search.specs.ResolvedLabels.{ForOneProblem, AreSoundMade}

-- Something else that is true for the same problem.
pub for_the_same : {protocol : Protocol} {P Q : Skeleton → Type 0} (s : ForOneProblem protocol P) → Q s.problem → ForOneProblem protocol Q
for_the_same s q = record { problem = s.problem; variables = s.variables; skeleton = s.skeleton; own = s.own; each = q }

-- All labels are sound where those in front are, and each that is made behind them is.
pub sound_behind : {protocol : Protocol} (old added new : List Made) → new ≡ old ++ added → (s : AreSoundMade protocol old) → ((m : Made) → IsIn m added → IsSoundMade protocol s.problem (made_view m)) → AreSoundMade protocol new
sound_behind old added new behind s each =
    for_the_same s (λ j m there. ⊎_elim (λ (front : item_at old j ≡ Some m). s.each j m front) (each m) (front_or_behind old added j m (ap (λ (xs : List Made). item_at xs j) (sym behind) ∙ there)))

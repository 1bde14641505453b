-- The order of positions: a term comes before its parts, and a left part, with all below it, before the right one.
use Rattle.std.specs.Prelude.{◌≡◌, ◌⊎◌, List, [], ◌∷◌}
use Rattle.cp_lists.specs.Lists.{IsIn}
use Rattle.cp_model.specs.declared.step.Step.{Step}
use Rattle.cp_model.specs.declared.step.Step.TheVariants.{Left, Right}

-- One position comes before the other.
abbrev pub ComesBefore : List Step → List Step → Type 0
ComesBefore [] [] = ⊥
ComesBefore [] (t ∷ q) = Unit {0}
ComesBefore (s ∷ p) [] = ⊥
ComesBefore (s ∷ p) (t ∷ q) = ((s ≡ Left) × (t ≡ Right)) ⊎ ((s ≡ t) × ComesBefore p q)

-- Each position of the list comes before all later ones.
abbrev pub AreInPreorder : List (List Step) → Type 0
AreInPreorder [] = Unit {0}
AreInPreorder (p ∷ ps) = ((q : List Step) → IsIn q ps → ComesBefore p q) × AreInPreorder ps

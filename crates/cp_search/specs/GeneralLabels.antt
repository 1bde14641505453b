-- What becomes of realised labels.
use Rattle.std.specs.Prelude.{◌≡◌, ℕ, List, length, true, false, Some, None}
use Rattle.cp_lists.specs.Lists.{item_at}
use Rattle.cp_model.specs.Strand.{Protocol}
use Rattle.cp_model.specs.Skeleton.{Skeleton}
use Rattle.cp_general.specs.Generalisation.{IsMaximallyGeneral, GeneralisesTo}
use Rattle.cp_tree.specs.Made.{made_of_generalisation}
use Rattle.cp_search.specs.declared.made.Made.{Made}
use Rattle.cp_search.specs.declared.resolved.Resolved.{Resolved}
use Rattle.cp_search.specs.declared.resolved.Resolved.TheVariants as settled
use Rattle.cp_search.specs.MadeLabels.{AddsMade, AddsGeneral}
use Rattle.cp_search.specs.ResolvedLabels.{AreSoundMade}

-- No step of generalising applies to label i.
pub record IsOwnGeneralisation (i : ℕ) (ms : List Made) : Type 0 where
  pub label : Made
  pub at : item_at ms i ≡ Some label
  pub most_general : IsMaximallyGeneral label.skeleton

-- What label i generalises to is made behind the other labels, and known to generalise no further. It is sound where these are.
pub record Generalises (i : ℕ) (old new : List Made) : Type 0 where
  pub label : Made
  pub at : item_at old i ≡ Some label
  pub unknown : label.general ≡ false
  pub skeleton : Skeleton
  pub generalises : GeneralisesTo label.skeleton skeleton
  pub made : AddsMade (made_of_generalisation i skeleton) old new
  pub general : AddsGeneral true old new
  pub sound : (protocol : Protocol) → label.dead ≡ false → AreSoundMade protocol old → AreSoundMade protocol new

-- What becomes of label i where it is realised: no step applies to it, and its mark is open; or it generalises to the label that
-- is made behind the others.
abbrev pub ResolvesRealised : ℕ → List Made → List Made → Resolved → Type 0
ResolvesRealised i old new (settled.Leaf None) = IsOwnGeneralisation i old × (new ≡ old)
ResolvesRealised i old new (settled.Leaf (Some mark)) = ⊥
ResolvesRealised i old new (settled.Generalised child) = Generalises i old new × (child ≡ length old)
ResolvesRealised i old new (settled.Expanded e) = ⊥

-- The labels among which shapes are looked for.
use Rattle.std.specs.Prelude.{◌≡◌, ◌≢◌, ◌⊎◌, ℕ, suc, List, [], ◌∷◌, map, Some}
use Rattle.cp_lists.specs.Lists.{item_at}
use Rattle.cp_model.specs.Skeleton.{Skeleton}
use Rattle.cp_model.specs.Realisation.{AllDerivable}
use Rattle.cp_model.specs.Tree.{Label}
use Rattle.cp_model.specs.declared.tree.Mark.TheVariants.{Dead as dead, Seen as seen}

-- No label was made from it. A realised label has its generalisation as a child where that is another skeleton, so that one
-- with no child is its own generalisation.
abbrev pub HasNoChild : Label → Type 0
HasNoChild l = l.children ≡ []

-- The label is a candidate for a shape: it lives, is seen in no other, all its receptions are derivable, and no label was
-- made from it.
pub record IsCandidate (l : Label) : Type 0 where
  pub lives : l.mark ≢ Some dead
  pub not_seen : (n : ℕ) → l.mark ≢ Some (seen n)
  pub realised : AllDerivable l.skeleton
  pub own : HasNoChild l

-- A candidate: the number of its label, and its skeleton.
pub record Candidate : Type 0 where
  pub number : ℕ
  pub skeleton : Skeleton

-- Of items that are numbered from n on the candidates are those of which the fact is true, in their order.
abbrev pub CandidatesFrom : {A : Type 0} → (A → Type 0) → (A → Skeleton) → ℕ → List A → List Candidate → Type 0
CandidatesFrom fact skeleton n [] candidates = candidates ≡ []
CandidatesFrom fact skeleton n (x ∷ xs) candidates =
    (fact x × ((rest : List Candidate) × (candidates ≡ record { number = n; skeleton = skeleton x } ∷ rest) × CandidatesFrom fact skeleton (suc n) xs rest))
    ⊎ ((fact x → ⊥) × CandidatesFrom fact skeleton (suc n) xs candidates)

-- The candidates among the labels of a tree.
abbrev pub AreCandidates : List Label → List Candidate → Type 0
AreCandidates = CandidatesFrom IsCandidate (λ l. l.skeleton) 0

abbrev pub skeletons_of : List Candidate → List Skeleton
skeletons_of = map (λ c. c.skeleton)

-- Candidate number p is label number i.
pub record IsLabelAt (candidates : List Candidate) (p i : ℕ) : Type 0 where
  pub candidate : Candidate
  pub at : item_at candidates p ≡ Some candidate
  pub number : candidate.number ≡ i

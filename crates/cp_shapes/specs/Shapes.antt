-- Which candidates are shapes, and of which shape each of the others is an instance. Candidates are skeletons in the order of
-- their labels.
use Rattle.std.specs.Prelude.{◌≡◌, ◌≢◌, ◌⊎◌, ℕ, ◌<◌, List, length, Option, Some, None}
use Rattle.cp_lists.specs.Lists.{item_at}
use Rattle.cp_model.specs.Skeleton.{Skeleton}
use Rattle.cp_model.specs.Homomorphism.{Embeds}

-- The least number of which something holds.
pub record IsLeast (P : ℕ → Type 0) (n : ℕ) : Type 0 where
  pub holds : P n
  pub least : (m : ℕ) → m < n → P m → ⊥

-- The least number of which something holds; none where it holds of none.
abbrev pub FindsLeast : (ℕ → Type 0) → Option ℕ → Type 0
FindsLeast P (Some n) = IsLeast P n
FindsLeast P None = (n : ℕ) → P n → ⊥

-- Skeleton number n embeds in skeleton number m.
pub record EmbedsAt (ks : List Skeleton) (n m : ℕ) : Type 0 where
  pub first : Skeleton
  pub second : Skeleton
  pub at_first : item_at ks n ≡ Some first
  pub at_second : item_at ks m ≡ Some second
  pub embeds : Embeds first second

-- Candidate number m is an instance of candidate number n: this is another that embeds in it, and it does not embed in this
-- or this comes first.
pub record IsInstanceWithin (ks : List Skeleton) (m n : ℕ) : Type 0 where
  pub other : n ≢ m
  pub embeds : EmbedsAt ks n m
  pub first : (EmbedsAt ks m n → ⊥) ⊎ (n < m)

-- Candidate number m is a shape: it is an instance of none.
pub record IsShapeAt (ks : List Skeleton) (m : ℕ) : Type 0 where
  pub within : m < length ks
  pub no_instance : (n : ℕ) → IsInstanceWithin ks m n → ⊥

-- Candidate number n is a shape, and candidate number m an instance of it.
abbrev pub IsInstanceOfShape : List Skeleton → ℕ → ℕ → Type 0
IsInstanceOfShape ks m n = IsShapeAt ks n × IsInstanceWithin ks m n

-- What a candidate is: a shape, or else an instance of the least such shape.
abbrev pub IsMarkOf : List Skeleton → ℕ → Option ℕ → Type 0
IsMarkOf ks m None = IsShapeAt ks m
IsMarkOf ks m (Some n) = IsLeast (IsInstanceOfShape ks m) n

-- For each candidate what it is.
pub record AreShapeMarksOf (ks : List Skeleton) (marks : List (Option ℕ)) : Type 0 where
  pub count : length marks ≡ length ks
  pub each : (m : ℕ) (mark : Option ℕ) → item_at marks m ≡ Some mark → IsMarkOf ks m mark

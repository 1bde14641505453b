-- Skeletons that say the same: their strands may differ in terms that have no meaning.
use Rattle.std.specs.Prelude.{◌≡◌, ℕ, List, [], ◌∷◌}
use Rattle.cp_model.specs.Term.{Term, AgreeOnTerms}
use Rattle.cp_model.specs.Bindings.{Binding, as_substitution}
use Rattle.cp_model.specs.Strand.{Role, variables_of_prefix}
use Rattle.cp_model.specs.Skeleton.{SkeletonStrand, instance, listener, Skeleton}

-- Two strands say the same: instances of one role and height whose terms agree on the variables of the prefix, or
-- listeners on one term.
pub data IsSameStrand : SkeletonStrand → SkeletonStrand → Type 0 where
  same_instance : {role : Role} {height : ℕ} {terms terms' : List Binding} → AgreeOnTerms (variables_of_prefix role height) (as_substitution terms) (as_substitution terms') → IsSameStrand (instance role height terms) (instance role height terms')
  same_listener : {t : Term} → IsSameStrand (listener t) (listener t)

-- The strands of two lists say the same, place by place.
pub data AreSameStrands : List SkeletonStrand → List SkeletonStrand → Type 0 where
  no_strands : AreSameStrands [] []
  same_strands : {s s' : SkeletonStrand} {ss ss' : List SkeletonStrand} → IsSameStrand s s' → AreSameStrands ss ss' → AreSameStrands (s ∷ ss) (s' ∷ ss')

-- Two skeletons say the same: so do their strands, and all else but their tables of variables is equal.
pub record SaysTheSame (k l : Skeleton) : Type 0 where
  pub strands : AreSameStrands k.strands l.strands
  pub pairs : k.pairs ≡ l.pairs
  pub assumptions : k.assumptions ≡ l.assumptions
  pub from_problem : k.from_problem ≡ l.from_problem

-- The results to which items come by rewriting, in order.
use Rattle.std.specs.Prelude.{ℕ, ◌<◌, List, [], ◌∷◌, ◌++◌}
use Rattle.cp_lists.specs.Lists.{IsIn}
use Rattle.cp_normal.specs.declared.rewriting.Candidate.{Candidate}
use Rattle.cp_normal.specs.declared.rewriting.Candidate.TheVariants.{Open, Done}

mutual
  -- The results of a candidate: a result is its own; an item has those of what it becomes.
  pub data LeavesOf {I D : Type 0} (becomes : I → List (Candidate I D) → Type 0) : Candidate I D → List D → Type 0 where
    of_result : {d : D} → LeavesOf becomes (Done d) (d ∷ [])
    of_item : {x : I} {made : List (Candidate I D)} {ds : List D} → becomes x made → EachHasLeaves becomes made ds → LeavesOf becomes (Open x) ds

  -- The results of several candidates, those of the first and then those of the others.
  pub data EachHasLeaves {I D : Type 0} (becomes : I → List (Candidate I D) → Type 0) : List (Candidate I D) → List D → Type 0 where
    of_none : EachHasLeaves becomes [] []
    of_first : {c : Candidate I D} {cs : List (Candidate I D)} {ds es : List D} → LeavesOf becomes c ds → EachHasLeaves becomes cs es → EachHasLeaves becomes (c ∷ cs) (ds ++ es)

-- The number of an item falls with each step.
abbrev pub Falls : {I D : Type 0} → (I → List (Candidate I D) → Type 0) → (I → ℕ) → Type 0
Falls {I = I} {D = D} becomes rank = (x y : I) (made : List (Candidate I D)) → becomes x made → IsIn (Open y) made → rank y < rank x

-- The candidate is not a result.
abbrev pub IsUnfinished : {I D : Type 0} → Candidate I D → Type 0
IsUnfinished (Open x) = Unit {0}
IsUnfinished (Done d) = ⊥

-- Some candidate is open.
abbrev pub HasOpen : {I D : Type 0} → List (Candidate I D) → Type 0
HasOpen {I = I} {D = D} cs = (c : Candidate I D) × IsIn c cs × IsUnfinished c

-- The results among the candidates.
abbrev pub results_in : {I D : Type 0} → List (Candidate I D) → List D
results_in [] = []
results_in (Open x ∷ cs) = results_in cs
results_in (Done d ∷ cs) = d ∷ results_in cs

-- Each open candidate among the new ones comes from an old one by a step, and the results of the new ones are those of the old.
pub record IsRound {I D : Type 0} (becomes : I → List (Candidate I D) → Type 0) (old new : List (Candidate I D)) : Type 0 where
  pub each_made : (y : I) → IsIn (Open y) new → (x : I) × (made : List (Candidate I D)) × IsIn (Open x) old × becomes x made × IsIn (Open y) made
  pub leads : (ds : List D) → EachHasLeaves becomes new ds → EachHasLeaves becomes old ds

-- The first position outside the patterns.
use Rattle.std.specs.Prelude.{◌≡◌, List, ◌∷◌, ◌++◌}
use Rattle.cp_lists.specs.Lists.{IsIn}
use Rattle.cp_model.specs.Term.{Term, Substitution}
use Rattle.cp_model.specs.Same.{same_term}
use Rattle.cp_model.specs.Tree.{Pattern}
use Rattle.cp_model.specs.declared.step.Step.{Step}
use Rattle.cp_model.specs.Positions.{positions_where}
use Rattle.cp_theory.specs.Inside.{IsInside}

-- Of the positions at which the term carries c, in preorder, this is the first outside the patterns.
pub record IsFirstPositionOutside (ps : List Pattern) (s : Substitution) (c t : Term) (path : List Step) : Type 0 where
  pub before : List (List Step)
  pub behind : List (List Step)
  pub among : positions_where (same_term c) t ≡ before ++ (path ∷ behind)
  pub inside_before : (q : List Step) → IsIn q before → IsInside ps s t q
  pub outside : IsInside ps s t path → ⊥

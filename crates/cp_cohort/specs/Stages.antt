-- How a release is solved: the two conditions on it are tested branch by branch, and again on each normal form.
use Rattle.std.specs.Prelude.{◌≡◌, List, [], ◌∷◌, ◌++◌, length, map}
use Rattle.cp_model.specs.Term.{Term, Substitution, composed}
use Rattle.cp_model.specs.declared.variable.Declaration.{Declaration}
use Rattle.cp_model.specs.Skeleton.{Skeleton}
use Rattle.cp_model.specs.Tree.{Pattern}
use Rattle.cp_model.specs.declared.step.Step.{Step}
use Rattle.cp_theory.specs.Normal.{skeleton_under}
use Rattle.cp_collapse.specs.SameSkeletons.{SaysTheSame}
use Rattle.cp_normal.specs.Formed.{AreFormsBeside}
use Rattle.cp_normal.specs.declared.form.Form.{Form}
use Rattle.cp_theory.specs.Above.{encryptions_above}
use Rattle.cp_pattern.specs.Unifiers.{UnifiesMostGenerally, NeverEqual}
use Rattle.cp_pattern.specs.Opened.{opened_pattern, declared_as}
use Rattle.cp_cohort.specs.Releases.{Release, PartialSolution, came_by, IsReleasedInside, IsFirstOutside, MeetsBoth}

-- An encryption that may come to match a pattern.
pub record Choice : Type 0 where
  pub encryption : Term
  pub pattern : Pattern

-- Each of the encryptions with each of the patterns, in order.
abbrev pub choices : List Term → List Pattern → List Choice
choices [] ps = []
choices (e ∷ es) ps = map (λ p. record { encryption = e; pattern = p }) ps ++ choices es ps

-- The pattern of a choice, whose locals are new variables, as a term of the partial solution.
abbrev pub pattern_in : PartialSolution → Pattern → Term
pattern_in x p = opened_pattern p (came_by x) (length x.skeleton.variables)

-- The variables of a partial solution, with new ones for the pattern's locals.
abbrev pub variables_with : PartialSolution → Pattern → List Declaration
variables_with x p = x.skeleton.variables ++ declared_as x.skeleton.variables p.locals

-- The first partial solution: k under a substitution.
pub record IsFirstUnder (k : Skeleton) (s : Substitution) (x : PartialSolution) : Type 0 where
  pub same : SaysTheSame (skeleton_under s k) x.skeleton
  pub variables : x.skeleton.variables ≡ k.variables
  pub by : came_by x ≡ s

-- The next partial solution: y is x under a substitution, with new variables for the pattern's locals.
pub record IsNextUnder (x : PartialSolution) (p : Pattern) (u : Substitution) (y : PartialSolution) : Type 0 where
  pub same : SaysTheSame (skeleton_under u x.skeleton) y.skeleton
  pub variables : y.skeleton.variables ≡ variables_with x p
  pub by : came_by y ≡ composed (came_by x) u

-- A normal form, as a partial solution.
abbrev pub of_form : Form → PartialSolution
of_form f = record { skeleton = f.skeleton; substitution = f.substitution }

-- Whether the partial solution is known to be a normal form.
pub data Stage : Type 0 where
  on_the_way : Stage
  normal : Stage

mutual
  -- These are the results of a partial solution, in order.
  --
  -- Where the term would be released inside the patterns, there are none. Where an earlier event carries it outside them, they
  -- are those of the branches by the first such occurrence: each proper enclosing encryption, outermost first, is made to match
  -- each pattern. Where both conditions hold, a normal form is its own result; any other skeleton has those of its normal forms.
  pub data SolvesRelease (r : Release) : Stage → PartialSolution → List PartialSolution → Type 0 where
    released_inside : {stage : Stage} {x : PartialSolution} → IsReleasedInside r x → SolvesRelease r stage x []
    branching : {stage : Stage} {x : PartialSolution} {t : Term} {path : List Step} {ys : List PartialSolution} → (IsReleasedInside r x → ⊥) → IsFirstOutside r x t path
        → Branches r x (choices (encryptions_above t path) r.patterns) ys → SolvesRelease r stage x ys
    normalising : {x : PartialSolution} {forms : List Form} {ys : List PartialSolution} → MeetsBoth r x → AreFormsBeside x.skeleton x.substitution forms → EachSolvesRelease r (map of_form forms) ys → SolvesRelease r on_the_way x ys
    settled : {x : PartialSolution} → MeetsBoth r x → SolvesRelease r normal x (x ∷ [])

  -- The branches, in which encryptions are made to match patterns, have these results, one after the other.
  pub data Branches (r : Release) : PartialSolution → List Choice → List PartialSolution → Type 0 where
    no_choices : {x : PartialSolution} → Branches r x [] []
    never_matches : {x : PartialSolution} {c : Choice} {cs : List Choice} {ys : List PartialSolution} → NeverEqual c.encryption (pattern_in x c.pattern) → Branches r x cs ys → Branches r x (c ∷ cs) ys
    matches_by : {x : PartialSolution} {c : Choice} {u : Substitution} {y : PartialSolution} {cs : List Choice} {ys zs : List PartialSolution} → UnifiesMostGenerally c.encryption (pattern_in x c.pattern) u
        → IsNextUnder x c.pattern u y → SolvesRelease r on_the_way y ys → Branches r x cs zs → Branches r x (c ∷ cs) (ys ++ zs)

  -- The normal forms have these results, one after the other.
  pub data EachSolvesRelease (r : Release) : List PartialSolution → List PartialSolution → Type 0 where
    no_forms : EachSolvesRelease r [] []
    next_form : {x : PartialSolution} {xs ys zs : List PartialSolution} → SolvesRelease r normal x ys → EachSolvesRelease r xs zs → EachSolvesRelease r (x ∷ xs) (ys ++ zs)

-- One step of solving a release, from what the program makes.
use Rattle.std.proofs.Common.{◌≡◌, true, false, List, [], ◌∷◌, sym, subst}
use Rattle.cp_normal.specs.declared.rewriting.Candidate.TheVariants.{Done}
use Rattle.cp_model.specs.Term.{Term}
use Rattle.cp_model.specs.Tree.{Pattern}
use Rattle.cp_model.specs.declared.step.Step.{Step}
use Rattle.cp_theory.specs.Above.{encryptions_above}
use Rattle.cp_cohort.specs.Releases.{Release, IsReleasedInside, IsFirstOutside, MeetsBoth}
use Rattle.cp_cohort.specs.Stages.{choices}
use Rattle.cp_cohort.specs.declared.attempts.Attempt.{Attempt}
use Rattle.cp_cohort.specs.Candidates.{Tried, AreBranchesByChoices, BecomesNormalForms, SolvesInto, none_if_inside, into_branches, into_forms, is_solved}

module _ (r : Release) (a : Attempt) where
  pub nothing_left : (made : List Tried) → IsReleasedInside r a.tried → made ≡ [] → SolvesInto r a made
  nothing_left made inside e = subst (SolvesInto r a) (sym e) (none_if_inside inside)

  pub branches_left : (t : Term) (path : List Step) (es : List Term) (ps : List Pattern) (made : List Tried) → (IsReleasedInside r a.tried → ⊥) → IsFirstOutside r a.tried t path → es ≡ encryptions_above t path → ps ≡ r.patterns →
      AreBranchesByChoices a.tried (choices es ps) made → SolvesInto r a made
  branches_left t path es ps made outside first above own are =
      into_branches outside first
      (subst (λ (qs : List Pattern). AreBranchesByChoices a.tried (choices (encryptions_above t path) qs) made) own
      (subst (λ (ds : List Term). AreBranchesByChoices a.tried (choices ds ps) made) above are))

  pub forms_left : (made : List Tried) → a.is_normal ≡ false → MeetsBoth r a.tried → BecomesNormalForms a.tried made → SolvesInto r a made
  forms_left made not_normal meets are = into_forms not_normal meets are

  pub solved_left : (made : List Tried) → a.is_normal ≡ true → MeetsBoth r a.tried → made ≡ Done a.tried ∷ [] → SolvesInto r a made
  solved_left made is_normal meets is = subst (SolvesInto r a) (sym is) (is_solved is_normal meets)

-- The results of rewriting a partial solution are those of the release.
use Rattle.std.proofs.Common.{◌≡◌, Bool, true, false, List, [], ◌∷◌, ◌++◌, map, refl, sym, ap, ◌∙◌, subst}
use Rattle.std.proofs.lemmas.List.{append-nil}
use Rattle.cp_lists.specs.Lists.{IsIn, here, there}
use Rattle.cp_normal.specs.declared.rewriting.Candidate.TheVariants.{Open, Done}
use Rattle.cp_normal.specs.Leaves.{LeavesOf, of_result, of_item, EachHasLeaves, of_none, of_first}
use Rattle.cp_normal.specs.declared.form.Form.{Form}
use Rattle.cp_cohort.specs.Releases.{Release, PartialSolution, MeetsBoth}
use Rattle.cp_cohort.specs.Stages.{Choice, of_form, Stage, on_the_way, normal, SolvesRelease, released_inside, branching, normalising, settled, Branches, no_choices, never_matches, matches_by, EachSolvesRelease, no_forms, next_form}
use Rattle.cp_cohort.specs.declared.attempts.Attempt.{Attempt}
use Rattle.cp_cohort.specs.Candidates.{Tried, form_or_result, stage_of, AreBranchesByChoices, none_tried, no_branch, branch_by, SolvesInto, none_if_inside, into_branches, into_forms, is_solved}
use Rattle.cp_cohort.proofs.KeptConditions.{kept_met}

-- What the results of a candidate are.
abbrev AreResults : Release → Tried → List PartialSolution → Type 0
AreResults r (Open a) ys = SolvesRelease r (stage_of a.is_normal) a.tried ys
AreResults r (Done y) ys = ys ≡ y ∷ []

-- The results of the candidates, those of the first and then those of the others.
abbrev LeadTo : Release → List Tried → List PartialSolution → Type 0
LeadTo r [] ys = ys ≡ []
LeadTo r (c ∷ cs) ys = (front : List PartialSolution) × (rest : List PartialSolution) × (ys ≡ front ++ rest) × AreResults r c front × LeadTo r cs rest

module _ (r : Release) where
  branches_lead : (x : PartialSolution) {cs : List Choice} {made : List Tried} → AreBranchesByChoices x cs made → (ys : List PartialSolution) → LeadTo r made ys → Branches r x cs ys
  branches_lead x none_tried ys l = subst (Branches r x []) (sym l) no_choices
  branches_lead x (no_branch never more) ys l = never_matches never (branches_lead x more ys l)
  branches_lead x (branch_by {c = c} {cs = cs} one more) ys l =
      subst (Branches r x (c ∷ cs)) (sym l.2) (matches_by one.unifies one.next l.3 (branches_lead x more l.1 l.4))

  form_leads : (is_settled : Bool) (f : Form) (ys : List PartialSolution) → (is_settled ≡ true → MeetsBoth r (of_form f)) → AreResults r (form_or_result is_settled f) ys → SolvesRelease r normal (of_form f) ys
  form_leads true f ys meets is = subst (SolvesRelease r normal (of_form f)) (sym is) (settled (meets refl))
  form_leads false f ys meets solves = solves

  forms_lead : (is_settled : Bool) (forms : List Form) (ys : List PartialSolution) → (is_settled ≡ true → (f : Form) → IsIn f forms → MeetsBoth r (of_form f)) → LeadTo r (map (form_or_result is_settled) forms) ys → EachSolvesRelease r (map of_form forms) ys
  forms_lead is_settled [] ys meets l = subst (EachSolvesRelease r []) (sym l) no_forms
  forms_lead is_settled (f ∷ forms) ys meets l =
      subst (EachSolvesRelease r (of_form f ∷ map of_form forms)) (sym l.2)
      (next_form (form_leads is_settled f l.0 (λ e. meets e f here) l.3) (forms_lead is_settled forms l.1 (λ e g i. meets e g (there i)) l.4))

  -- What a step makes leads to the results of the partial solution.
  step_solves : (a : Attempt) (made : List Tried) (ys : List PartialSolution) → SolvesInto r a made → LeadTo r made ys → SolvesRelease r (stage_of a.is_normal) a.tried ys
  step_solves a _ ys (none_if_inside inside) l = subst (SolvesRelease r (stage_of a.is_normal) a.tried) (sym l) (released_inside inside)
  step_solves a made ys (into_branches outside first are) l = branching outside first (branches_lead a.tried are ys l)
  step_solves a made ys (into_forms e meets forms) l =
      subst (λ (stage : Stage). SolvesRelease r stage a.tried ys) (sym (ap stage_of e))
      (normalising meets forms.are (forms_lead forms.settled forms.forms ys (λ kept f i. kept_met r a.tried f meets (forms.keep kept f i)) (subst (λ (cs : List Tried). LeadTo r cs ys) forms.all l)))
  step_solves a _ ys (is_solved e meets) l =
      subst (λ (stage : Stage). SolvesRelease r stage a.tried ys) (sym (ap stage_of e))
      (subst (SolvesRelease r normal a.tried) (sym (l.2 ∙ ap (λ (zs : List PartialSolution). l.0 ++ zs) l.4 ∙ append-nil l.0 ∙ l.3)) (settled meets))

  mutual
    leaf_solves : {c : Tried} {ys : List PartialSolution} → LeavesOf (SolvesInto r) c ys → AreResults r c ys
    leaf_solves of_result = refl
    leaf_solves (of_item {x = a} {made = made} {ds = ys} step each) = step_solves a made ys step (each_leads each)

    each_leads : {cs : List Tried} {ys : List PartialSolution} → EachHasLeaves (SolvesInto r) cs ys → LeadTo r cs ys
    each_leads of_none = refl
    each_leads (of_first {ds = ys} {es = zs} one rest) = (ys, zs, refl, leaf_solves one, each_leads rest)

  pub leaves_solve : (x : PartialSolution) (ys : List PartialSolution) → LeavesOf (SolvesInto r) (Open (record { tried = x; is_normal = false })) ys → SolvesRelease r on_the_way x ys
  leaves_solve x ys leaves = leaf_solves leaves

-- What steps keep holds of each result of a release that is solved.
use Rattle.std.proofs.Common.{List, map, subst, ⊎_elim}
use Rattle.cp_lists.specs.Lists.{IsIn, here, there}
use Rattle.cp_lists.proofs.Members.{not_in_none, in_append, from_map}
use Rattle.cp_model.specs.Term.{Term, Substitution}
use Rattle.cp_model.specs.declared.step.Step.{Step}
use Rattle.cp_theory.specs.Above.{encryptions_above}
use Rattle.cp_normal.specs.Formed.{Formed, AreFormedNormalForms, IsFormBeside, AreFormsBeside}
use Rattle.cp_normal.specs.declared.form.Form.{Form}
use Rattle.cp_pattern.specs.Unifiers.{UnifiesMostGenerally}
use Rattle.cp_cohort.specs.Releases.{Release, PartialSolution, IsFirstOutside, MeetsBoth}
use Rattle.cp_cohort.specs.Stages.{Choice, choices, pattern_in, IsNextUnder, of_form, Stage, SolvesRelease, released_inside, branching, normalising, settled, Branches, no_choices, never_matches, matches_by, EachSolvesRelease, no_forms, next_form}
use Rattle.cp_cohort.proofs.PairedForms.{has_form}

module _ (r : Release) (P : PartialSolution → Type 0) where
  -- A choice of the first occurrence outside the patterns.
  pub record IsChoiceHere (x : PartialSolution) (c : Choice) : Type 0 where
    pub term : Term
    pub path : List Step
    pub outside : IsFirstOutside r x term path
    pub listed : IsIn c (choices (encryptions_above term path) r.patterns)

  -- The property is kept where a choice is made to match, and in normal forms.
  pub record IsKept : Type 0 where
    pub branch : (x : PartialSolution) → P x → (c : Choice) → IsChoiceHere x c → (u : Substitution) → UnifiesMostGenerally c.encryption (pattern_in x c.pattern) u → (y : PartialSolution) → IsNextUnder x c.pattern u y → P y
    pub form : (x : PartialSolution) → P x → (forms : List Formed) → AreFormedNormalForms x.skeleton forms → (f : Formed) → IsIn f forms → (a : Form) → IsFormBeside x.skeleton x.substitution a f → P (of_form a)

  abbrev pub Ends : PartialSolution → Type 0
  Ends y = P y × MeetsBoth r y

  module _ (kept : IsKept) where
    forms_kept : (x : PartialSolution) → P x → (answers : List Form) → AreFormsBeside x.skeleton x.substitution answers → (y : PartialSolution) → IsIn y (map of_form answers) → P y
    forms_kept x p answers are y i =
        let m = from_map of_form answers i in
        let h = has_form x.skeleton x.substitution answers are.forms are.each m.0 m.1 in
        subst P m.2 (kept.form x p are.forms are.normal h.form h.listed m.0 h.beside)

    mutual
      pub settles_each : {stage : Stage} {x : PartialSolution} {ys : List PartialSolution} → SolvesRelease r stage x ys → P x → (y : PartialSolution) → IsIn y ys → Ends y
      settles_each (released_inside inside) p y i = absurd (not_in_none i)
      settles_each (branching {t = t} {path = path} inside o branches) p y i = branches_each branches p (λ c j. record { term = t; path = path; outside = o; listed = j }) y i
      settles_each (normalising {x = x} {forms = answers} both are each) p y i = each_each each (forms_kept x p answers are) y i
      settles_each (settled both) p y here = (p, both)
      settles_each (settled both) p y (there i) = absurd (not_in_none i)

      branches_each : {x : PartialSolution} {cs : List Choice} {ys : List PartialSolution} → Branches r x cs ys → P x → ((c : Choice) → IsIn c cs → IsChoiceHere x c) → (y : PartialSolution) → IsIn y ys → Ends y
      branches_each no_choices p are y i = absurd (not_in_none i)
      branches_each (never_matches never rest) p are y i = branches_each rest p (λ d j. are d (there j)) y i
      branches_each (matches_by {x = x} {c = c} {u = u} {y = b} {ys = ys} {zs = zs} m next first rest) p are y i =
          ⊎_elim (λ j. settles_each first (kept.branch x p c (are c here) u m b next) y j) (λ j. branches_each rest p (λ d n. are d (there n)) y j) (in_append ys zs i)

      each_each : {xs ys : List PartialSolution} → EachSolvesRelease r xs ys → ((x : PartialSolution) → IsIn x xs → P x) → (y : PartialSolution) → IsIn y ys → Ends y
      each_each no_forms all y i = absurd (not_in_none i)
      each_each (next_form {x = x} {ys = ys} {zs = zs} one rest) all y i = ⊎_elim (λ j. settles_each one (all x here) y j) (λ j. each_each rest (λ z n. all z (there n)) y j) (in_append ys zs i)

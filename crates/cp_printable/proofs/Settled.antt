-- The results of a release that is solved are skeletons with no other strings and no other identifiers.
use Rattle.std.proofs.Common.{◌⊎◌, ℕ, List, length, sym, subst}
use Rattle.cp_lists.specs.Lists.{IsIn}
use Rattle.cp_lists.proofs.Members.{in_append_left, in_append_right}
use Rattle.cp_model.specs.Term.{Term, Substitution}
use Rattle.cp_model.specs.Bundle.{node_at}
use Rattle.cp_model.specs.declared.variable.Declaration.{Declaration}
use Rattle.cp_model.specs.Tree.{Pattern}
use Rattle.cp_model.specs.declared.step.Step.{Step}
use Rattle.cp_theory.specs.Normal.{skeleton_under}
use Rattle.cp_theory.specs.Above.{encryptions_above}
use Rattle.cp_normal.specs.Formed.{Formed, AreFormedNormalForms, IsFormBeside}
use Rattle.cp_normal.specs.declared.form.Form.{Form}
use Rattle.cp_pattern.specs.Unifiers.{UnifiesMostGenerally}
use Rattle.cp_pattern.specs.Opened.{declared_as}
use Rattle.cp_cohort.specs.declared.release.PartialSolution.{PartialSolution}
use Rattle.cp_cohort.specs.Releases.{Release, came_by, IsFirstOutside}
use Rattle.cp_cohort.specs.Stages.{Choice, choices, pattern_in, IsNextUnder, of_form, Stage, SolvesRelease}
use Rattle.cp_cohort.proofs.EachSettled.{settles_each}
use Rattle.cp_cohort.proofs.Settled.{above_has, of_choices}
use Rattle.cp_printable.specs.Strings.{strings_of, strings_of_key}
use Rattle.cp_printable.specs.Spelled.{IsSpelledTerm, AreSpelledDeclarations, IsSpelledSkeleton}
use Rattle.cp_printable.proofs.Under.{GivesStrings, under_spelled, same_spelled, event_spelled}
use Rattle.cp_printable.proofs.NoOtherStrings.{unifier_gives}
use Rattle.cp_printable.proofs.Forms.{normal_forms_spelled}
use Rattle.cp_printable.proofs.FormSubstitutions.{form_gives}
use Rattle.cp_printable.proofs.OpenedPatterns.{then_gives, opened_spelled, AreNamed, new_declared, still_named, both_declared}

-- The partial solution has admitted strings and identifiers, its substitution among it.
pub record IsSpelledPartialSolution (S I : List ℕ → Type 0) (x : PartialSolution) : Type 0 where
  pub variables : AreSpelledDeclarations I x.skeleton.variables
  pub substitution : GivesStrings S (came_by x)
  pub skeleton : IsSpelledSkeleton S I x.skeleton

-- ---- enclosing encryptions, and choices

-- The strings of an enclosing encryption are those of the term.
pub above_strings : (t : Term) (path : List Step) (e : Term) → IsIn e (encryptions_above t path) → (s : List ℕ) → IsIn s (strings_of e) → IsIn s (strings_of t)
above_strings t path e i s j = above_has {Has = λ (u : Term). IsIn s (strings_of u)} (λ a b m. in_append_left (strings_of b) m) (λ a b m. in_append_right (strings_of a) m) (λ a k m. in_append_left (strings_of_key k) m) t path e i j

module _ (S I : List ℕ → Type 0) (decide : (t : List ℕ) → S t ⊎ (S t → ⊥)) where
  module _ (r : Release) (patterns : (p : Pattern) → IsIn p r.patterns → IsSpelledTerm S p.term) where
    -- The patterns' locals are named with admitted identifiers.
    abbrev AreAllNamed : PartialSolution → Type 0
    AreAllNamed x = (p : Pattern) → IsIn p r.patterns → AreNamed I x.skeleton.variables p

    abbrev IsRight : PartialSolution → Type 0
    IsRight x = IsSpelledPartialSolution S I x × AreAllNamed x

    -- ---- a branch

    abbrev IsChoiceOf : Choice → Type 0
    IsChoiceOf c = IsSpelledTerm S c.encryption × IsIn c.pattern r.patterns

    module _ (x : PartialSolution) (right : IsRight x) where
      branch_spelled : (c : Choice) → IsChoiceOf c → (u : Substitution) → UnifiesMostGenerally c.encryption (pattern_in x c.pattern) u → (y : PartialSolution) → IsNextUnder x c.pattern u y → IsRight y
      branch_spelled c of u m y next =
          let is = right.0 in
          let ds = x.skeleton.variables in
          let opened_is : IsSpelledTerm S (pattern_in x c.pattern) = opened_spelled S c.pattern (came_by x) (length ds) (patterns c.pattern of.1) is.substitution in
          let gives : GivesStrings S u = unifier_gives S decide c.encryption (pattern_in x c.pattern) u of.0 opened_is m in
          let new : AreSpelledDeclarations I (declared_as ds c.pattern.locals) = new_declared I ds c.pattern (right.1 c.pattern of.1) in (
            record {
              variables = subst (λ (es : List Declaration). AreSpelledDeclarations I es) (sym next.variables) (both_declared I ds (declared_as ds c.pattern.locals) is.variables new);
              substitution = subst (λ (s : Substitution). GivesStrings S s) (sym next.by) (then_gives S (came_by x) u is.substitution gives);
              skeleton = same_spelled S I (skeleton_under u x.skeleton) y.skeleton next.same (under_spelled S I u x.skeleton gives is.skeleton);
            },
            λ p i. subst (λ (es : List Declaration). AreNamed I es p) (sym next.variables) (still_named I ds (declared_as ds c.pattern.locals) p new (right.1 p i)),
          )

      are_choices : (t : Term) (path : List Step) → IsFirstOutside r x t path → (c : Choice) → IsIn c (choices (encryptions_above t path) r.patterns) → IsChoiceOf c
      are_choices t path o c i =
          let m = of_choices (encryptions_above t path) r.patterns c i in
          let of_event = event_spelled S I x.skeleton (node_at r.strand o.index) o.event right.0.skeleton o.there in (
            λ s j. of_event s (subst (λ (u : Term). IsIn s (strings_of u)) o.of_event (above_strings t path c.encryption m.0 s j)),
            m.1,
          )

      -- ---- a normal form

      form_spelled : (forms : List Formed) → AreFormedNormalForms x.skeleton forms → (f : Formed) → IsIn f forms → (a : Form) → IsFormBeside x.skeleton x.substitution a f → IsRight (of_form a)
      form_spelled forms are f i a beside =
          let is = right.0 in
          let of_f : IsSpelledSkeleton S I f.skeleton = normal_forms_spelled S I decide x.skeleton forms are is.skeleton f i in (
            record {
              variables = subst (λ (ds : List Declaration). AreSpelledDeclarations I ds) (sym beside.variables) is.variables;
              substitution = subst (λ (s : Substitution). GivesStrings S s) (sym beside.substitution) (then_gives S (came_by x) f.substitution is.substitution (form_gives S I x.skeleton forms are f i of_f));
              skeleton = subst (IsSpelledSkeleton S I) (sym beside.skeleton) of_f;
            },
            λ p j. subst (λ (ds : List Declaration). AreNamed I ds p) (sym beside.variables) (right.1 p j),
          )

    -- ---- its results

    settles_right : {stage : Stage} {x : PartialSolution} {ys : List PartialSolution} → SolvesRelease r stage x ys → IsRight x → (y : PartialSolution) → IsIn y ys → IsRight y
    settles_right settles right y i =
        (settles_each r IsRight (record {
          branch = λ x right c choice u m y next. branch_spelled x right c (are_choices x right choice.term choice.path choice.outside c choice.listed) u m y next;
          form = form_spelled;
        }) settles right y i).0

  -- The last premise: what names the patterns' locals as new variables is admitted.
  pub settles_spelled : (r : Release) → ((p : Pattern) → IsIn p r.patterns → IsSpelledTerm S p.term) → {stage : Stage} {x : PartialSolution} {ys : List PartialSolution} → SolvesRelease r stage x ys → IsSpelledPartialSolution S I x → ((p : Pattern) → IsIn p r.patterns → AreNamed I x.skeleton.variables p)
      → (y : PartialSolution) → IsIn y ys → IsSpelledPartialSolution S I y
  settles_spelled r patterns settles is named y i = (settles_right r patterns settles (is, named) y i).0

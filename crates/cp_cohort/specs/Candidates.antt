-- What takes the place of a partial solution for which the conditions on a release are tested.
use Rattle.std.specs.Prelude.{◌≡◌, ℕ, ◌<◌, Bool, true, false, List, [], ◌∷◌, map, Some}
use Rattle.cp_lists.specs.Lists.{item_at, IsIn}
use Rattle.cp_normal.specs.declared.rewriting.Candidate.{Candidate}
use Rattle.cp_normal.specs.declared.rewriting.Candidate.TheVariants.{Open, Done}
use Rattle.cp_model.specs.Term.{Term, Substitution, apply_to}
use Rattle.cp_model.specs.Strand.{payload, event_map}
use Rattle.cp_model.specs.declared.strand.Event.{Event}
use Rattle.cp_model.specs.Skeleton.{skeleton_trace_or_none}
use Rattle.cp_model.specs.Tree.{Pattern}
use Rattle.cp_model.specs.declared.step.Step.{Step}
use Rattle.cp_normal.specs.declared.form.Form.{Form}
use Rattle.cp_normal.specs.Formed.{AreFormsBeside, Keeps}
use Rattle.cp_theory.specs.Above.{encryptions_above}
use Rattle.cp_theory.specs.Matches.{Matches}
use Rattle.cp_pattern.specs.Unifiers.{UnifiesMostGenerally, NeverEqual}
use Rattle.cp_cohort.specs.Releases.{Release, PartialSolution, came_by, IsReleasedInside, IsFirstOutside, MeetsBoth}
use Rattle.cp_cohort.specs.Stages.{Choice, choices, pattern_in, IsNextUnder, Stage, on_the_way, normal, of_form}
use Rattle.cp_cohort.specs.declared.attempts.Attempt.{Attempt}

-- A partial solution for which the conditions are to be tested, or one for which both hold.
abbrev pub Tried : Type 0
Tried = Candidate Attempt PartialSolution

-- A branch, and a normal form.
abbrev pub on_way : PartialSolution → Tried
on_way x = Open (record { tried = x; is_normal = false })

abbrev pub normal_form : Form → Tried
normal_form f = Open (record { tried = of_form f; is_normal = true })

-- What becomes of a normal form: nothing further, if it keeps what the conditions speak of.
abbrev pub form_or_result : Bool → Form → Tried
form_or_result true f = Done (of_form f)
form_or_result false f = normal_form f

-- Whether it is known to be a normal form.
abbrev pub stage_of : Bool → Stage
stage_of false = on_the_way
stage_of true = normal

-- ---- branches

abbrev pub choice_of : Term → Pattern → Choice
choice_of e p = record { encryption = e; pattern = p }

-- y is the branch of x by this choice.
pub record IsBranchByChoice (x : PartialSolution) (c : Choice) (y : PartialSolution) : Type 0 where
  pub by : Substitution
  pub unifies : UnifiesMostGenerally c.encryption (pattern_in x c.pattern) by
  pub next : IsNextUnder x c.pattern by y

-- They are the branches of x by these choices, in order: one for each choice that can be.
pub data AreBranchesByChoices (x : PartialSolution) : List Choice → List Tried → Type 0 where
  none_tried : AreBranchesByChoices x [] []
  no_branch : {c : Choice} {cs : List Choice} {made : List Tried} → NeverEqual c.encryption (pattern_in x c.pattern) → AreBranchesByChoices x cs made → AreBranchesByChoices x (c ∷ cs) made
  branch_by : {c : Choice} {y : PartialSolution} {cs : List Choice} {made : List Tried} → IsBranchByChoice x c y → AreBranchesByChoices x cs made → AreBranchesByChoices x (c ∷ cs) (on_way y ∷ made)

-- ---- steps

-- They are the normal forms of x. If these keep its strands and its substitution, they are results.
pub record BecomesNormalForms (x : PartialSolution) (made : List Tried) : Type 0 where
  pub forms : List Form
  pub are : AreFormsBeside x.skeleton x.substitution forms
  pub settled : Bool
  pub keep : settled ≡ true → (f : Form) → IsIn f forms → Keeps x.skeleton x.substitution f
  pub all : made ≡ map (form_or_result settled) forms

-- One step. Where the term would be released inside the patterns, nothing is left. Where an earlier event carries it outside
-- them, the branches by the first such occurrence are. Where both conditions hold, a normal form is solved, and any other
-- partial solution becomes its normal forms.
pub data SolvesInto (r : Release) (a : Attempt) : List Tried → Type 0 where
  none_if_inside : IsReleasedInside r a.tried → SolvesInto r a []
  into_branches : {t : Term} {path : List Step} {made : List Tried} → (IsReleasedInside r a.tried → ⊥) → IsFirstOutside r a.tried t path → AreBranchesByChoices a.tried (choices (encryptions_above t path) r.patterns) made → SolvesInto r a made
  into_forms : {made : List Tried} → a.is_normal ≡ false → MeetsBoth r a.tried → BecomesNormalForms a.tried made → SolvesInto r a made
  is_solved : a.is_normal ≡ true → MeetsBoth r a.tried → SolvesInto r a (Done a.tried ∷ [])

-- ---- what is matched

-- One of the patterns matches the term.
pub record OneMatches (ps : List Pattern) (s : Substitution) (t : Term) : Type 0 where
  pub pattern : Pattern
  pub listed : IsIn pattern ps
  pub matches : Matches pattern s t

-- The events of the release's strand.
abbrev pub trace_in : Release → PartialSolution → List (Event Term)
trace_in r x = skeleton_trace_or_none (item_at x.skeleton.strands r.strand)

-- y has the events of x under a substitution, and what a pattern matches in x one matches in y.
pub record ComesFrom (r : Release) (x y : PartialSolution) : Type 0 where
  pub by : Substitution
  pub trace : trace_in r y ≡ map (event_map (apply_to by)) (trace_in r x)
  pub stays : (e : Term) → OneMatches r.patterns (came_by x) e → OneMatches r.patterns (came_by y) (apply_to by e)

-- So it does; and an encryption in an earlier event of the release's strand is matched in y and was not in x.
pub record MatchesMore (r : Release) (x y : PartialSolution) : Type 0 where
  pub comes : ComesFrom r x y
  pub index : ℕ
  pub earlier : index < r.index
  pub event : Event Term
  pub there : item_at (trace_in r x) index ≡ Some event
  pub path : List Step
  pub encryption : Term
  pub above : IsIn encryption (encryptions_above (payload event) path)
  pub was_not : OneMatches r.patterns (came_by x) encryption → ⊥
  pub is : OneMatches r.patterns (came_by y) (apply_to comes.by encryption)

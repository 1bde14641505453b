-- Each step of solving a release leaves fewer: a rank falls.
use Rattle.std.proofs.Common.{◌≡◌, ◌<◌, ◌≤◌, ◌+◌, ℕ, suc, List, take, Bool, true, false, refl, sym, subst, arith}
use Rattle.cp_lists.specs.Lists.{IsIn}
use Rattle.cp_lists.proofs.Members.{from_map, only_item}
use Rattle.cp_model.specs.Term.{Term, apply_to}
use Rattle.cp_model.specs.Strand.{payload}
use Rattle.cp_model.specs.declared.strand.Event.{Event}
use Rattle.cp_normal.specs.declared.rewriting.Candidate.TheVariants.{Open, Done}
use Rattle.cp_normal.specs.declared.form.Form.{Form}
use Rattle.cp_cohort.specs.Releases.{Release, PartialSolution, came_by}
use Rattle.cp_cohort.specs.Stages.{of_form}
use Rattle.cp_cohort.specs.declared.attempts.Attempt.{Attempt}
use Rattle.cp_cohort.specs.Candidates.{Tried, on_way, normal_form, form_or_result, OneMatches, trace_in, ComesFrom, MatchesMore, SolvesInto, none_if_inside, into_branches, into_forms, is_solved}
use Rattle.cp_cohort.proofs.OccurrenceBranches.{branch_of_choice, matches_more}
use Rattle.cp_cohort.proofs.Forms.{form_comes}
use Rattle.cp_cohort.proofs.PairedForms.{has_form}
use Rattle.cp_cohort.proofs.AsMessages.{one_matches, one_does, does_one}
use Rattle.cp_cohort.proofs.UnmatchedEncryptions.{unmatched_in, fewer_unmatched, no_more_in, fewer_in}

-- How many encryptions in the earlier events of the release's strand match no pattern.
abbrev pub left_unmatched : Release → PartialSolution → ℕ
left_unmatched r x = unmatched_in r.patterns (came_by x) (take r.index (trace_in r x))

-- Twice that, and one more if the partial solution is not known to be normal.
abbrev rank_at : Bool → ℕ → ℕ
rank_at false n = suc (n + n)
rank_at true n = n + n

abbrev pub rank : Release → Attempt → ℕ
rank r a = rank_at a.is_normal (left_unmatched r a.tried)

module _ (r : Release) (x y : PartialSolution) where
  no_more_left : ComesFrom r x y → left_unmatched r y ≤ left_unmatched r x
  no_more_left from =
      subst (λ (es : List (Event Term)). unmatched_in r.patterns (came_by y) (take r.index es) ≤ left_unmatched r x) (sym from.trace)
      (no_more_in r.patterns (came_by x) from.by (came_by y) from.stays r.index (trace_in r x))

  false_if_not : (e : Term) (b : Bool) → one_matches r.patterns (came_by x) e ≡ b → (OneMatches r.patterns (came_by x) e → ⊥) → one_matches r.patterns (came_by x) e ≡ false
  false_if_not e true is never = absurd (never (one_does r.patterns (came_by x) e is))
  false_if_not e false is never = is

  fewer_left : MatchesMore r x y → left_unmatched r y < left_unmatched r x
  fewer_left more =
      let was : one_matches r.patterns (came_by x) more.encryption ≡ false = false_if_not more.encryption (one_matches r.patterns (came_by x) more.encryption) refl more.was_not in
      let is : one_matches r.patterns (came_by y) (apply_to more.comes.by more.encryption) ≡ true = does_one r.patterns (came_by y) (apply_to more.comes.by more.encryption) more.is in
      subst (λ (es : List (Event Term)). unmatched_in r.patterns (came_by y) (take r.index es) < left_unmatched r x) (sym more.comes.trace)
      (fewer_in r.patterns (came_by x) more.comes.by (came_by y) more.comes.stays r.index (trace_in r x) more.index more.event more.earlier more.there
      (fewer_unmatched r.patterns (came_by x) more.comes.by (came_by y) more.comes.stays more.encryption was is (payload more.event) more.path more.above))

less : (normal : Bool) (l m : ℕ) → l < m → suc (l + l) < rank_at normal m
less false l m f = omega (arith, f)
less true l m f = omega (arith, f)

no_more : (normal : Bool) (l m : ℕ) → normal ≡ false → l ≤ m → l + l < rank_at normal m
no_more false l m e f = omega (arith, f)
no_more true l m e f = absurd (cc)

abbrev to_try : Attempt → Tried
to_try a = Open a

abbrev solved_by : PartialSolution → Tried
solved_by x = Done x

same_attempt : (a b : Attempt) → to_try a ≡ to_try b → a ≡ b
same_attempt a b e = cc

no_result : (a : Attempt) (x : PartialSolution) → to_try a ≡ solved_by x → ⊥
no_result a x e = cc

-- A branch, and a normal form.
branch_falls : (r : Release) (a b : Attempt) (y : PartialSolution) → MatchesMore r a.tried y → to_try b ≡ on_way y → rank r b < rank r a
branch_falls r a b y more e =
    subst (λ (c : Attempt). rank r c < rank r a) (sym (same_attempt b (record { tried = y; is_normal = false }) e)) (less a.is_normal (left_unmatched r y) (left_unmatched r a.tried) (fewer_left r a.tried y more))

form_falls : (r : Release) (a b : Attempt) (f : Form) → a.is_normal ≡ false → ComesFrom r a.tried (of_form f) → normal_form f ≡ to_try b → rank r b < rank r a
form_falls r a b f not_normal comes e =
    subst (λ (c : Attempt). rank r c < rank r a) (same_attempt (record { tried = of_form f; is_normal = true }) b e)
    (no_more a.is_normal (left_unmatched r (of_form f)) (left_unmatched r a.tried) not_normal (no_more_left r a.tried (of_form f) comes))

open_form : (settled : Bool) (f : Form) (b : Attempt) → form_or_result settled f ≡ to_try b → normal_form f ≡ to_try b
open_form true f b e = absurd (no_result b (of_form f) (sym e))
open_form false f b e = e

pub step_falls : (r : Release) (a b : Attempt) (made : List Tried) → SolvesInto r a made → IsIn (Open b) made → rank r b < rank r a
step_falls r a b _ (none_if_inside inside) i = elim i [ ]
step_falls r a b made (into_branches {t = t} {path = path} outside first are) i =
    let o = branch_of_choice a.tried are (Open b) i in
    branch_falls r a b o.tried (matches_more r a.tried t path first (Open b) o) o.candidate
step_falls r a b made (into_forms e meets forms) i =
    let o = from_map (form_or_result forms.settled) forms.forms (subst (λ (cs : List Tried). IsIn (Open b) cs) forms.all i) in
    form_falls r a b o.0 e (form_comes r a.tried forms.forms forms.are o.0 (has_form a.tried.skeleton a.tried.substitution forms.forms forms.are.forms forms.are.each o.0 o.1)) (open_form forms.settled o.0 b o.2)
step_falls r a b _ (is_solved e meets) i = absurd (no_result b a.tried (only_item i))

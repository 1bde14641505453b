-- The trees that forms without misfits denote, and when these trees can be stated.
use Rattle.std.proofs.Common.{◌≡◌, ℕ, ◌+◌, ◌<◌, ◌^◌, List, [], ◌∷◌, ◌++◌, length, sym, ap, ◌∙◌, subst, arith}
use Rattle.std.specs.Prelude.{Option, Some, None, map}
use Rattle.std.proofs.lemmas.List.{length-append}
use Rattle.cp_base.specs.declared.place.Place.{Place}
use Rattle.cp_lists.specs.Lists.{IsIn, here, there}
use Rattle.cp_lists.proofs.Appended.{none_before, none_behind}
use Rattle.cp_lists.proofs.Items.{at_place}
use Rattle.cp_model.specs.Strand.{Role, Protocol}
use Rattle.cp_model.specs.PointOfView.{IsPointOfView}
use Rattle.cp_model.specs.Senders.{ArePaired}
use Rattle.cp_model.specs.Tree.{Label, Tree}
use Rattle.cp_sexpr.specs.Syntax.{Form, Forms}
use Rattle.cp_language.specs.Faults.{items_of}
use Rattle.cp_language.specs.Roles.{headed}
use Rattle.cp_language.specs.Names.{problem_names}
use Rattle.cp_language.specs.Problems.{Problem}
use Rattle.cp_language.specs.Input.{stated_problem, protocols_behind, faults_of, entries_from, input_of}
use Rattle.cp_language.specs.Role.{IsWellFormedRole}
use Rattle.cp_language.proofs.Problems.{map_to_themselves, roles_are_well_formed, variables_found}
use Rattle.cp_report.specs.Labels.{label_of}
use Rattle.cp_report.specs.ReadBack.{Section, sections_of, input_forms, labels_in_front, behind_labels, places_of, labels_misfits, if_whole, ending_misfits, tree_misfits, next_place, trees_misfits, fault_places, first_place, misfits, tree_of, tree_onto, trees_from, report_of}
use Rattle.cp_report.specs.FittingTrees.{TreeFits, problem_onto, problems_in}
use Rattle.cp_report.specs.Laws.{ArePrinted, CanBeStated}
use Rattle.cp_report.specs.UpToNames.{IsReport}
use Rattle.cp_report.proofs.DistinctNames.{AreDifferent, problem_different}
use Rattle.cp_report.proofs.Premises.{first_different, problem_listed, reads_back}
use Rattle.cp_report.proofs.PrintedStrands.{items_back}
use Rattle.cp_readback.specs.AcceptedLabels.{IsAcceptedIn, TreeIsAccepted, HasWholeLabels}
use Rattle.cp_readback.proofs.FittingImages.{keeps_all}
use Rattle.cp_readback.proofs.AcceptedForms.{forms_accepted}
use Rattle.cp_readback.proofs.Reported.{no_faults}

-- ---- one tree

-- What a problem of well-formed input has: its roles are well-formed, the names of its variables are different, and it maps to
-- itself.
pub record IsWellFormed (p : Problem) : Type 0 where
  pub roles : (role : Role) → IsIn role p.protocol.roles → IsWellFormedRole role
  pub names : length p.variables < 2 ^ 64 → AreDifferent (problem_names p.declared p.variables)
  pub own : IsPointOfView p.variables p.skeleton

-- The tree is accepted for a problem of well-formed input with fewer than 2^64 variables.
abbrev pub IsAccepted : Problem → Tree → Type 0
IsAccepted p t = IsWellFormed p → length p.variables < 2 ^ 64 → TreeIsAccepted p t

-- Forms behind a problem without misfits denote an accepted tree.
tree_accepted : (p : Problem) (next : Place) (behind : List Form) → tree_misfits (Some p) next behind ≡ [] → IsAccepted p (tree_of p behind)
tree_accepted p next behind e well few =
    by (behind_labels behind) (none_before (labels_misfits p (if_whole forms (behind_labels behind)) 0 forms) ending e) (none_behind (labels_misfits p (if_whole forms (behind_labels behind)) 0 forms) ending e)
  where
    forms : List Form
    forms = labels_in_front behind

    ending : List Place
    ending = ending_misfits (map (label_of p) (labels_in_front behind)) next (behind_labels behind)

    by : (fs : List Form) → labels_misfits p (if_whole (labels_in_front behind) fs) 0 (labels_in_front behind) ≡ [] → ending_misfits (map (label_of p) (labels_in_front behind)) next fs ≡ [] → TreeIsAccepted p (tree_of p behind)
    by [] h g = absurd (cc)
    by (f ∷ fs) h g = λ i m at_i. at_zero i m (forms_accepted p well.roles (well.names few) (labels_in_front behind) 0 (labels_in_front behind) h i m at_i)
      where
        at_zero : (i : ℕ) (m : Label) → IsAcceptedIn p (map (label_of p) (labels_in_front behind)) (0 + i) m → IsAcceptedIn p (map (label_of p) (labels_in_front behind)) i m
        at_zero i m a = let z : 0 + i ≡ i = omega arith in subst (λ (j : ℕ). IsAcceptedIn p (map (label_of p) (labels_in_front behind)) j m) z a

-- ---- all trees

-- The trees of sections are accepted for the problems that their forms state.
trees_accepted : (first : Place) (above : List Protocol) (ss : List Section) → trees_misfits first above ss ≡ [] → ArePaired IsAccepted (problems_in (entries_from above (map (λ s. s.form) ss))) (trees_from above ss)
trees_accepted first above [] e = tt
trees_accepted first above (s ∷ ss) e =
    by (stated_problem above s.form) (none_before (tree_misfits (stated_problem above s.form) (next_place first ss) s.behind) (trees_misfits first behind ss) e)
    (trees_accepted first behind ss (none_behind (tree_misfits (stated_problem above s.form) (next_place first ss) s.behind) (trees_misfits first behind ss) e))
  where
    behind : List Protocol
    behind = protocols_behind (headed s.form) above

    by : (o : Option Problem) → tree_misfits o (next_place first ss) s.behind ≡ [] → ArePaired IsAccepted (problems_in (entries_from (protocols_behind (headed s.form) above) (map (λ t. t.form) ss))) (trees_from (protocols_behind (headed s.form) above) ss)
        → ArePaired IsAccepted (problem_onto o (problems_in (entries_from (protocols_behind (headed s.form) above) (map (λ t. t.form) ss)))) (tree_onto o s.behind (trees_from (protocols_behind (headed s.form) above) ss))
    by None h rest = rest
    by (Some p) h rest = (tree_accepted p (next_place first ss) s.behind h, rest)

-- ---- the problems

-- The problems of well-formed input are so.
pub problem_well_formed : (input : Forms) → faults_of input ≡ [] → (p : Problem) → IsIn p (problems_in (input_of input)) → IsWellFormed p
problem_well_formed input faultless p m =
    let r = problem_listed (input_of input) p m in
    record {
      roles = λ role i. roles_are_well_formed input r.0 p role faultless r.1 r.2 i;
      names = λ few. problem_different p.declared p.variables few (first_different p.declared p.variables (λ n d less there_is. variables_found input r.0 p n d faultless r.1 r.2 less there_is));
      own = map_to_themselves input r.0 p faultless r.1 r.2;
    }

-- ---- reports

-- Pairs that are related are so in another way, if each of them is.
pub paired_with : {A B : Type 0} (R S T : A → B → Type 0) (xs : List A) (ys : List B) → ArePaired R xs ys → ArePaired S xs ys → ((x : A) → IsIn x xs → (y : B) → R x y → S x y → T x y) → ArePaired T xs ys
paired_with R S T [] [] g h step = tt
paired_with R S T [] (y ∷ ys) g h step = absurd h
paired_with R S T (x ∷ xs) [] g h step = absurd h
paired_with R S T (x ∷ xs) (y ∷ ys) g h step = (step x here y g.0 h.0, paired_with R S T xs ys g.1 h.1 (λ z m w r s. step z (there m) w r s))

module _ (fs : Forms) (none : misfits fs ≡ []) where
  abbrev sections : List Section
  sections = (sections_of (items_of fs)).sections

  abbrev input : Forms
  input = input_forms (sections_of (items_of fs)).sections

  -- The forms of the input have no fault.
  pub input_faultless : faults_of input ≡ []
  input_faultless =
      let front = none_before (fault_places (faults_of input) ++ places_of (sections_of (items_of fs)).front) (trees_misfits (first_place (items_of fs)) [] sections) none in
      no_faults (faults_of input) (none_before (fault_places (faults_of input)) (places_of (sections_of (items_of fs)).front) front)

  -- The trees are accepted for the problems.
  pub all_accepted : ArePaired IsAccepted (problems_in (report_of fs).entries) (report_of fs).trees
  all_accepted =
      subst (λ (gs : List Form). ArePaired IsAccepted (problems_in (entries_from [] gs)) (trees_from [] sections)) (sym (items_back (map (λ s. s.form) sections)))
      (trees_accepted (first_place (items_of fs)) [] sections (none_behind (fault_places (faults_of input) ++ places_of (sections_of (items_of fs)).front) (trees_misfits (first_place (items_of fs)) [] sections) none))

  -- Each label of the trees is accepted, if no problem has 2^64 variables.
  pub labels_accepted : ((p : Problem) → IsIn p (problems_in (report_of fs).entries) → length p.variables < 2 ^ 64) → ArePaired TreeIsAccepted (problems_in (report_of fs).entries) (report_of fs).trees
  labels_accepted few =
      paired_with IsAccepted IsAccepted TreeIsAccepted (problems_in (report_of fs).entries) (report_of fs).trees all_accepted all_accepted
      (λ p m t a b. a (problem_well_formed input input_faultless p m) (few p m))

  -- A tree with whole labels fits.
  whole_fits : (p : Problem) → IsWellFormed p → (t : Tree) → IsAccepted p t → HasWholeLabels p t → TreeFits p t
  whole_fits p well t accepted whole i l at_i =
      let w = whole l (at_place t.labels i l at_i) in
      let many : length l.skeleton.variables ≡ length p.variables + length w.later = ap length w.variables ∙ length-append p.variables w.later in
      let small : length l.skeleton.variables < 2 ^ 64 = w.few in
      let a = accepted well (omega (arith, many, small)) i l at_i in
      record {
        variables = record { later = w.later; variables = w.variables; declared = a.declared };
        few = w.few;
        stated = keeps_all p.skeleton l.skeleton a.stated w.stated;
        consistent = a.consistent;
      }

  -- The trees fit, if all labels are whole.
  pub trees_fit : ArePaired HasWholeLabels (problems_in (report_of fs).entries) (report_of fs).trees → ArePaired TreeFits (problems_in (report_of fs).entries) (report_of fs).trees
  trees_fit whole =
      paired_with IsAccepted HasWholeLabels TreeFits (problems_in (report_of fs).entries) (report_of fs).trees all_accepted whole
      (λ p m t a w. whole_fits p (problem_well_formed input input_faultless p m) t a w)

  -- So the report can be stated again,
  pub stated_again : ArePaired HasWholeLabels (problems_in (report_of fs).entries) (report_of fs).trees → CanBeStated input (report_of fs).trees
  stated_again whole = record { well_formed = input_faultless; fit = trees_fit whole }

  -- and the forms that are printed for it are this report.
  pub printed_again : ArePaired HasWholeLabels (problems_in (report_of fs).entries) (report_of fs).trees → (gs : Forms) → ArePrinted gs input (report_of fs).trees → IsReport gs (report_of fs)
  printed_again whole gs same = reads_back input (report_of fs).trees gs (stated_again whole) same

-- The answer of reading back, from what its parts say.
use Rattle.std.proofs.Common.{◌≡◌, ℕ, zero, suc, List, [], ◌∷◌, ◌++◌, map, refl, sym, ap, ◌∙◌, subst}
use Rattle.std.specs.Prelude.{Option, Some, None, option_map, Ok, Err}
use Rattle.std.specs.List.{filter_map}
use Rattle.cp_lists.specs.Lists.{item_at}
use Rattle.cp_lists.proofs.Appended.{none_in_both}
use Rattle.cp_base.specs.declared.place.Place.{Place}
use Rattle.cp_base.specs.declared.place.Refusal.{Refusal}
use Rattle.cp_model.specs.Strand.{Protocol}
use Rattle.cp_model.specs.Tree.{Tree}
use Rattle.cp_sexpr.specs.Syntax.{Form}
use Rattle.cp_sexpr.specs.View.{view, views}
use Rattle.cp_sexpr.specs.declared.form.Form as program
use Rattle.cp_language.specs.Roles.{headed}
use Rattle.cp_language.specs.Problems.{Problem}
use Rattle.cp_language.specs.Input.{stated_problem, protocols_behind, faults_from, faults_of, Entry, form_of, stated, stated_protocol, entries_from, input_of}
use Rattle.cp_language.specs.StatedInput.{protocols_in}
use Rattle.cp_language.proofs.Entries.{protocols_entered}
use Rattle.cp_scope.specs.FirstFault as faults
use Rattle.cp_scope.proofs.Views.{items_of-forms_of}
use Rattle.cp_load.specs.UncheckedProblems.{unchecked_entry_view, HaveSoundSkeletons}
use Rattle.cp_load.specs.declared.unchecked_problems.UncheckedEntry.{UncheckedEntry}
use Rattle.cp_load.proofs.Entries.{forms_entered}
use Rattle.cp_load.proofs.SoundUnchecked.{unchecked_sound}
use Rattle.cp_report.specs.ReadBack.{Section, Sections, sections_of, input_forms, fault_places, first_place, next_place, places_of, tree_misfits, trees_misfits, tree_onto, trees_from, misfits, report_of, IsReadBack}
use Rattle.cp_spelled.specs.FirstMisfit.{first_onto, merged}
use Rattle.cp_report.specs.Misfits.{place_before}
use Rattle.cp_scope.proofs.FirstOf.{first_then, none_found}
use Rattle.cp_spelled.proofs.Firsts.{first_found}
use Rattle.cp_readback.specs.Sections.{section_view}
use Rattle.cp_readback.specs.declared.sections.Section as of_program
use Rattle.cp_readback.specs.Reports.{forms_in, problems_stated, all_unchecked_view, problem_at, trees_by, AreFollowedByTrees}
use Rattle.cp_readback.proofs.FaultPlaces.{gathered}

-- ---- the problems of the input

-- Where no fault has a place there is none.
pub no_faults : (rs : List Refusal) → fault_places rs ≡ [] → rs ≡ []
no_faults [] e = refl
no_faults (r ∷ rs) e = absurd (cc)

-- what is read of sections, and of the forms in them
forms-same : (ss : List of_program.Section) → map view (map (λ s. s.form.now) ss) ≡ forms_in (map section_view ss)
forms-same [] = refl
forms-same (s ∷ ss) = ap (λ fs. view s.form.now ∷ fs) (forms-same ss)

pub sound-unchecked_problems : (ss : List of_program.Section) (us : List UncheckedEntry) → faults_from [] (forms_in (map section_view ss)) ≡ [] → map unchecked_entry_view us ≡ entries_from [] (forms_in (map section_view ss)) → HaveSoundSkeletons us
sound-unchecked_problems ss us none same =
    let fs = map (λ s. s.form.now) ss in
    unchecked_sound fs us (ap (faults_from []) (items_of-forms_of (map view fs)) ∙ ap (faults_from []) (forms-same ss) ∙ none)
    (same ∙ ap (entries_from []) (sym (forms-same ss)))

pub unchecked-read : (us : List UncheckedEntry) (n : ℕ) (u : UncheckedEntry) → Some u ≡ item_at us n → stated (unchecked_entry_view u) ≡ problem_at (all_unchecked_view us) n
unchecked-read [] n u e = absurd (cc)
unchecked-read (x ∷ us) zero u e = let is : u ≡ x = cc in ap (λ v. stated (unchecked_entry_view v)) is
unchecked-read (x ∷ us) (suc n) u e = unchecked-read us n u e

pub unchecked-none : (us : List UncheckedEntry) (n : ℕ) → None ≡ item_at us n → None ≡ problem_at (all_unchecked_view us) n
unchecked-none [] n e = refl
unchecked-none (x ∷ us) zero e = absurd (cc)
unchecked-none (x ∷ us) (suc n) e = unchecked-none us n e

pub problems-listed : (us : List UncheckedEntry) (ss : List Section) → map unchecked_entry_view us ≡ entries_from [] (forms_in ss) → all_unchecked_view us ≡ problems_stated ss
problems-listed us ss e = ap (map stated) e

-- ---- the trees behind them

have-trees : (first : Place) (above : List Protocol) (ss : List Section) → trees_misfits first above ss ≡ [] → AreFollowedByTrees (map stated (entries_from above (forms_in ss))) ss
have-trees first above [] e n p s g h = absurd (cc)
have-trees first above (t ∷ ss) e zero p s g h =
    let is : t ≡ s = cc in
    let fits = (none_in_both (tree_misfits (stated_problem above t.form) (next_place first ss) t.behind) (trees_misfits first (protocols_behind (headed t.form) above) ss) e).0 in
    (next_place first ss, subst (λ u. tree_misfits (Some p) (next_place first ss) u.behind ≡ []) is (sym (ap (λ o. tree_misfits o (next_place first ss) t.behind) g) ∙ fits))
have-trees first above (t ∷ ss) e (suc n) p s g h =
    have-trees first (protocols_behind (headed t.form) above) ss
    (none_in_both (tree_misfits (stated_problem above t.form) (next_place first ss) t.behind) (trees_misfits first (protocols_behind (headed t.form) above) ss) e).1 n p s g h

trees-same : (above : List Protocol) (ss : List Section) → trees_by (map stated (entries_from above (forms_in ss))) ss ≡ trees_from above ss
trees-same above [] = refl
trees-same above (s ∷ ss) = ap (tree_onto (stated_problem above s.form) s.behind) (trees-same (protocols_behind (headed s.form) above) ss)

-- ---- all forms

module _ (fs : List program.Form) (cut : Sections) (is_cut : cut ≡ sections_of (map view fs)) (read : List Section) (is_read : read ≡ cut.sections) where
  abbrev front : List Place
  front = places_of cut.front

  misfits-are : misfits (views fs) ≡ fault_places (faults_from [] (forms_in read)) ++ front ++ trees_misfits (first_place (map view fs)) [] read
  misfits-are =
      ap (λ gs. fault_places (faults_of (input_forms (sections_of gs).sections)) ++ places_of (sections_of gs).front ++ trees_misfits (first_place gs) [] (sections_of gs).sections) (items_of-forms_of (map view fs))
      ∙ ap (λ (t : Sections). fault_places (faults_of (input_forms t.sections)) ++ places_of t.front ++ trees_misfits (first_place (map view fs)) [] t.sections) (sym is_cut)
      ∙ ap (λ gs. fault_places (faults_from [] gs) ++ front ++ trees_misfits (first_place (map view fs)) [] cut.sections) (items_of-forms_of (forms_in cut.sections))
      ∙ ap (λ ss. fault_places (faults_from [] (forms_in ss)) ++ front ++ trees_misfits (first_place (map view fs)) [] ss) (sym is_read)

  -- The first of the misfits in front of the input and in trees, and then of the faults of the input, is the first of all.
  pub misfit-found : (start : Place) (o p q all : Option Place) (f g : Option Refusal) → start ≡ first_place (map view fs) → o ≡ None → f ≡ None → p ≡ first_onto o front
      → q ≡ first_onto p (trees_misfits start [] read) → g ≡ faults.first_onto f (faults_from [] (forms_in read)) → all ≡ merged q (option_map (λ r. r.place) g)
      → all ≡ first_onto None (misfits (views fs))
  misfit-found start o p q all f g is_start new none at_front at_trees at_input noted =
      let rs = faults_from [] (forms_in read) in
      let behind = trees_misfits (first_place (map view fs)) [] read in
      gathered rs front behind g q all (at_input ∙ ap (λ x. faults.first_onto x rs) none)
      (first_then place_before o p q front behind at_front (at_trees ∙ ap (λ x. first_onto p (trees_misfits x [] read)) is_start) ∙ ap (λ x. first_onto x (front ++ behind)) new) noted
      ∙ ap (first_onto None) (sym misfits-are)

pub read-refused : (fs : List program.Form) (o : Option Place) (at : Place) → o ≡ first_onto None (misfits (views fs)) → o ≡ Some at → IsReadBack (views fs) (Err at)
read-refused fs o at found e = first_found (misfits (views fs)) at (sym found ∙ e)

-- ---- where nothing is misfit

module _ (fs : List program.Form) (o : Option Place) (found : o ≡ first_onto None (misfits (views fs))) (e : o ≡ None) where
  abbrev sections : List Section
  sections = (sections_of (map view fs)).sections

  no-misfits : misfits (views fs) ≡ []
  no-misfits = none_found place_before (misfits (views fs)) (sym found ∙ e)

  none-here : ((fault_places (faults_from [] (forms_in sections)) ++ places_of (sections_of (map view fs)).front) ≡ []) × (trees_misfits (first_place (map view fs)) [] sections ≡ [])
  none-here =
      none_in_both (fault_places (faults_from [] (forms_in sections)) ++ places_of (sections_of (map view fs)).front) (trees_misfits (first_place (map view fs)) [] sections)
      (sym (misfits-are fs (sections_of (map view fs)) refl sections refl) ∙ no-misfits)

  input-fits : faults_from [] (forms_in sections) ≡ []
  input-fits = no_faults (faults_from [] (forms_in sections)) (none_in_both (fault_places (faults_from [] (forms_in sections))) (places_of (sections_of (map view fs)).front) none-here.0).0

  pub trees-fit : (os : List (Option Problem)) (ss : List Section) → os ≡ problems_stated sections → ss ≡ sections → AreFollowedByTrees os ss
  trees-fit os ss listed are = subst (λ ts. AreFollowedByTrees os ts) (sym are) (subst (λ qs. AreFollowedByTrees qs sections) (sym listed) (have-trees (first_place (map view fs)) [] sections none-here.1))

  pub unchecked_problems-fit : (ss : List of_program.Section) (us : List UncheckedEntry) → map section_view ss ≡ sections → map unchecked_entry_view us ≡ entries_from [] (forms_in sections) → HaveSoundSkeletons us
  unchecked_problems-fit ss us are listed = sound-unchecked_problems ss us (ap (λ ts. faults_from [] (forms_in ts)) are ∙ input-fits) (listed ∙ ap (λ ts. entries_from [] (forms_in ts)) (sym are))

  pub report-read : (entries : List Entry) (trees : List Tree) → entries ≡ entries_from [] (forms_in sections) → trees ≡ trees_from [] sections
      → IsReadBack (views fs) (Ok (record { entries = entries; trees = trees }))
  report-read entries trees are_entries are_trees =
      let whole = ap sections_of (items_of-forms_of (map view fs)) in
      let entries_are : entries ≡ (report_of (views fs)).entries =
      are_entries ∙ sym (ap (entries_from []) (items_of-forms_of (forms_in sections))) ∙ sym (ap (λ (t : Sections). input_of (input_forms t.sections)) whole) in
      let trees_are : trees ≡ (report_of (views fs)).trees = are_trees ∙ sym (ap (λ (t : Sections). trees_from [] t.sections) whole) in
      (no-misfits, λ i. record { entries = entries_are i; trees = trees_are i })

-- the trees of the problems of the input
pub trees-are : (ss : List Section) (os : List (Option Problem)) (read : List Section) (trees : List Tree) → os ≡ problems_stated ss → read ≡ ss → trees ≡ trees_by os read → trees ≡ trees_from [] ss
trees-are ss os read trees listed are made = made ∙ ap (λ qs. trees_by qs read) listed ∙ ap (trees_by (problems_stated ss)) are ∙ trees-same [] ss

-- the protocols of entries are those of their forms
pub protocols-are : (fs : List Form) (es : List Entry) → es ≡ entries_from [] fs → filter_map stated_protocol es ≡ protocols_in (map form_of es)
protocols-are fs es are = ap (filter_map stated_protocol) are ∙ protocols_entered [] fs ∙ sym (ap protocols_in (ap (map form_of) are ∙ forms_entered [] fs))

-- The forms of an input and of trees as they are printed are a report, wherever they stand, and are read back as the same.
use Rattle.std.proofs.Common.{◌≡◌, ◌⊎◌, inl, inr, ℕ, suc, List, [], ◌∷◌, ◌++◌, true, false, refl, sym, ap, ◌∙◌, subst}
use Rattle.std.specs.Prelude.{Option, Some, None, map, drop, codes, if◌then◌else◌}
use Rattle.std.proofs.lemmas.Bool.{false_from_ne_true}
use Rattle.cp_base.specs.declared.place.Place.{Place}
use Rattle.cp_lists.specs.Lists.{IsIn, here, there}
use Rattle.cp_lists.proofs.Members.{in_append, head_or_behind, only_item}
use Rattle.cp_lists.proofs.Appended.{none_in_both, none_and}
use Rattle.cp_model.specs.Senders.{ArePaired}
use Rattle.cp_model.specs.Strand.{Protocol}
use Rattle.cp_model.specs.Tree.{Label, Tree}
use Rattle.cp_sexpr.specs.Syntax.{Form, Forms, forms_of}
use Rattle.cp_language.specs.Words.{is_one_of, top_head}
use Rattle.cp_language.specs.Faults.{place_of, items_of}
use Rattle.cp_language.specs.Roles.{Headed, headed}
use Rattle.cp_language.specs.Problems.{Problem}
use Rattle.cp_language.specs.Input.{top_faults, headed_top_faults, protocols_behind, faults_from, faults_of, Entry, form_of, stated_protocol, stated, stated_problem, entries_from, input_of}
use Rattle.cp_language.specs.Report.{labels_from, status_form, tree_forms, report_from, report_forms}
use Rattle.cp_language.specs.Names.{problem_names}
use Rattle.cp_language.proofs.Entries.{headed_form}
use Rattle.cp_language.proofs.ValidTests.{one_of}
use Rattle.cp_report.specs.Heads.{is_headed_by, is_of_tree}
use Rattle.cp_report.specs.ReadBack.{Section, Sections, with_form, sections_of, input_forms, places_of, tree_misfits, next_place, trees_misfits, fault_places, first_place, misfits, tree_of, tree_onto, trees_from, Report, report_of}
use Rattle.cp_report.specs.FittingTrees.{problem_onto, problems_in}
use Rattle.cp_report.specs.UpToNames.{IsSameTree, IsSameEntry, IsReport}
use Rattle.cp_report.specs.Laws.{ArePrinted}
use Rattle.cp_report.proofs.Moved.{at_start}
use Rattle.cp_report.proofs.PrintedStrands.{items_back}
use Rattle.cp_report.proofs.MovedReports.{bare, bare_form, bare_protocol, bare_stated, misfits_in, misfits_moved, report_moved}

-- ---- forms of the input are none of a tree

not_one : (above : List Protocol) (at : Place) (h : Headed) (t : List ℕ) → headed_top_faults above at (Some h) ≡ [] → h.head ≡ t → (top_faults above at (top_head t) h.items ≡ [] → ⊥) → ⊥
not_one above at h t e same never = never (subst (λ (w : List ℕ). top_faults above at (top_head w) h.items ≡ []) same e)

headed_input : (above : List Protocol) (at : Place) (o : Option Headed) → headed_top_faults above at o ≡ [] → is_headed_by (codes "label" ∷ codes "status" ∷ []) o ≡ false
headed_input above at None e = refl
headed_input above at (Some h) e = false_from_ne_true (is_one_of h.head (codes "label" ∷ codes "status" ∷ [])) (λ q. by (one_of h.head (codes "label" ∷ codes "status" ∷ []) q))
  where
    by : IsIn h.head (codes "label" ∷ codes "status" ∷ []) → ⊥
    by m = elim (head_or_behind m) as (λ _. ⊥) [
      | inl same ↦ not_one above at h (codes "label") e same (λ q. absurd (cc))
      | inr i ↦ not_one above at h (codes "status") e (only_item i) (λ q. absurd (cc))
    ]

-- None of the forms is a label form or a status form.
abbrev AreInput : List Form → Type 0
AreInput [] = Unit {0}
AreInput (f ∷ fs) = (is_of_tree f ≡ false) × AreInput fs

are_input : (above : List Protocol) (fs : List Form) → faults_from above fs ≡ [] → AreInput fs
are_input above [] e = tt
are_input above (f ∷ fs) e =
    let both = none_in_both (headed_top_faults above (place_of f) (headed f)) (faults_from (protocols_behind (headed f) above) fs) e in
    (headed_input above (place_of f) (headed f) both.0, are_input (protocols_behind (headed f) above) fs both.1)

-- ---- sections

-- forms of a tree stand in front
in_front : (xs ys : List Form) → ((f : Form) → IsIn f xs → is_of_tree f ≡ true) → (sections_of ys).front ≡ [] → sections_of (xs ++ ys) ≡ record { front = xs; sections = (sections_of ys).sections }
in_front [] ys h e = λ i. record { front = e i; sections = (sections_of ys).sections }
in_front (x ∷ xs) ys h e =
    ap (with_form x) (in_front xs ys (λ f m. h f (there m)) e)
    ∙ ap (λ b. if b then record { front = x ∷ xs; sections = (sections_of ys).sections } else record { front = []; sections = record { form = x; behind = xs } ∷ (sections_of ys).sections }) (h x here)

labels_of_tree : (of_problem : List (List ℕ)) (s : ℕ) (ls : List Label) (f : Form) → IsIn f (labels_from of_problem s ls) → is_of_tree f ≡ true
labels_of_tree of_problem s [] f m = elim m [ ]
labels_of_tree of_problem s (l ∷ ls) f here = refl
labels_of_tree of_problem s (l ∷ ls) f (there m) = labels_of_tree of_problem (suc s) ls f m

forms_of_tree : (p : Problem) (t : Tree) (f : Form) → IsIn f (tree_forms p t) → is_of_tree f ≡ true
forms_of_tree p t f m = by (in_append (labels_from (problem_names p.declared p.variables) 0 t.labels) (status_form t ∷ []) m)
  where
    by : IsIn f (labels_from (problem_names p.declared p.variables) 0 t.labels) ⊎ IsIn f (status_form t ∷ []) → is_of_tree f ≡ true
    by (inl i) = labels_of_tree (problem_names p.declared p.variables) 0 t.labels f i
    by (inr i) = ap is_of_tree (only_item i)

-- a form of the input begins a section
begins : (f : Form) (fs behind : List Form) (ss : List Section) → is_of_tree f ≡ false → sections_of fs ≡ record { front = behind; sections = ss } → sections_of (f ∷ fs) ≡ record { front = []; sections = record { form = f; behind = behind } ∷ ss }
begins f fs behind ss e q =
    ap (with_form f) q ∙ ap (λ b. if b then record { front = f ∷ behind; sections = ss } else record { front = []; sections = record { form = f; behind = behind } ∷ ss }) e

-- ---- one form after the other

-- The forms of the tree fit behind the problem, and are read back as the same tree.
pub record Reads (p : Problem) (t : Tree) : Type 0 where
  pub fits : (next : Place) → tree_misfits (Some p) next (tree_forms p t) ≡ []
  pub back : IsSameTree t (tree_of p (tree_forms p t))

-- The sections have these forms of the input, with the forms of these trees behind the problems.
record IsReadFrom (first : Place) (above : List Protocol) (fs : List Form) (trees : List Tree) (s : Sections) : Type 0 where
  front : s.front ≡ []
  forms : items_of (input_forms s.sections) ≡ fs
  fits : trees_misfits first above s.sections ≡ []
  trees_read : ArePaired IsSameTree trees (trees_from above s.sections)

one_more : (first : Place) (above : List Protocol) (f : Form) (fs behind : List Form) (trees rest : List Tree) (s : Sections) (o : Option Problem) → stated_problem above f ≡ o
    → IsReadFrom first (protocols_behind (headed f) above) fs rest s → tree_misfits o (next_place first s.sections) behind ≡ []
    → ArePaired IsSameTree trees (tree_onto o behind (trees_from (protocols_behind (headed f) above) s.sections))
    → IsReadFrom first above (f ∷ fs) trees (record { front = []; sections = record { form = f; behind = behind } ∷ s.sections })
one_more first above f fs behind trees rest s o e h fit paired = record {
  front = refl;
  forms = ap (λ gs. f ∷ gs) h.forms;
  fits = none_and _ _ (ap (λ q. tree_misfits q (next_place first s.sections) behind) e ∙ fit) h.fits;
  trees_read = subst (λ (q : Option Problem). ArePaired IsSameTree trees (tree_onto q behind (trees_from (protocols_behind (headed f) above) s.sections))) (sym e) paired;
}

read_from : (first : Place) (above : List Protocol) (fs : List Form) (trees : List Tree) → AreInput fs → ArePaired Reads (problems_in (entries_from above fs)) trees
    → IsReadFrom first above fs trees (sections_of (report_forms (entries_from above fs) trees))
read_from first above [] [] input h = record { front = refl; forms = refl; fits = refl; trees_read = tt }
read_from first above [] (t ∷ ts) input h = absurd h
read_from first above (f ∷ fs) trees input h =
    subst (λ (g : Form). IsReadFrom first above (f ∷ fs) trees (sections_of (report_from g (stated_problem above f) trees (report_forms behind)))) (sym (headed_form above (headed f) f))
    (by (stated_problem above f) refl trees h (λ ts g. read_from first (protocols_behind (headed f) above) fs ts input.1 g))
  where
    behind : List Entry
    behind = entries_from (protocols_behind (headed f) above) fs

    by : (o : Option Problem) → stated_problem above f ≡ o → (ts : List Tree) → ArePaired Reads (problem_onto o (problems_in behind)) ts
        → ((us : List Tree) → ArePaired Reads (problems_in behind) us → IsReadFrom first (protocols_behind (headed f) above) fs us (sections_of (report_forms behind us)))
        → IsReadFrom first above (f ∷ fs) ts (sections_of (report_from f o ts (report_forms behind)))
    by None e ts g rest =
        let r = rest ts g in
        subst (IsReadFrom first above (f ∷ fs) ts) (sym (begins f (report_forms behind ts) [] (sections_of (report_forms behind ts)).sections input.0 (λ i. record { front = r.front i; sections = (sections_of (report_forms behind ts)).sections })))
        (one_more first above f fs [] ts ts (sections_of (report_forms behind ts)) None e r refl r.trees_read)
    by (Some p) e [] g rest = absurd g
    by (Some p) e (t ∷ ts) g rest =
        let r = rest ts g.1 in
        subst (IsReadFrom first above (f ∷ fs) (t ∷ ts))
        (sym (begins f (tree_forms p t ++ report_forms behind ts) (tree_forms p t) (sections_of (report_forms behind ts)).sections input.0 (in_front (tree_forms p t) (report_forms behind ts) (forms_of_tree p t) r.front)))
        (one_more first above f fs (tree_forms p t) (t ∷ ts) ts (sections_of (report_forms behind ts)) (Some p) e r (g.0.fits (next_place first (sections_of (report_forms behind ts)).sections)) (g.0.back, r.trees_read))

-- ---- the report

abbrev report_by : Sections → Report
report_by s = record { entries = input_of (input_forms s.sections); trees = trees_from [] s.sections }

abbrev bare_report : Report → Report
bare_report r = record { entries = map bare r.entries; trees = r.trees }

no_places : (ps : List Place) → at_start ps ≡ [] → ps ≡ []
no_places [] e = refl
no_places (p ∷ ps) e = absurd (cc)

same_entry : (d e : Entry) → bare d ≡ bare e → IsSameEntry d e
same_entry d e q = record {
  form = sym (bare_form d) ∙ ap form_of q ∙ bare_form e;
  protocol = sym (bare_protocol d) ∙ ap stated_protocol q ∙ bare_protocol e;
  problem = sym (bare_stated d) ∙ ap stated q ∙ bare_stated e;
}

same_entries : (ds es : List Entry) → map bare ds ≡ map bare es → ArePaired IsSameEntry ds es
same_entries [] [] q = tt
same_entries [] (e ∷ es) q = absurd (cc)
same_entries (d ∷ ds) [] q = absurd (cc)
same_entries (d ∷ ds) (e ∷ es) q = let first : bare d ≡ bare e = cc in (same_entry d e first, same_entries ds es (ap (drop 1) q))

module _ (input : Forms) (trees : List Tree) (well_formed : faults_of input ≡ []) (reads : ArePaired Reads (problems_in (input_of input)) trees) where
  abbrev printed : List Form
  printed = report_forms (input_of input) trees

  read : IsReadFrom (first_place printed) [] (items_of input) trees (sections_of printed)
  read = read_from (first_place printed) [] (items_of input) trees (are_input [] (items_of input) well_formed) reads

  no_misfits : misfits (forms_of printed) ≡ []
  no_misfits =
      ap (λ gs. misfits_in (first_place gs) (sections_of gs)) (items_back printed)
      ∙ none_and _ _ (none_and _ _ (ap (λ gs. fault_places (faults_from [] gs)) read.forms ∙ ap fault_places well_formed) (ap places_of read.front)) read.fits

  report_is : report_of (forms_of printed) ≡ report_by (sections_of printed)
  report_is = ap (λ gs. report_by (sections_of gs)) (items_back printed)

  entries_are : (report_of (forms_of printed)).entries ≡ input_of input
  entries_are = ap (λ (r : Report). r.entries) report_is ∙ ap (entries_from []) read.forms

  module _ (fs : Forms) (same : ArePrinted fs input trees) where
    fits_anywhere : misfits fs ≡ []
    fits_anywhere = no_places (misfits fs) (sym (misfits_moved fs) ∙ ap misfits same ∙ misfits_moved (forms_of printed) ∙ ap at_start no_misfits)

    reports_same : bare_report (report_of fs) ≡ bare_report (report_of (forms_of printed))
    reports_same = sym (report_moved fs) ∙ ap report_of same ∙ report_moved (forms_of printed)

    -- What is printed is read back as the same report.
    pub is_report : IsReport fs (record { entries = input_of input; trees = trees })
    is_report = record {
      fits = fits_anywhere;
      same = record {
        entries = same_entries (input_of input) (report_of fs).entries (sym (ap (λ (r : Report). r.entries) reports_same ∙ ap (map bare) entries_are));
        trees = subst (ArePaired IsSameTree trees) (sym (ap (λ (r : Report). r.trees) reports_same ∙ ap (λ (r : Report). r.trees) report_is)) read.trees_read;
      };
    }

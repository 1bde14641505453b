-- The report entry by entry.
use Rattle.std.proofs.Common.{◌≡◌, ℕ, ◌+◌, ◌<◌, ◌≤◌, List, [], ◌∷◌, ◌++◌, length, get_or, drop, map, refl, sym, ap, ap₂, ◌∙◌, add-one, subst}
use Rattle.std.specs.Prelude.{Bool, true, false, if◌then◌else◌, Option, Some, None}
use Rattle.std.proofs.lemmas.List.{drop_all}
use Rattle.cp_lists.proofs.Members.{drop_read}
use Rattle.cp_model.specs.Tree.{Label, Tree}
use Rattle.cp_sexpr.specs.Syntax.{Form}
use Rattle.cp_language.specs.Problems.{Problem}
use Rattle.cp_language.specs.Input.{form_of, stated}
use Rattle.cp_language.specs.Report.{label_form, text_of_forms}
use Rattle.cp_sexpr.specs.Spelling.{AppendsFront}
use Rattle.cp_language.specs.ShapesText.{chosen_from, chosen_tree_forms, chosen_report_from, chosen_report_forms}
use Rattle.cp_load.specs.declared.input.Entry as loaded
use Rattle.cp_load.specs.Inputs.{entry_view}
use Rattle.cp_print.specs.WrittenForms.{HasAppendedForms, Leaves, entry_forms, trees_behind}
use Rattle.cp_print.proofs.Writings.{front_first, leaves_none}

entry-first : (chosen : Label → Bool) (f : Form) (o : Option Problem) (ts : List Tree) (rest : List Tree → List Form) → chosen_report_from chosen f o ts rest ≡ entry_forms chosen f o ts ++ rest (trees_behind o ts)
entry-first chosen f None ts rest = refl
entry-first chosen f (Some p) [] rest = refl
entry-first chosen f (Some p) (t ∷ ts) rest = refl

module _ (chosen : Label → Bool) (f g : Form) (e : g ≡ f) where
  -- its form alone was not written whole
  pub entry_failed : (o : Option Problem) (ts : List Tree) (a b : List ℕ) → AppendsFront a b (text_of_forms (g ∷ [])) → AppendsFront a b (text_of_forms (entry_forms chosen f o ts))
  entry_failed None ts a b h = subst (λ (x : Form). AppendsFront a b (text_of_forms (x ∷ []))) e h
  entry_failed (Some p) [] a b h = subst (λ (x : Form). AppendsFront a b (text_of_forms (x ∷ []))) e h
  entry_failed (Some p) (t ∷ ts) a b h = front_first a b (f ∷ []) (chosen_tree_forms chosen p t) (subst (λ (x : Form). AppendsFront a b (text_of_forms (x ∷ []))) e h)

  -- its form, and the tree of the problem that it states
  pub entry_is : (o : Option Problem) (ts : List Tree) (p : Problem) (t : Tree) (rest : List Tree) → o ≡ Some p → ts ≡ t ∷ rest → entry_forms chosen f o ts ≡ (g ∷ []) ++ chosen_tree_forms chosen p t
  entry_is o ts p t rest h i = ap₂ (λ (q : Option Problem) (us : List Tree). entry_forms chosen f q us) h i ∙ ap (λ (x : Form). x ∷ chosen_tree_forms chosen p t) (sym e)

-- The top forms from entry number k on, of a report with these trees for the problems among them.
abbrev pub entries_left : (Label → Bool) → List loaded.Entry → ℕ → List Tree → List Form
entries_left chosen es k ts = chosen_report_forms chosen (map entry_view (drop k es)) ts

-- one entry, and those behind it
pub entry_next : (chosen : Label → Bool) (es : List loaded.Entry) (k : ℕ) (e : loaded.Entry) (ts us : List Tree) → k < length es → e ≡ get_or es k e → us ≡ trees_behind (stated (entry_view e)) ts
    → entries_left chosen es k ts ≡ entry_forms chosen (form_of (entry_view e)) (stated (entry_view e)) ts ++ entries_left chosen es (k + 1) us
entry_next chosen es k e ts us lt is g =
    let d = entry_view e in
    ap (λ (xs : List loaded.Entry). chosen_report_forms chosen (map entry_view xs) ts) (drop_read es k e lt is)
    ∙ entry-first chosen (form_of d) (stated d) ts (entries_left chosen es (k + 1)) ∙ ap (λ vs. entry_forms chosen (form_of d) (stated d) ts ++ entries_left chosen es (k + 1) vs) (sym g)

-- at the end no entry is left
entries_done : (chosen : Label → Bool) (es : List loaded.Entry) (k : ℕ) (ts : List Tree) → length es ≤ k → entries_left chosen es k ts ≡ []
entries_done chosen es k ts past = ap (λ (xs : List loaded.Entry). chosen_report_forms chosen (map entry_view xs) ts) (drop_all k es past)

-- all is written where no entry is left
pub all_written : (chosen : Label → Bool) (a ea b eb : List ℕ) (es : List loaded.Entry) (k : ℕ) (ts : List Tree) (whole : List Form) → Leaves a ea b eb whole (entries_left chosen es k ts) → length es ≤ k
    → HasAppendedForms a ea b eb whole
all_written chosen a ea b eb es k ts whole l past = leaves_none a ea b eb whole (entries_left chosen es k ts) l (entries_done chosen es k ts past)

-- ---- labels

module _ (chosen : Label → Bool) (names : List (List ℕ)) (n : ℕ) (ls : List Label) where
  -- The forms of the labels from number n on.
  abbrev pub labels_left : List Form
  labels_left = chosen_from chosen names n (drop n ls)

  -- and of those from the next on
  abbrev pub labels_behind : List Form
  labels_behind = chosen_from chosen names (n + 1) (drop (n + 1) ls)

  first_label : (l : Label) (b : Bool) → n < length ls → l ≡ get_or ls n l → chosen l ≡ b → labels_left ≡ (if b then label_form names n l ∷ labels_behind else labels_behind)
  first_label l b lt e is =
      ap (λ (xs : List Label). chosen_from chosen names n xs) (drop_read ls n l lt e)
      ∙ ap₂ (λ (c : Bool) (fs : List Form). if c then label_form names n l ∷ fs else fs) is (ap (λ k. chosen_from chosen names k (drop (n + 1) ls)) (sym (add-one n)))

  -- one label, and those behind it
  pub labels_next : (l : Label) → n < length ls → l ≡ get_or ls n l → chosen l ≡ true → labels_left ≡ (label_form names n l ∷ []) ++ labels_behind
  labels_next l lt e is = first_label l true lt e is

  -- the form of a label of which a test says that it is chosen, and those behind it
  pub labels_put : (l : Label) (b : Bool) (f : Form) → n < length ls → l ≡ get_or ls n l → b ≡ chosen l → b ≡ true → f ≡ label_form names n l → labels_left ≡ (f ∷ []) ++ labels_behind
  labels_put l b f lt e is true_here form = labels_next l lt e (sym is ∙ true_here) ∙ ap (λ g. g ∷ labels_behind) (sym form)

  -- a label that is not chosen
  pub labels_skipped : (l : Label) → n < length ls → l ≡ get_or ls n l → chosen l ≡ false → labels_left ≡ labels_behind
  labels_skipped l lt e is = first_label l false lt e is

  -- at the end no label is left
  pub labels_done : length ls ≤ n → labels_left ≡ []
  labels_done h = ap (λ (xs : List Label). chosen_from chosen names n xs) (drop_all n ls h)

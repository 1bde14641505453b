-- The forms of the input of a report, one after another, with what stands behind each.
use Rattle.std.proofs.Common.{◌≡◌, ℕ, zero, suc, ◌+◌, ◌<◌, ◌≤◌, List, [], ◌∷◌, ◌++◌, length, get_or, map, drop, refl, sym, ap, ◌∙◌, add-one}
use Rattle.std.specs.Prelude.{Option, Some, None}
use Rattle.std.proofs.lemmas.List.{drop_all, append_assoc, append-nil}
use Rattle.cp_lists.proofs.Members.{drop_read}
use Rattle.cp_base.specs.declared.place.Place.{Place}
use Rattle.cp_base.specs.declared.place.Refusal.{Refusal}
use Rattle.cp_model.specs.Strand.{Protocol}
use Rattle.cp_model.specs.Tree.{Tree}
use Rattle.cp_sexpr.specs.View.{view}
use Rattle.cp_language.specs.Faults.{place_of}
use Rattle.cp_language.specs.Roles.{headed}
use Rattle.cp_language.specs.Problems.{Problem}
use Rattle.cp_language.specs.Input.{headed_top_faults, protocols_behind, faults_from, Entry, headed_entry, stated_problem, entries_from}
use Rattle.cp_roles.specs.Above.{turned}
use Rattle.cp_scope.specs.FirstFault as faults
use Rattle.cp_scope.proofs.Firsts as faults_met
use Rattle.cp_load.specs.UncheckedProblems.{unchecked_entry_view}
use Rattle.cp_load.specs.declared.unchecked_problems.UncheckedEntry.{UncheckedEntry}
use Rattle.cp_load.proofs.TopForms.{behind-turned, unchecked-pushed}
use Rattle.cp_report.specs.ReadBack.{Section, next_place, tree_misfits, trees_misfits, tree_of, tree_onto}
use Rattle.cp_spelled.specs.FirstMisfit.{first_onto}
use Rattle.cp_report.specs.Misfits.{place_before}
use Rattle.cp_scope.proofs.FirstOf.{first_onto-append}
use Rattle.cp_readback.specs.Sections.{section_view}
use Rattle.cp_readback.specs.declared.sections.Section as program
use Rattle.cp_readback.specs.Reports.{forms_in, problem_at, trees_by}

module _ (ss : List program.Section) (k : ℕ) where
  abbrev rest : List Section
  rest = map section_view (drop (k + 1) ss)

  module _ (s : program.Section) (lt : k < length ss) (is : s ≡ get_or ss k s) where
    section-read : map section_view (drop k ss) ≡ section_view s ∷ rest
    section-read = ap (map section_view) (drop_read ss k s lt is)

    module _ (ps qs : List Protocol) (behind : qs ≡ ps ++ protocols_behind (headed (view s.form.now)) []) where
      abbrev after : List Protocol
      after = protocols_behind (headed (view s.form.now)) (turned ps [])

      above-same : turned qs [] ≡ after
      above-same = ap (λ xs. turned xs []) behind ∙ behind-turned ps (headed (view s.form.now))

      pub faults-taken : (o p all : Option Refusal) → p ≡ faults.first_onto o (headed_top_faults (turned ps []) (place_of (view s.form.now)) (headed (view s.form.now)))
          → faults.first_onto o (faults_from (turned ps []) (forms_in (map section_view (drop k ss)))) ≡ all → faults.first_onto p (faults_from (turned qs []) (forms_in rest)) ≡ all
      faults-taken o p all e i =
          let own = headed_top_faults (turned ps []) (place_of (view s.form.now)) (headed (view s.form.now)) in
          ap (λ x. faults.first_onto p (faults_from x (forms_in rest))) above-same ∙ ap (λ x. faults.first_onto x (faults_from after (forms_in rest))) e
          ∙ sym (faults_met.first_onto-append o own (faults_from after (forms_in rest)))
          ∙ sym (ap (λ ts. faults.first_onto o (faults_from (turned ps []) (forms_in ts))) section-read) ∙ i

      pub misfits-taken : (first : Place) (x : Option Problem) (next : Place) (o p all : Option Place) → x ≡ stated_problem (turned ps []) (view s.form.now) → next ≡ next_place first rest
          → p ≡ first_onto o (tree_misfits x next (map view s.behind.now))
          → first_onto o (trees_misfits first (turned ps []) (map section_view (drop k ss))) ≡ all → first_onto p (trees_misfits first (turned qs []) rest) ≡ all
      misfits-taken first x next o p all is_stated is_next e i =
          let own = tree_misfits (stated_problem (turned ps []) (view s.form.now)) (next_place first rest) (map view s.behind.now) in
          ap (λ y. first_onto p (trees_misfits first y rest)) above-same
          ∙ ap (λ y. first_onto y (trees_misfits first after rest))
          (e ∙ ap (λ y. first_onto o (tree_misfits y next (map view s.behind.now))) is_stated
          ∙ ap (λ y. first_onto o (tree_misfits (stated_problem (turned ps []) (view s.form.now)) y (map view s.behind.now))) is_next)
          ∙ sym (first_onto-append place_before o own (trees_misfits first after rest))
          ∙ sym (ap (λ ts. first_onto o (trees_misfits first (turned ps []) ts)) section-read) ∙ i

      pub entries-taken : (us vs : List UncheckedEntry) (u : UncheckedEntry) (all : List Entry) → unchecked_entry_view u ≡ headed_entry (turned ps []) (headed (view s.form.now)) (view s.form.now) → vs ≡ us ++ u ∷ []
          → map unchecked_entry_view us ++ entries_from (turned ps []) (forms_in (map section_view (drop k ss))) ≡ all → map unchecked_entry_view vs ++ entries_from (turned qs []) (forms_in rest) ≡ all
      entries-taken us vs u all e g i =
          let xs = map unchecked_entry_view us in
          ap (λ y. map unchecked_entry_view vs ++ entries_from y (forms_in rest)) above-same ∙ ap (λ zs. zs ++ entries_from after (forms_in rest)) (unchecked-pushed us vs u g)
          ∙ append_assoc xs (unchecked_entry_view u ∷ []) (entries_from after (forms_in rest))
          ∙ ap (λ y. xs ++ y ∷ entries_from after (forms_in rest)) e
          ∙ sym (ap (λ ts. xs ++ entries_from (turned ps []) (forms_in ts)) section-read) ∙ i

    trees-read : (os : List (Option Problem)) → trees_by (drop k os) (map section_view (drop k ss)) ≡ tree_onto (problem_at os k) (map view s.behind.now) (trees_by (drop (k + 1) os) rest)
    trees-read os = ap (trees_by (drop k os)) section-read ∙ by_place os k ∙ sym (ap (λ n. tree_onto (problem_at os k) (map view s.behind.now) (trees_by (drop n os) rest)) (add-one k))
      where
        by_place : (qs : List (Option Problem)) (n : ℕ) → trees_by (drop n qs) (section_view s ∷ rest) ≡ tree_onto (problem_at qs n) (map view s.behind.now) (trees_by (drop (suc n) qs) rest)
        by_place [] zero = refl
        by_place [] (suc n) = refl
        by_place (q ∷ qs) zero = refl
        by_place (q ∷ qs) (suc n) = by_place qs n

    pub tree-taken : (os : List (Option Problem)) (ts us all : List Tree) (p : Problem) (t : Tree) → Some p ≡ problem_at os k → t ≡ tree_of p (map view s.behind.now) → us ≡ ts ++ t ∷ []
        → ts ++ trees_by (drop k os) (map section_view (drop k ss)) ≡ all → us ++ trees_by (drop (k + 1) os) rest ≡ all
    tree-taken os ts us all p t found made g i =
        let others = trees_by (drop (k + 1) os) rest in
        ap (λ vs. vs ++ others) g ∙ append_assoc ts (t ∷ []) others ∙ ap (λ u. ts ++ u ∷ others) made
        ∙ ap (λ o. ts ++ tree_onto o (map view s.behind.now) others) found ∙ sym (ap (λ vs. ts ++ vs) (trees-read os)) ∙ i

    pub tree-passed : (os : List (Option Problem)) (ts all : List Tree) → None ≡ problem_at os k
        → ts ++ trees_by (drop k os) (map section_view (drop k ss)) ≡ all → ts ++ trees_by (drop (k + 1) os) rest ≡ all
    tree-passed os ts all found i =
        ap (λ o. ts ++ tree_onto o (map view s.behind.now) (trees_by (drop (k + 1) os) rest)) found ∙ sym (ap (λ vs. ts ++ vs) (trees-read os)) ∙ i

  module _ (h : length ss ≤ k) where
    none-left : map section_view (drop k ss) ≡ []
    none-left = ap (map section_view) (drop_all k ss h)

    pub faults-done : (above : List Protocol) (o all : Option Refusal) → faults.first_onto o (faults_from above (forms_in (map section_view (drop k ss)))) ≡ all → o ≡ all
    faults-done above o all i = sym (ap (λ ts. faults.first_onto o (faults_from above (forms_in ts))) none-left) ∙ i

    pub misfits-done : (first : Place) (above : List Protocol) (o all : Option Place) → first_onto o (trees_misfits first above (map section_view (drop k ss))) ≡ all → o ≡ all
    misfits-done first above o all i = sym (ap (λ ts. first_onto o (trees_misfits first above ts)) none-left) ∙ i

    pub entries-done : (above : List Protocol) (us : List UncheckedEntry) (all : List Entry) → map unchecked_entry_view us ++ entries_from above (forms_in (map section_view (drop k ss))) ≡ all → map unchecked_entry_view us ≡ all
    entries-done above us all i =
        let xs = map unchecked_entry_view us in
        sym (append-nil xs) ∙ sym (ap (λ ts. xs ++ entries_from above (forms_in ts)) none-left) ∙ i

    no-trees : (os : List (Option Problem)) → trees_by os [] ≡ []
    no-trees [] = refl
    no-trees (o ∷ os) = refl

    pub trees-done : (os : List (Option Problem)) (ts all : List Tree) → ts ++ trees_by (drop k os) (map section_view (drop k ss)) ≡ all → ts ≡ all
    trees-done os ts all i = sym (append-nil ts) ∙ sym (ap (λ vs. ts ++ vs) (ap (trees_by (drop k os)) none-left ∙ no-trees (drop k os))) ∙ i

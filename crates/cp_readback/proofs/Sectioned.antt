-- The forms of a report, cut into sections.
use Rattle.std.proofs.Common.{◌≡◌, ℕ, ◌+◌, ◌<◌, ◌≤◌, Bool, true, false, List, [], ◌∷◌, ◌++◌, length, get_or, map, take, drop, refl, sym, ap, ◌∙◌}
use Rattle.std.specs.Prelude.{if◌then◌else◌}
use Rattle.std.proofs.lemmas.List.{drop_all, append_assoc, append-nil}
use Rattle.cp_lists.proofs.Members.{drop_read}
use Rattle.cp_sexpr.specs.Syntax.{Form}
use Rattle.cp_sexpr.specs.View.{view}
use Rattle.cp_sexpr.specs.declared.form.Form as program
use Rattle.cp_report.specs.Heads.{is_of_tree}
use Rattle.cp_report.specs.ReadBack.{Section, Sections, with_form, sections_of}
use Rattle.cp_readback.specs.InFront.{leading}
use Rattle.cp_readback.proofs.InFront.{taken}

front_by : (f : Form) (s : Sections) (b : Bool)
    → (let t : Sections = if b then record { front = f ∷ s.front; sections = s.sections } else record { front = []; sections = record { form = f; behind = s.front } ∷ s.sections } in t).front ≡ (if b then f ∷ s.front else [])
front_by f s true = refl
front_by f s false = refl

pub tree-in-front : (fs : List program.Form) → map view (take (leading is_of_tree (map view fs)) fs) ≡ (sections_of (map view fs)).front
tree-in-front [] = refl
tree-in-front (f ∷ fs) =
    let b = is_of_tree (view f) in
    taken f fs (leading is_of_tree (map view fs)) b ∙ ap (λ gs. if b then view f ∷ gs else []) (tree-in-front fs) ∙ sym (front_by (view f) (sections_of (map view fs)) b)

passed : (f : Form) (s : Sections) → true ≡ is_of_tree f → s.sections ≡ (with_form f s).sections
passed f s e = ap (λ b. (let t : Sections = if b then record { front = f ∷ s.front; sections = s.sections } else record { front = []; sections = record { form = f; behind = s.front } ∷ s.sections } in t).sections) e

started : (f : Form) (s : Sections) → false ≡ is_of_tree f → (let c : Section = record { form = f; behind = s.front } in c) ∷ s.sections ≡ (with_form f s).sections
started f s e = ap (λ b. (let t : Sections = if b then record { front = f ∷ s.front; sections = s.sections } else record { front = []; sections = record { form = f; behind = s.front } ∷ s.sections } in t).sections) e

module _ (fs : List program.Form) (k : ℕ) (f : program.Form) (h : k < length fs) (e : f ≡ get_or fs k f) (done all : List Section) where
  pub section-passed : true ≡ is_of_tree (view f) → done ++ (sections_of (map view (drop k fs))).sections ≡ all → done ++ (sections_of (map view (drop (k + 1) fs))).sections ≡ all
  section-passed t inv =
      ap (λ ss. done ++ ss) (passed (view f) (sections_of (map view (drop (k + 1) fs))) t) ∙ sym (ap (λ gs. done ++ (sections_of (map view gs)).sections) (drop_read fs k f h e)) ∙ inv

  pub section-taken : false ≡ is_of_tree (view f) → (more : List Section) (s : Section) → more ≡ done ++ s ∷ [] → s.form ≡ view f → s.behind ≡ (sections_of (map view (drop (k + 1) fs))).front
      → done ++ (sections_of (map view (drop k fs))).sections ≡ all → more ++ (sections_of (map view (drop (k + 1) fs))).sections ≡ all
  section-taken t more s is_more is_form is_behind inv =
      let same : s ≡ (let c : Section = record { form = view f; behind = (sections_of (map view (drop (k + 1) fs))).front } in c) = λ i. record { form = is_form i; behind = is_behind i } in
      ap (λ ss. ss ++ (sections_of (map view (drop (k + 1) fs))).sections) is_more ∙ append_assoc done (s ∷ []) (sections_of (map view (drop (k + 1) fs))).sections
      ∙ ap (λ c. done ++ c ∷ (sections_of (map view (drop (k + 1) fs))).sections) same ∙ ap (λ ss. done ++ ss) (started (view f) (sections_of (map view (drop (k + 1) fs))) t)
      ∙ sym (ap (λ gs. done ++ (sections_of (map view gs)).sections) (drop_read fs k f h e)) ∙ inv

pub sections-done : (fs : List program.Form) (k : ℕ) → length fs ≤ k → (done all : List Section) → done ++ (sections_of (map view (drop k fs))).sections ≡ all → done ≡ all
sections-done fs k h done all inv = sym (append-nil done) ∙ sym (ap (λ gs. done ++ (sections_of (map view gs)).sections) (drop_all k fs h)) ∙ inv

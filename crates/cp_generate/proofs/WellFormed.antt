-- The forms have no fault, and state as many problems as were asked for.
use Rattle.std.proofs.Common.{◌≡◌, ℕ, zero, suc, ◌+◌, ◌%◌, ◌==◌, List, [], ◌∷◌, ◌++◌, length, map, Bool, true, false, if◌then◌else◌, Some, refl, ap, ap₂, ◌∙◌}
use Rattle.std.specs.List.{cons_option, filter_map}
use Rattle.cp_base.specs.declared.place.Place.{Place}
use Rattle.cp_language.specs.Faults.{place_of, items_of}
use Rattle.cp_language.specs.Input.{headed_top_faults, protocols_behind, faults_from, faults_of, stated, headed_entry, entries_from, input_of}
use Rattle.cp_language.specs.Roles.{headed, items_behind, protocol_of}
use Rattle.cp_model.specs.Strand.{Protocol}
use Rattle.cp_sexpr.specs.Pieces.{start, place_after}
use Rattle.cp_sexpr.specs.Spelling.{top_spelling}
use Rattle.cp_sexpr.specs.Syntax.{Form, forms_of}
use Rattle.cp_generate.specs.Generated.{protocol_form, initiator_problem, responder_problem, problem_form, problem_forms_from, generated_forms, problem_over_protocol}
use Rattle.cp_generate.specs.Placed.{top_placed, all_placed}

abbrev protocols : List Protocol
protocols = protocol_of (items_behind (headed protocol_form)) ∷ []

-- The form has no fault, and states the same problem over the protocol as another.
record IsProblemOf (other f : Form) : Type 0 where
  faultless : headed_top_faults protocols (place_of f) (headed f) ≡ []
  behind : protocols_behind (headed f) protocols ≡ protocols
  is : stated (headed_entry protocols (headed f) f) ≡ Some (problem_over_protocol other)

problem_by : (b : Bool) (here : Place) → IsProblemOf (if b then initiator_problem else responder_problem) (top_placed here (if b then initiator_problem else responder_problem))
problem_by true here = record { faultless = refl; behind = refl; is = refl }
problem_by false here = record { faultless = refl; behind = refl; is = refl }

is_problem : (i : ℕ) (here : Place) → IsProblemOf (problem_form i) (top_placed here (problem_form i))
is_problem i here = problem_by (i % 2 == 0) here

-- the forms of the problems from this place on
abbrev forms_from : Place → ℕ → ℕ → List Form
forms_from here i n = items_of (forms_of (all_placed here (problem_forms_from i n)))

abbrev behind_problem : Place → ℕ → Place
behind_problem here i = place_after here (top_spelling (problem_form i))

problems_faultless : (n i : ℕ) (here : Place) → faults_from protocols (forms_from here i n) ≡ []
problems_faultless zero i here = refl
problems_faultless (suc n) i here =
    let p = is_problem i here in
    let rest = forms_from (behind_problem here i) (i + 1) n in
    ap₂ (λ fs ps. fs ++ faults_from ps rest) p.faultless p.behind ∙ problems_faultless n (i + 1) (behind_problem here i)

problems_stated : (n i : ℕ) (here : Place) → filter_map stated (entries_from protocols (forms_from here i n)) ≡ map problem_over_protocol (problem_forms_from i n)
problems_stated zero i here = refl
problems_stated (suc n) i here =
    let p = is_problem i here in
    let rest = forms_from (behind_problem here i) (i + 1) n in
    ap₂ (λ s ps. cons_option s (filter_map stated (entries_from ps rest))) p.is p.behind
    ∙ ap (λ ps. problem_over_protocol (problem_form i) ∷ ps) (problems_stated n (i + 1) (behind_problem here i))

problems_counted : (n i : ℕ) → length (map problem_over_protocol (problem_forms_from i n)) ≡ n
problems_counted zero i = refl
problems_counted (suc n) i = ap suc (problems_counted n (i + 1))

protocol_faultless : headed_top_faults [] start (headed (top_placed start protocol_form)) ≡ []
protocol_faultless = refl

protocol_stated : protocols_behind (headed (top_placed start protocol_form)) [] ≡ protocols
protocol_stated = refl

pub forms_faultless : (n : ℕ) → faults_of (generated_forms n) ≡ []
forms_faultless n =
    let behind = place_after start (top_spelling protocol_form) in
    ap₂ (λ fs ps. fs ++ faults_from ps (forms_from behind 0 n)) protocol_faultless protocol_stated ∙ problems_faultless n 0 behind

pub forms_stated : (n : ℕ) → filter_map stated (input_of (generated_forms n)) ≡ map problem_over_protocol (problem_forms_from 0 n)
forms_stated n =
    let behind = place_after start (top_spelling protocol_form) in
    ap (λ ps. filter_map stated (entries_from ps (forms_from behind 0 n))) protocol_stated ∙ problems_stated n 0 behind

pub forms_counted : (n : ℕ) → length (filter_map stated (input_of (generated_forms n))) ≡ n
forms_counted n = ap length (forms_stated n) ∙ problems_counted n 0

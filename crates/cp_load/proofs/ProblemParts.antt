-- The parts of problems.
use Rattle.std.proofs.Common.{◌≡◌, ℕ, ◌-◌, ◌<◌, ◌≤◌, List, [], ◌∷◌, ◌++◌, length, get_or, map, take, drop, Bool, refl, sym, ap, ◌∙◌, arith}
use Rattle.std.specs.Prelude.{Option, Some, None}
use Rattle.std.proofs.lemmas.List.{take_all}
use Rattle.cp_base.specs.declared.place.Place.{Place}
use Rattle.cp_base.specs.declared.place.Code.TheVariants.{BadShape}
use Rattle.cp_base.specs.declared.place.Refusal.{Refusal}
use Rattle.cp_model.specs.Strand.{Role, Protocol}
use Rattle.cp_model.specs.declared.variable.Declaration.{Declaration}
use Rattle.cp_model.specs.Skeleton.{SkeletonStrand, Skeleton}
use Rattle.cp_sexpr.specs.Syntax.{Form}
use Rattle.cp_sexpr.specs.View.{view}
use Rattle.cp_sexpr.specs.declared.form.Form as program
use Rattle.cp_language.specs.Faults.{fault, fault_unless}
use Rattle.cp_language.specs.Roles.{text_of_symbol, vars_faults, declarations_of}
use Rattle.cp_language.specs.Problems.{has_strand, roles_of, protocol_or_none, protocol_named, protocol_name_faults, problem_strands, body_faults, problem_faults, Problem, own_skeleton, problem_with, problem_of}
use Rattle.cp_scope.specs.FirstFault.{first_onto}
use Rattle.cp_roles.specs.MadeStrands.{AreMade}
use Rattle.cp_load.specs.Stages.{no_stage}
use Rattle.cp_scope.proofs.Firsts.{first_then_four}

pub same-roles : (o : Option Protocol) → (protocol_or_none o).roles ≡ roles_of o
same-roles None = refl
same-roles (Some p) = refl

pub remade : (p q : Protocol) (ds es : List Declaration) (body : List Form) (ss ts : List SkeletonStrand) (all other : List Declaration)
    → p ≡ q → ds ≡ es → ss ≡ ts → all ≡ other → AreMade (problem_strands p.roles ds body) ss ds all → AreMade (problem_strands q.roles es body) ts es other
remade p q ds es body ss ts all other ep ed es' ea made =
    let whole : problem_strands p.roles ds body ≡ problem_strands q.roles es body =
    ap (λ r. problem_strands r.roles ds body) ep ∙ ap (λ xs. problem_strands q.roles xs body) ed in
    record {
      same = sym es' ∙ made.same ∙ ap (λ s. s.strands) whole;
      behind = sym ea ∙ made.behind ∙ ap (λ xs. xs ++ (problem_strands p.roles ds body).fresh) ed ∙ ap (λ s. es ++ s.fresh) whole;
    }

pub bodies-same : (rs qs : List Role) (ds es : List Declaration) (ss ts : List SkeletonStrand) (body : List Form) (o : Option Refusal)
    → rs ≡ qs → ds ≡ es → ss ≡ ts → first_onto o (body_faults rs ds ss [] no_stage body) ≡ first_onto o (body_faults qs es ts [] no_stage body)
bodies-same rs qs ds es ss ts body o er ed es' =
    ap (λ x. first_onto o (body_faults x ds ss [] no_stage body)) er ∙ ap (λ x. first_onto o (body_faults qs x ss [] no_stage body)) ed
    ∙ ap (λ x. first_onto o (body_faults qs es x [] no_stage body)) es'

module _ (above : List Protocol) (at : Place) where
  pub few_items : (fs : List program.Form) → length fs < 2 → fault at BadShape ≡ problem_faults above at (map view fs)
  few_items [] l = refl
  few_items (x ∷ []) l = refl
  few_items (x ∷ y ∷ fs) l = absurd (omega arith)

  pub few_stated : (fs : List program.Form) → length fs < 2 → problem_of [] [] ≡ problem_of above (map view fs)
  few_stated [] l = refl
  few_stated (x ∷ []) l = refl
  few_stated (x ∷ y ∷ fs) l = absurd (omega arith)

  -- the faults of a problem whose items these are
  abbrev pub faults_by : Form → Form → List Form → List Role → List Declaration → List SkeletonStrand → List Refusal
  faults_by n v body roles ds strands =
      fault_unless (has_strand (v ∷ body)) at BadShape ++ protocol_name_faults above n ++ vars_faults v ++ body_faults roles ds strands [] no_stage body

  abbrev pub stated_by : Form → Form → List Form → Problem
  stated_by n v body =
      problem_with (protocol_or_none (protocol_named above (text_of_symbol n))) (declarations_of v) body
      (problem_strands (protocol_or_none (protocol_named above (text_of_symbol n))).roles (declarations_of v) body)

  abbrev pub roles_named : Form → List Role
  roles_named n = roles_of (protocol_named above (text_of_symbol n))

  abbrev pub all_by : Form → Form → List Form → List Refusal
  all_by n v body = faults_by n v body (roles_named n) (declarations_of v) (problem_strands (roles_named n) (declarations_of v) body).strands

  -- what the first two items and the others make, where they are there
  two-items : {A : Type 0} (parts : Form → Form → List Form → A) (whole : List Form → A) → ((a b : Form) (gs : List Form) → parts a b gs ≡ whole (a ∷ b ∷ gs))
      → (fs : List program.Form) (n v : program.Form) → 2 ≤ length fs → n ≡ get_or fs 0 n → v ≡ get_or fs 1 v
      → parts (view n) (view v) (map view (take (length fs - 2) (drop 2 fs))) ≡ whole (map view fs)
  two-items parts whole same [] n v l e f = absurd (omega arith)
  two-items parts whole same (x ∷ []) n v l e f = absurd (omega arith)
  two-items parts whole same (x ∷ y ∷ fs) n v l e f =
      let rest = take (length (x ∷ y ∷ fs) - 2) fs in
      ap (λ k. parts (view k) (view v) (map view rest)) e ∙ ap (λ w. parts (view x) (view w) (map view rest)) f
      ∙ ap (λ gs. parts (view x) (view y) (map view gs)) (take_all (length (x ∷ y ∷ fs) - 2) fs (omega arith)) ∙ same (view x) (view y) (map view fs)

  faults-whole : (fs : List program.Form) (n v : program.Form) → 2 ≤ length fs → n ≡ get_or fs 0 n → v ≡ get_or fs 1 v
      → all_by (view n) (view v) (map view (take (length fs - 2) (drop 2 fs))) ≡ problem_faults above at (map view fs)
  faults-whole = two-items all_by (problem_faults above at) (λ a b gs. refl)

  stated-whole : (fs : List program.Form) (n v : program.Form) → 2 ≤ length fs → n ≡ get_or fs 0 n → v ≡ get_or fs 1 v
      → stated_by (view n) (view v) (map view (take (length fs - 2) (drop 2 fs))) ≡ problem_of above (map view fs)
  stated-whole = two-items stated_by (problem_of above) (λ a b gs. refl)

  behind-first : (fs : List program.Form) (v : program.Form) → 2 ≤ length fs → v ≡ get_or fs 1 v
      → drop 1 (map view fs) ≡ view v ∷ map view (take (length fs - 2) (drop 2 fs))
  behind-first [] v l f = absurd (omega arith)
  behind-first (x ∷ []) v l f = absurd (omega arith)
  behind-first (x ∷ y ∷ fs) v l f =
      ap (λ w. view w ∷ map view fs) (sym f) ∙ ap (λ gs. view v ∷ map view gs) (sym (take_all (length (x ∷ y ∷ fs) - 2) fs (omega arith)))

  module _ (fs : List program.Form) (n v : program.Form) (l : 2 ≤ length fs) (en : n ≡ get_or fs 0 n) (ev : v ≡ get_or fs 1 v)
      (protocol : Protocol) (named : protocol ≡ protocol_or_none (protocol_named above (text_of_symbol (view n))))
      (strands : List SkeletonStrand) (ds all : List Declaration) (declared : ds ≡ declarations_of (view v))
      (made : AreMade (problem_strands protocol.roles ds (map view (take (length fs - 2) (drop 2 fs)))) strands ds all) where
    abbrev pub body : List Form
    body = map view (take (length fs - 2) (drop 2 fs))

    roles-same : protocol.roles ≡ roles_named (view n)
    roles-same = ap (λ p. p.roles) named ∙ same-roles (protocol_named above (text_of_symbol (view n)))

    made-by : problem_strands protocol.roles ds body ≡ problem_strands (protocol_or_none (protocol_named above (text_of_symbol (view n)))).roles (declarations_of (view v)) body
    made-by = ap (λ p. problem_strands p.roles ds body) named
        ∙ ap (λ xs. problem_strands (protocol_or_none (protocol_named above (text_of_symbol (view n)))).roles xs body) declared

    strands-same : strands ≡ (problem_strands (roles_named (view n)) (declarations_of (view v)) body).strands
    strands-same = made.same ∙ ap (λ s. s.strands) made-by
        ∙ ap (λ rs. (problem_strands rs (declarations_of (view v)) body).strands) (same-roles (protocol_named above (text_of_symbol (view n))))

    pub problem-read : (b : Bool) (o p q r s : Option Refusal)
        → b ≡ has_strand (drop 1 (map view fs)) → p ≡ first_onto o (fault_unless b at BadShape) → q ≡ first_onto p (protocol_name_faults above (view n))
        → r ≡ first_onto q (vars_faults (view v)) → s ≡ first_onto r (body_faults protocol.roles ds strands [] no_stage body)
        → s ≡ first_onto o (problem_faults above at (map view fs))
    problem-read b o p q r s hb hp hq hr hs =
        let there : b ≡ has_strand (view v ∷ body) = hb ∙ ap has_strand (behind-first fs v l ev) in
        first_then_four o p q r s (fault_unless b at BadShape) (protocol_name_faults above (view n)) (vars_faults (view v)) (body_faults protocol.roles ds strands [] no_stage body) hp hq hr hs
        ∙ ap (λ x. first_onto o (fault_unless x at BadShape ++ protocol_name_faults above (view n) ++ vars_faults (view v) ++ body_faults protocol.roles ds strands [] no_stage body)) there
        ∙ ap (λ rs. first_onto o (faults_by (view n) (view v) body rs ds strands)) roles-same
        ∙ ap (λ xs. first_onto o (faults_by (view n) (view v) body (roles_named (view n)) xs strands)) declared
        ∙ ap (λ ss. first_onto o (faults_by (view n) (view v) body (roles_named (view n)) (declarations_of (view v)) ss)) strands-same
        ∙ ap (first_onto o) (faults-whole fs n v l en ev)

    pub problem-stated : (variables : List Declaration) (k : Skeleton) (count : ℕ) → variables ≡ all → k ≡ own_skeleton ds strands body all → count ≡ length ds
        → (let p : Problem = record { protocol = protocol; variables = variables; declared = count; skeleton = k } in p) ≡ problem_of above (map view fs)
    problem-stated variables k count hv hk hc =
        let s = problem_strands protocol.roles ds body in
        let skeleton : k ≡ own_skeleton ds s.strands body (ds ++ s.fresh) = hk ∙ ap (λ ss. own_skeleton ds ss body all) made.same ∙ ap (own_skeleton ds s.strands body) made.behind in
        let parts : (let p : Problem = record { protocol = protocol; variables = variables; declared = count; skeleton = k } in p) ≡ problem_with protocol ds body s =
        λ i. record { protocol = protocol; variables = (hv ∙ made.behind) i; declared = hc i; skeleton = skeleton i } in
        parts ∙ ap (λ x. problem_with protocol ds body x) made-by ∙ ap (λ x. problem_with x ds body (problem_strands (protocol_or_none (protocol_named above (text_of_symbol (view n)))).roles (declarations_of (view v)) body)) named
        ∙ ap (λ xs. problem_with (protocol_or_none (protocol_named above (text_of_symbol (view n)))) xs body (problem_strands (protocol_or_none (protocol_named above (text_of_symbol (view n)))).roles (declarations_of (view v)) body)) declared
        ∙ stated-whole fs n v l en ev

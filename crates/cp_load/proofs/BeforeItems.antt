-- The items before the first of a kind.
use Rattle.std.proofs.Common.{◌≡◌, ℕ, zero, suc, ◌+◌, ◌<◌, List, [], ◌∷◌, ◌++◌, length, get_or, map, take, drop, Bool, false, if◌then◌else◌, sym, ap, ◌∙◌, arith}
use Rattle.std.proofs.lemmas.List.{append_assoc}
use Rattle.cp_lists.proofs.Members.{drop_read}
use Rattle.cp_sexpr.specs.Syntax.{Form}
use Rattle.cp_sexpr.specs.View.{view}
use Rattle.cp_sexpr.specs.declared.form.Form as program

take-more : (fs : List program.Form) (k : ℕ) (f : program.Form) → k < length fs → f ≡ get_or fs k f → take (k + 1) (map view fs) ≡ take k (map view fs) ++ view f ∷ []
take-more [] k f lt is = absurd (omega arith)
take-more (g ∷ fs) zero f lt is = ap (λ x. view x ∷ []) (sym is)
take-more (g ∷ fs) (suc k) f lt is =
    let step : suc k + 1 ≡ suc (k + 1) = omega arith in
    ap (λ n. take n (map view (g ∷ fs))) step ∙ ap (λ gs. view g ∷ gs) (take-more fs k f (omega arith) is)

-- The items before the first that passes a test.
pub before-taken : (test : Form → Bool) (before : List Form → List Form) → ((f : Form) (gs : List Form) → before (f ∷ gs) ≡ (if test f then [] else f ∷ before gs))
    → (fs : List program.Form) (k : ℕ) (f : program.Form) → k < length fs → f ≡ get_or fs k f → (all : List Form) → false ≡ test (view f)
    → take k (map view fs) ++ before (map view (drop k fs)) ≡ all → take (k + 1) (map view fs) ++ before (map view (drop (k + 1) fs)) ≡ all
before-taken test before opened fs k f lt is all e h =
    let rest = map view (drop (k + 1) fs) in
    ap (λ gs. gs ++ before rest) (take-more fs k f lt is) ∙ append_assoc (take k (map view fs)) (view f ∷ []) (before rest)
    ∙ ap (λ b. take k (map view fs) ++ (if b then [] else view f ∷ before rest)) e ∙ sym (ap (λ gs. take k (map view fs) ++ gs) (opened (view f) rest))
    ∙ sym (ap (λ gs. take k (map view fs) ++ before (map view gs)) (drop_read fs k f lt is)) ∙ h

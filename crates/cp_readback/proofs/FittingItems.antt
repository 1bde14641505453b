-- Numbers and heads of items without misfits.
use Rattle.std.proofs.Common.{◌≡◌, ℕ, List, [], ◌∷◌, Bool, true, false, refl, sym, ap, ◌∙◌}
use Rattle.std.specs.Prelude.{Some, if◌then◌else◌}
use Rattle.cp_sexpr.specs.Syntax.{Form, number, symbol, string, list}
use Rattle.cp_language.specs.Problems.{number_of}
use Rattle.cp_report.specs.Misfits.{number_misfits}
use Rattle.cp_report.specs.Heads.{has_head, item_with}
use Rattle.cp_report.proofs.NoMisfits.{holds}

-- ---- numbers and heads

-- A number without misfits passes the test.
pub number_fits : (test : ℕ → Bool) (f : Form) → number_misfits test f ≡ [] → test (number_of f) ≡ true
number_fits test (symbol at t) e = absurd (cc)
number_fits test (string at t) e = absurd (cc)
number_fits test (number at n) e = holds (test n) at e
number_fits test (list at fs) e = absurd (cc)

-- An item that is found has one of the heads.
pub head_found : (heads : List (List ℕ)) (fs : List Form) (f : Form) → item_with heads fs ≡ Some f → has_head heads f ≡ true
head_found heads [] f e = absurd (cc)
head_found heads (g ∷ fs) f e = by (has_head heads g) refl e (head_found heads fs f)
  where
    by : (b : Bool) → has_head heads g ≡ b → (if b then Some g else item_with heads fs) ≡ Some f → (item_with heads fs ≡ Some f → has_head heads f ≡ true) → has_head heads f ≡ true
    by true h q rest = let same : g ≡ f = cc in sym (ap (has_head heads) same) ∙ h
    by false h q rest = rest q

-- What a list with too few items lacks.
use Rattle.std.proofs.Common.{◌≡◌, ℕ, zero, suc, List, [], ◌∷◌, length, map, ap, ◌∙◌, arith}
use Rattle.std.specs.Prelude.{nat_le}
use Rattle.std.proofs.Math.Dec.{leb-suc-zero, leb-suc-suc}
use Rattle.std.proofs.lemmas.Bool.{le-leb}
use Rattle.cp_base.specs.declared.place.Place.{Place}
use Rattle.cp_base.specs.declared.place.Code.TheVariants.{BadShape}
use Rattle.cp_sexpr.specs.View.{view}
use Rattle.cp_sexpr.specs.declared.form.Form as program
use Rattle.cp_language.specs.Faults.{fault_unless}
use Rattle.cp_language.specs.Terms.{lacks}

pub lacks-is : (n : ℕ) (at : Place) (fs : List program.Form) → fault_unless (nat_le n (length fs)) at BadShape ≡ lacks n at (map view fs)
lacks-is zero at fs = ap (λ b. fault_unless b at BadShape) (le-leb 0 (length fs) (omega arith))
lacks-is (suc n) at [] = ap (λ b. fault_unless b at BadShape) (leb-suc-zero n)
lacks-is (suc n) at (f ∷ fs) = ap (λ b. fault_unless b at BadShape) (leb-suc-suc n (length fs)) ∙ lacks-is n at fs

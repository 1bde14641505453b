-- The value of a call of which two facts are known, under a function.
use Rattle.std.proofs.Common.{◌≡◌, IfOk}
use Rattle.std.specs.Result.{MatchResult, IsOkAnd}
use Rattle.std.specs.declared.result.Result.{Result}
use Rattle.std.specs.declared.result.Result.TheVariants.{Ok, Err}
use Rattle.cp_lists.proofs.Collected.{if_mapped}

if_both : {T E : Type 0} (P Q : T → Type 0) (r : Result T E) → IfOk r P → IfOk r Q → IfOk r (λ x. P x × Q x)
if_both P Q (Ok x) p q = (p, q)
if_both P Q (Err e) p q = tt

pub if_both_mapped : {T U E : Type 0} {P Q : T → Type 0} {R : T → U → Type 0} {S : U → Type 0} (r : Result T E) (s : Result U E) → ((x : T) (y : U) → P x → Q x → R x y → S y) → IfOk r P → IfOk r Q
    → MatchResult r (λ x. IsOkAnd s (R x)) (λ e. s ≡ Err e) → IfOk s S
if_both_mapped {P = P} {Q = Q} r s step p q cases = if_mapped r s (λ x y both k. step x y both.0 both.1 k) (if_both P Q r p q) cases

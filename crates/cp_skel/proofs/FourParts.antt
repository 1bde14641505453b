-- A map from a problem that is made of four parts, each of which may fail to be made.
use Rattle.std.proofs.Common.{IfOk}
use Rattle.std.specs.Result.{IsOkAnd}
use Rattle.std.specs.declared.result.Result.{Result}
use Rattle.std.specs.declared.result.Result.TheVariants.{Ok, Err}
use Rattle.cp_skel.proofs.ThreeLists.{both_said}

-- What is said of the first and the last part is said of the map, where the others are there.
pub of_first_and_last : {K N V E H D : Type 0} {P : K → Type 0} {S : N → Type 0} {X : V → K → Type 0} {U : V → N → Type 0} {Y Z W : V → Type 0}
    (x : Result K E) (w : Result N H) (r : Result V D) →
    IfOk x P → IfOk w S →
    IfOk r (λ a. IsOkAnd x (X a)) → IfOk r Y → IfOk r Z → IfOk r (λ a. IsOkAnd w (U a)) →
    ((k : K) (n : N) (a : V) → P k → S n → X a k → Y a → Z a → U a n → W a) → IfOk r W
of_first_and_last x w (Err e) p t h i j u f = tt
of_first_and_last x w (Ok a) p t h i j u f =
    let first = both_said x p h in
    let fourth = both_said w t u in
    f first.0 fourth.0 a first.1 fourth.1 first.2 i j fourth.2

-- What is said of the second part is said of the map, where the others are there.
pub of_second : {L V F D : Type 0} {Q : L → Type 0} {Y : V → L → Type 0} {X Z U W : V → Type 0}
    (y : Result L F) (r : Result V D) →
    IfOk y Q →
    IfOk r X → IfOk r (λ a. IsOkAnd y (Y a)) → IfOk r Z → IfOk r U →
    ((l : L) (a : V) → Q l → X a → Y a l → Z a → U a → W a) → IfOk r W
of_second y (Err e) q h i j u f = tt
of_second y (Ok a) q h i j u f =
    let second = both_said y q i in
    f second.0 a second.1 h second.2 j u

-- A source is read piece by piece.
use Rattle.std.proofs.Common.{◌≡◌, ◌≢◌, ℕ, ◌+◌, ◌<◌, ◌≤◌, Bool, false, List, [], ◌++◌, length, take, drop, Option, Some, Result, Ok, Err, refl, sym, ap, ◌∙◌, append_assoc, length-append, arith}
use Rattle.std.proofs.lemmas.List.{take-append-drop, take-append-le, append-nil}
use Rattle.std.specs.Result.{IsErrAnd, IfErr}
use Rattle.std.proofs.lemmas.List.Prefix.{front_rest}
use Rattle.cp_lists.proofs.Fronts.{take-front}
use Rattle.cp_base.specs.declared.status.Failed.{Failed}
use Rattle.cp_base.specs.Outside.{Moved, StaysOpen, Takes}
use Rattle.cp_app.specs.Headline.{most_bytes}
use Rattle.cp_app.specs.Endings.{TookAtMost, WasTooLong}
use Rattle.cp_app.specs.Steps.{HasStoppedReading}
use Rattle.cp_app.specs.declared.stopped.Stopped.{Stopped}
use Rattle.cp_app.specs.declared.stopped.Stopped.TheVariants.{Memory}

-- these bytes were taken from the front of the input, and the rest is left
pub record Took (bytes input : List ℕ) (left_new : Option (List ℕ)) : Type 0 where
  pub rest : List ℕ
  pub cut : input ≡ bytes ++ rest
  pub left : left_new ≡ Some rest

-- the same, where the source tells what it holds
abbrev pub TookFrom : List ℕ → Option (List ℕ) → Option (List ℕ) → Type 0
TookFrom bytes left_old left_new = (input : List ℕ) → left_old ≡ Some input → Took bytes input left_new

pub TookFrom-begin : (left : Option (List ℕ)) → TookFrom [] left left
TookFrom-begin left input is = record { rest = input; cut = refl; left = is }

-- what one call moves
pub Takes-ok : (left_old left_new : Option (List ℕ)) (rest buf_old buf_new : List ℕ) (n : ℕ) → Takes left_old left_new buf_old buf_new (Ok n) → left_old ≡ Some rest → Moved rest left_new buf_old buf_new n
Takes-ok left_old left_new rest buf_old buf_new n takes is = rw is at takes

pub Takes-err : (left_old left_new : Option (List ℕ)) (rest buf_old buf_new : List ℕ) (failed : Failed) → Takes left_old left_new buf_old buf_new (Err failed) → left_old ≡ Some rest → left_new ≡ Some rest
Takes-err left_old left_new rest buf_old buf_new failed takes is = rw is at takes

pub TookFrom-more : (bytes buf_old buf_new : List ℕ) (n : ℕ) (left_old left_middle left_new : Option (List ℕ)) → TookFrom bytes left_old left_middle → Takes left_middle left_new buf_old buf_new (Ok n)
    → TookFrom (bytes ++ take n buf_new) left_old left_new
TookFrom-more bytes buf_old buf_new n left_old left_middle left_new took takes input is =
    let before = took input is in
    let moved = Takes-ok left_middle left_new before.rest buf_old buf_new n takes before.left in
    let taken : take n buf_new ≡ take n before.rest = ap (λ xs. take n xs) moved.front ∙ take-front n before.rest (drop n buf_old) moved.within in
    record {
      rest = drop n before.rest;
      cut = before.cut ∙ ap (λ xs. bytes ++ xs) (sym (take-append-drop n before.rest) ∙ ap (λ xs. xs ++ drop n before.rest) (sym taken)) ∙ sym (append_assoc bytes (take n buf_new) (drop n before.rest));
      left = moved.rest;
    }

pub TookFrom-end : (bytes buf_old buf_new : List ℕ) (n : ℕ) (left_old left_middle left_new : Option (List ℕ)) → TookFrom bytes left_old left_middle → Takes left_middle left_new buf_old buf_new (Ok n)
    → n ≡ 0 → buf_old ≢ [] → (input : List ℕ) → left_old ≡ Some input → (bytes ≡ input) × (left_new ≡ Some [])
TookFrom-end bytes buf_old buf_new n left_old left_middle left_new took takes none some input is =
    let before = took input is in
    let moved = Takes-ok left_middle left_new before.rest buf_old buf_new n takes before.left in
    let ended = moved.at_end none some in
    (sym (before.cut ∙ ap (λ xs. bytes ++ xs) ended ∙ append-nil bytes), moved.rest ∙ ap (λ k. Some (drop k before.rest)) none ∙ ap (λ xs. Some xs) ended)

pub TookFrom-at_most : (bytes : List ℕ) (left_old left_new : Option (List ℕ)) → TookFrom bytes left_old left_new → length bytes ≤ most_bytes + 1 → (input : List ℕ) → left_old ≡ Some input → TookAtMost input left_new
TookFrom-at_most bytes left_old left_new took short input is =
    let before = took input is in
    (length bytes, short, before.left ∙ ap (λ xs. Some xs) (sym (front_rest input bytes before.rest before.cut)))

pub TookFrom-failed : (bytes buf_old buf_new : List ℕ) (failed : Failed) (left_old left_middle left_new : Option (List ℕ)) → TookFrom bytes left_old left_middle → Takes left_middle left_new buf_old buf_new (Err failed)
    → TookFrom bytes left_old left_new
TookFrom-failed bytes buf_old buf_new failed left_old left_middle left_new took takes input is =
    let before = took input is in
    record { rest = before.rest; cut = before.cut; left = Takes-err left_middle left_new before.rest buf_old buf_new failed takes before.left }

pub TookFrom-too_long : (bytes : List ℕ) (left_old left_new : Option (List ℕ)) → TookFrom bytes left_old left_new → length bytes ≤ most_bytes + 1 → most_bytes < length bytes
    → (input : List ℕ) → left_old ≡ Some input → WasTooLong input left_new
TookFrom-too_long bytes left_old left_new took short long input is =
    let before = took input is in
    let whole : length input ≡ length bytes + length before.rest = ap length before.cut ∙ length-append bytes before.rest in
    let count : length bytes ≡ most_bytes + 1 = omega arith in
    record {
      long = omega arith;
      left = before.left ∙ ap (λ xs. Some xs) (sym (front_rest input bytes before.rest before.cut)) ∙ ap (λ n. Some (drop n input)) count;
    }

-- the bytes with what one call gave, which the buffer may hold before others
pub TookFrom-extended : (bytes extended buf_old buf_new others : List ℕ) (n : ℕ) (left_old left_middle left_new : Option (List ℕ)) → TookFrom bytes left_old left_middle
    → Takes left_middle left_new buf_old buf_new (Ok n) → n ≤ length buf_new → extended ≡ bytes ++ take n (buf_new ++ others) → TookFrom extended left_old left_new
TookFrom-extended bytes extended buf_old buf_new others n left_old left_middle left_new took takes within is =
    let same : bytes ++ take n buf_new ≡ extended = ap (λ xs. bytes ++ xs) (sym (take-append-le n buf_new others within)) ∙ sym is in
    rw same at (TookFrom-more bytes buf_old buf_new n left_old left_middle left_new took takes)

-- memory may run out at any time
pub HasStopped-memory : {A : Type 0} (result : Result A Stopped) (input : List ℕ) (left_new : Option (List ℕ)) → IsErrAnd result (λ cause. cause ≡ Memory) → TookAtMost input left_new → IfErr result (HasStoppedReading input left_new)
HasStopped-memory (Ok x) input left_new memory took = absurd memory
HasStopped-memory (Err cause) input left_new memory took = rw memory took

pub not_empty : (xs : List ℕ) → 0 < length xs → xs ≢ []
not_empty xs some none = let e = ap length none in absurd (omega arith)

-- a source that had not said that it is at its end has not said so since, and each call was needed
abbrev pub OpenSoFar : Bool → Bool → ℕ → ℕ → Type 0
OpenSoFar ended_old ended_new needless_old needless_new = ended_old ≡ false → (ended_new ≡ false) × (needless_new ≡ needless_old)

pub needed_so_far : {ended_old ended_now : Bool} {old now new : ℕ} → OpenSoFar ended_old ended_now old now → (ended_now ≡ false → new ≡ now) → ended_old ≡ false → new ≡ old
needed_so_far so_far needed is = needed (so_far is).0 ∙ (so_far is).1

-- the same after a call that gave some bytes
pub OpenSoFar-more : (n : ℕ) (ended_old ended_now ended_new : Bool) (old now new : ℕ) → OpenSoFar ended_old ended_now old now → (ended_now ≡ false → new ≡ now)
    → StaysOpen ended_now ended_new (Ok n) → n ≢ 0 → OpenSoFar ended_old ended_new old new
OpenSoFar-more n ended_old ended_now ended_new old now new so_far needed open_still gave is =
    (open_still (so_far is).0 (λ (e : Ok n ≡ Ok 0). gave (let same : n ≡ 0 = cc in same)), needed_so_far so_far needed is)

-- A text is put piece by piece.
use Rattle.std.proofs.Common.{◌≡◌, ℕ, ◌+◌, ◌<◌, ◌≤◌, Bor, get_or, map, add-one, List, [], ◌++◌, length, take, drop, Option, Some, Result, Ok, Err, refl, sym, ap, ◌∙◌, append_assoc, length-append, arith}
use Rattle.std.specs.List.{concat}
use Rattle.std.specs.Result.{IsErr}
use Rattle.std.proofs.lemmas.List.{take-append-le, append-nil}
use Rattle.std.proofs.Math.Seq.{take-append-add, drop-cons}
use Rattle.cp_base.specs.declared.status.Failed.{Failed}
use Rattle.cp_base.specs.Outside.{Puts}
use Rattle.cp_app.specs.Steps.{HasPut}

-- a front of the text was put, and this rest of it was not
pub record PutUpTo (text rest : List ℕ) (held_old held_new : Option (List ℕ)) : Type 0 where
  pub front : List ℕ
  pub cut : text ≡ front ++ rest
  pub held : (before : List ℕ) → held_old ≡ Some before → held_new ≡ Some (before ++ front)

pub PutUpTo-begin : (text : List ℕ) (held : Option (List ℕ)) → PutUpTo text text held held
PutUpTo-begin text held = record { front = []; cut = refl; held = λ before is. is ∙ ap (λ bs. Some bs) (sym (append-nil before)) }

pub PutUpTo-more : (text rest part after : List ℕ) (held_old held_middle held_new : Option (List ℕ)) → PutUpTo text rest held_old held_middle → rest ≡ part ++ after
    → ((before : List ℕ) → held_middle ≡ Some before → held_new ≡ Some (before ++ part)) → PutUpTo text after held_old held_new
PutUpTo-more text rest part after held_old held_middle held_new done split put = record {
  front = done.front ++ part;
  cut = done.cut ∙ ap (λ xs. done.front ++ xs) split ∙ sym (append_assoc done.front part after);
  held = λ before is. put (before ++ done.front) (done.held before is) ∙ ap (λ bs. Some bs) (append_assoc before done.front part);
}

pub PutUpTo-all : (text rest : List ℕ) (held_old held_new : Option (List ℕ)) → PutUpTo text rest held_old held_new → rest ≡ [] → (before : List ℕ) → held_old ≡ Some before → held_new ≡ Some (before ++ text)
PutUpTo-all text rest held_old held_new done empty before is =
    let whole : text ≡ done.front = done.cut ∙ ap (λ xs. done.front ++ xs) empty ∙ append-nil done.front in
    done.held before is ∙ ap (λ xs. Some (before ++ xs)) (sym whole)

pub PutUpTo-stop : (text rest part after : List ℕ) (held_old held_middle held_new : Option (List ℕ)) → PutUpTo text rest held_old held_middle → rest ≡ part ++ after
    → ((before : List ℕ) → held_middle ≡ Some before → (n : ℕ) × (n < length part) × (held_new ≡ Some (before ++ take n part)))
    → (before : List ℕ) → held_old ≡ Some before → (n : ℕ) × (n < length text) × (held_new ≡ Some (before ++ take n text))
PutUpTo-stop text rest part after held_old held_middle held_new done split put before is =
    let stopped = put (before ++ done.front) (done.held before is) in
    let whole : text ≡ done.front ++ (part ++ after) = done.cut ∙ ap (λ xs. done.front ++ xs) split in
    let long : length text ≡ length done.front + (length part + length after) = ap length whole ∙ length-append done.front (part ++ after) ∙ ap (λ n. length done.front + n) (length-append part after) in
    let shorter : stopped.0 < length part = stopped.1 in
    let within : stopped.0 ≤ length part = omega (arith, shorter) in
    let taken : done.front ++ take stopped.0 part ≡ take (length done.front + stopped.0) text =
    ap (λ xs. done.front ++ xs) (sym (take-append-le stopped.0 part after within)) ∙ sym (take-append-add done.front (part ++ after) stopped.0)
    ∙ ap (λ xs. take (length done.front + stopped.0) xs) (sym whole) in (
      length done.front + stopped.0,
      omega (arith, long, shorter),
      stopped.2 ∙ ap (λ bs. Some bs) (append_assoc before done.front (take stopped.0 part)) ∙ ap (λ xs. Some (before ++ xs)) taken,
    )

-- what one call puts
pub Puts-ok : (held_old held_new : Option (List ℕ)) (piece before : List ℕ) (n : ℕ) → Puts held_old held_new piece (Ok n) → held_old ≡ Some before → held_new ≡ Some (before ++ take n piece)
Puts-ok held_old held_new piece before n puts is = rw is at puts

pub Puts-err : (held_old held_new : Option (List ℕ)) (piece before : List ℕ) (failed : Failed) → Puts held_old held_new piece (Err failed) → held_old ≡ Some before → held_new ≡ Some before
Puts-err held_old held_new piece before failed puts is = rw is at puts

pub Puts-none : (held_old held_new : Option (List ℕ)) (piece before : List ℕ) (failed : Failed) → 0 < length piece → Puts held_old held_new piece (Err failed) → held_old ≡ Some before
    → (n : ℕ) × (n < length piece) × (held_new ≡ Some (before ++ take n piece))
Puts-none held_old held_new piece before failed some puts is = (0, some, Puts-err held_old held_new piece before failed puts is ∙ ap (λ bs. Some bs) (sym (append-nil before)))

-- what a call that puts a whole text puts
pub HasPut-err : (before text : List ℕ) (held_new : Option (List ℕ)) (result : Result (Unit {0}) Failed) → IsErr result → (n : ℕ) × (n < length text) × (held_new ≡ Some (before ++ take n text)) → HasPut before text held_new result
HasPut-err before text held_new (Ok u) is_err put = absurd (cc)
HasPut-err before text held_new (Err failed) is_err put = put

-- the last piece is put
pub PutUpTo-last : (text rest : List ℕ) (held_old held_middle held_new : Option (List ℕ)) (result : Result (Unit {0}) Failed) → PutUpTo text rest held_old held_middle
    → ((before : List ℕ) → held_middle ≡ Some before → HasPut before rest held_new result) → (before : List ℕ) → held_old ≡ Some before → HasPut before text held_new result
PutUpTo-last text rest held_old held_middle held_new (Ok u) done put before is =
    put (before ++ done.front) (done.held before is) ∙ ap (λ bs. Some bs) (append_assoc before done.front rest) ∙ ap (λ xs. Some (before ++ xs)) (sym done.cut)
PutUpTo-last text rest held_old held_middle held_new (Err failed) done put before is =
    PutUpTo-stop text rest rest [] held_old held_middle held_new done (sym (append-nil rest)) put before is

-- the pieces from the one at i on
pub next_piece : (pieces : List (Bor (List ℕ))) (i : ℕ) (d : Bor (List ℕ)) → i < length pieces
    → concat (map (λ piece. piece.now) (drop i pieces)) ≡ (get_or pieces i d).now ++ concat (map (λ piece. piece.now) (drop (i + 1) pieces))
next_piece pieces i d within = rw add-one (ap (λ xs. concat (map (λ piece. piece.now) xs)) (drop-cons pieces i d within))

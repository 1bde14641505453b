-- Results that are handed on.
use Rattle.std.specs.Prelude.{Result, Ok, Err, OnOk}

-- What holds where it went well.
pub when_ok : {T E : Type 0} (r : Result T E) {P Q : Type 0} → (P → Q) → OnOk r P → OnOk r Q
when_ok (Ok x) f h = f h
when_ok (Err e) f h = h

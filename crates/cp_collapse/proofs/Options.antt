-- An answer that is none, or has a property.
use Rattle.std.proofs.Common.{Option, None, Some}
use Rattle.std.specs.Prelude.{MatchOption}

pub option_weaker : {A : Type 0} (o : Option A) (none none' : Type 0) (some some' : A → Type 0) → (none → none') → ((x : A) → some x → some' x) → MatchOption o none some → MatchOption o none' some'
option_weaker None none none' some some' f g h = f h
option_weaker (Some x) none none' some some' f g h = g x h

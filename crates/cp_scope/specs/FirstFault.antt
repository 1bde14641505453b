-- The first of the faults met so far.
use Rattle.std.specs.Prelude.{List, Bool, Option}
use Rattle.cp_base.specs.declared.place.Refusal.{Refusal}
use Rattle.cp_language.specs.FirstFault.{refusal_before}
use Rattle.cp_scope.specs.FirstOf as first

-- The first of a fault and those before it; of two that are equal the one before.
abbrev pub earlier_of : Option Refusal → Refusal → Refusal
earlier_of before r = first.earlier_of refusal_before before r

-- The first of these faults and those before them.
abbrev pub first_onto : Option Refusal → List Refusal → Option Refusal
first_onto before rs = first.first_onto refusal_before before rs

-- The first of a fault and those before it, or these if there is none.
abbrev pub merged : Option Refusal → Option Refusal → Option Refusal
merged before found = first.merged refusal_before before found

-- The first of these faults, or the one before them if there is one.
abbrev pub onto_none : Option Refusal → List Refusal → Option Refusal
onto_none before rs = first.onto_none refusal_before before rs

-- Whether there was a fault before, and this one does not come before it.
abbrev pub stands_before : Option Refusal → Refusal → Bool
stands_before before r = first.stands_before refusal_before before r

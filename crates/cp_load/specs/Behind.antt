-- Pairs behind a fault that was met before.
use Rattle.std.specs.Prelude.{◌&&◌, Bool, Option}
use Rattle.cp_base.specs.declared.place.Place.{Place}
use Rattle.cp_base.specs.declared.place.Code.TheVariants.{BadNode, CyclicOrder}
use Rattle.cp_base.specs.declared.place.Refusal.{Refusal}
use Rattle.cp_sexpr.specs.Syntax.{Form}
use Rattle.cp_language.specs.Faults.{place_of}
use Rattle.cp_scope.specs.FirstFault.{stands_before}

-- A fault was met, and neither a cycle at this place nor a wrong direction at one of the two nodes comes before it.
abbrev pub is_behind_fault : Option Refusal → Place → Form → Form → Bool
is_behind_fault before at f g =
    stands_before before (record { place = at; code = CyclicOrder }) && stands_before before (record { place = place_of f; code = BadNode })
    && stands_before before (record { place = place_of g; code = BadNode })

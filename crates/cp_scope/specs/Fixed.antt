-- Lists at fixed places.
use Rattle.std.specs.Prelude.{List, [], Option, Some, None}
use Rattle.cp_base.specs.declared.place.Place.{Place}
use Rattle.cp_base.specs.declared.place.Refusal.{Refusal}
use Rattle.cp_sexpr.specs.Syntax.{Form}
use Rattle.cp_language.specs.Roles.{Headed}

-- The faults inside a list, if it stands there.
abbrev pub faults_inside : (Place → List Form → List Refusal) → Option Headed → List Refusal
faults_inside inside None = []
faults_inside inside (Some h) = inside h.at h.items

-- The directions of events, and the numbers of nodes.
use Rattle.std.specs.Prelude.{ℕ, List, [], Option, Some, None}
use Rattle.cp_base.specs.declared.place.Refusal.{Refusal}
use Rattle.cp_model.specs.Term.{Term}
use Rattle.cp_model.specs.declared.strand.Event.{Event}
use Rattle.cp_model.specs.declared.strand.Event.TheVariants.{Send as send, Receive as recv}
use Rattle.cp_sexpr.specs.Syntax.{Form, symbol, string, number, list}
use Rattle.cp_language.specs.Problems.{number_faults}
use Rattle.cp_load.specs.declared.nodes.Direction.{Direction}
use Rattle.cp_load.specs.declared.nodes.Direction.TheVariants.{Transmission, Reception}

abbrev pub direction_of : Option (Event Term) → Option Direction
direction_of None = None
direction_of (Some (send m)) = Some Transmission
direction_of (Some (recv m)) = Some Reception

-- The number that a form is.
abbrev pub number_form : Option Form → Option ℕ
number_form None = None
number_form (Some (symbol at t)) = None
number_form (Some (string at t)) = None
number_form (Some (number at n)) = Some n
number_form (Some (list at fs)) = None

abbrev pub number_faults_if : Option Form → List Refusal
number_faults_if None = []
number_faults_if (Some f) = number_faults f

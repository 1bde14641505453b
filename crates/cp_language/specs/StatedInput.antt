-- What is made of forms: the protocols that they state; and the input, or the first fault of one that is not well formed.
use Rattle.std.specs.Prelude.{◌≡◌, List, [], ◌∷◌, ◌++◌, Result, Ok, Err}
use Rattle.cp_base.specs.declared.place.Refusal.{Refusal}
use Rattle.cp_model.specs.Strand.{Protocol}
use Rattle.cp_sexpr.specs.Syntax.{Form, Forms}
use Rattle.cp_language.specs.Faults.{items_of}
use Rattle.cp_language.specs.FirstFault.{IsFirstFault}
use Rattle.cp_language.specs.Roles.{headed}
use Rattle.cp_language.specs.Input.{protocols_behind, faults_of, Entry, input_of}

-- The protocols that the forms state, in order.
abbrev pub protocols_in : List Form → List Protocol
protocols_in [] = []
protocols_in (f ∷ fs) = protocols_behind (headed f) [] ++ protocols_in fs

abbrev pub protocols_of : Forms → List Protocol
protocols_of fs = protocols_in (items_of fs)

-- Forms are well formed when they have no fault; otherwise the first of their faults is answered.
abbrev pub IsInput : Forms → Result (List Entry) Refusal → Type 0
IsInput fs (Ok entries) = (faults_of fs ≡ []) × (entries ≡ input_of fs)
IsInput fs (Err r) = IsFirstFault (faults_of fs) r

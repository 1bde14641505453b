-- Events and traces under substitutions and assignments.
use Rattle.std.proofs.Common.{◌≡◌, List, [], ◌∷◌, map, refl, ap}
use Rattle.cp_model.specs.Term.{Term, Assignment, value_of, Substitution, apply_to, after}
use Rattle.cp_model.specs.Strand.{Event, send, recv, payload, event_map}
use Rattle.cp_model.proofs.LawTerms.{value_after}

-- The events of a value trace.
pub event_after : (g : Assignment) (s : Substitution) (e : Event Term) → event_map (value_of (after g s)) e ≡ event_map (value_of g) (event_map (apply_to s) e)
event_after g s (send t) = ap send (value_after g s t)
event_after g s (recv t) = ap recv (value_after g s t)

pub trace_after : (g : Assignment) (s : Substitution) (es : List (Event Term)) → map (event_map (value_of (after g s))) es ≡ map (event_map (value_of g)) (map (event_map (apply_to s)) es)
trace_after g s [] = refl
trace_after g s (e ∷ es) = λ i. event_after g s e i ∷ trace_after g s es i

pub payload_map : {A B : Type 0} (f : A → B) (e : Event A) → payload (event_map f e) ≡ f (payload e)
payload_map f (send t) = refl
payload_map f (recv t) = refl

-- The first events of a role in which its variables occur.
use Rattle.std.specs.Prelude.{◌≡◌, ℕ, List, map, Bool, false, nat_lt, Option, Some, None}
use Rattle.std.specs.List.{enumerate_from, position_from}
use Rattle.cp_lists.specs.Lists.{item_at}
use Rattle.cp_model.specs.declared.variable.Declaration.{Declaration}
use Rattle.cp_model.specs.declared.variable.Variable.{Variable}
use Rattle.cp_model.specs.declared.strand.Event.{Event}
use Rattle.cp_model.specs.Term.{Term, variables_of}
use Rattle.cp_model.specs.Strand.{Role, payload, variables_of_prefix}
use Rattle.cp_model.specs.Same.{has_variable}

-- The index of the first event in which the variable occurs, if it occurs in one.
abbrev pub first_event : List (Event Term) → Variable → Option ℕ
first_event events x = position_from (λ e. has_variable (variables_of (payload e)) x) 0 events

-- That index for each declared variable.
abbrev pub first_events : List Declaration → List (Event Term) → List (Option ℕ)
first_events variables events = map (λ d. first_event events (record { sort = d.1.sort; number = d.0 })) (enumerate_from 0 variables)

-- An event with this index, if there is one, is in the prefix of this height.
abbrev pub is_reached : Option ℕ → ℕ → Bool
is_reached None height = false
is_reached (Some index) height = nat_lt index height

-- Each declared variable that has an entry occurs in those prefixes of the role that reach the event with that index.
abbrev pub AreFirstEvents : Role → List (Option ℕ) → Type 0
AreFirstEvents role firsts =
    (n : ℕ) (d : Declaration) (first : Option ℕ) → item_at role.variables n ≡ Some d → item_at firsts n ≡ Some first
    → (height : ℕ) → has_variable (variables_of_prefix role height) (record { sort = d.sort; number = n }) ≡ is_reached first height

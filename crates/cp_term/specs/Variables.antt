-- The variable of a sort and number as a term, its value, and which variables a substitution changes.
use Rattle.std.specs.Prelude.{◌≡◌, ◌<◌, ℕ}
use Rattle.cp_model.specs.Message.{Message, atom, text, datum, name, key, symmetric, asymmetric}
use Rattle.cp_model.specs.Term.{Term, variable_term, Assignment, Substitution, apply_to}
use Rattle.cp_model.specs.declared.sort.Sort.{Sort}
use Rattle.cp_model.specs.declared.sort.Sort.TheVariants.{Text, Datum, Name, Skey, Akey}

-- The variable of this sort and number, as a term.
abbrev pub variable_of_sort : Sort → ℕ → Term
variable_of_sort sort n = variable_term (record { sort = sort; number = n })

-- What an assignment gives to the variable of this sort and number.
abbrev pub value_of_variable : Assignment → Sort → ℕ → Message
value_of_variable g Text n = atom (text (g.texts n))
value_of_variable g Datum n = atom (datum (g.datums n))
value_of_variable g Name n = atom (name (g.names n))
value_of_variable g Skey n = atom (key (symmetric (g.skeys n)))
value_of_variable g Akey n = atom (key (asymmetric (g.akeys n).0 (g.akeys n).1))

-- The substitution changes no variable whose number is below this one.
abbrev pub KeepsBelow : ℕ → Substitution → Type 0
KeepsBelow least s = (sort : Sort) (n : ℕ) → n < least → apply_to s (variable_of_sort sort n) ≡ variable_of_sort sort n

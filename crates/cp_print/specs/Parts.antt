-- Parts of terms.
use Rattle.std.specs.Prelude.{ℕ, List, [], ◌∷◌, Bool, true, false, codes, Option, Some, None}
use Rattle.cp_model.specs.Term.{Term, tag_term, atom_term, pair_term, enc_term}
use Rattle.cp_sexpr.specs.Syntax.{Form, string}
use Rattle.cp_language.specs.Printed.{no_place}

-- The purpose of a name's key, if there is one.
abbrev pub purpose_items : Option (List ℕ) → List Form
purpose_items None = []
purpose_items (Some purpose) = string no_place purpose ∷ []

-- The word for the private or public key of a name.
abbrev pub name_key_word : Bool → List ℕ
name_key_word true = codes "privk"
name_key_word false = codes "pubk"

abbrev pub is_pair_term : Term → Bool
is_pair_term (tag_term t) = false
is_pair_term (atom_term a) = false
is_pair_term (pair_term a b) = true
is_pair_term (enc_term a k) = false

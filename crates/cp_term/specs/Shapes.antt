-- What a term is made of, one level deep.
use Rattle.std.specs.Prelude.{◌≡◌, true}
use Rattle.std.specs.Option.{option_map}
use Rattle.cp_model.specs.Term.{akey_variable, pubk_term, ltk_term, KeyTerm, symmetric_term, asymmetric_term, Term, tag_term, pair_term, enc_term}
use Rattle.cp_term.specs.Keys.{key_as_term}
use Rattle.cp_term.specs.Variables.{variable_of_sort}
use Rattle.cp_term.specs.declared.shape.Shape.{Shape}
use Rattle.cp_term.specs.declared.shape.Shape.TheVariants.{Tag, Variable, Inverse, Ltk, Pubk, Pair, Encryption}

-- The term is made so, of these parts.
abbrev pub HasShape : Shape → Term → Type 0
HasShape (Tag text) t = t ≡ tag_term text.now
HasShape (Variable n sort) t = t ≡ variable_of_sort sort n
HasShape (Inverse n) t = t ≡ key_as_term (asymmetric_term true (akey_variable n))
HasShape (Ltk a b) t = t ≡ key_as_term (symmetric_term (ltk_term a b))
HasShape (Pubk flag purpose a) t = t ≡ key_as_term (asymmetric_term flag (pubk_term (option_map (λ text. text.now) purpose) a))
HasShape (Pair left right) t = t ≡ pair_term left.now right.now
HasShape (Encryption body key) t = (k : KeyTerm) × (key.now ≡ key_as_term k) × (t ≡ enc_term body.now k)

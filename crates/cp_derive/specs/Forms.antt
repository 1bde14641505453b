-- The form of a term.
use Rattle.std.specs.Prelude.{◌≡◌, ℕ, List}
use Rattle.cp_model.specs.Term.{AtomTerm, KeyTerm, Term, tag_term, atom_term, pair_term, enc_term}
use Rattle.cp_term.specs.Keys.{key_as_term}
use Rattle.cp_derive.specs.declared.form.Form.{Form}
use Rattle.cp_derive.specs.declared.form.Form.TheVariants.{Tag, Atom, Pair, Encryption}

-- The term is of this form, with these parts.
abbrev pub HasForm : Form → Term → Type 0
HasForm Tag t = (bytes : List ℕ) × (t ≡ tag_term bytes)
HasForm Atom t = (a : AtomTerm) × (t ≡ atom_term a)
HasForm (Pair left right) t = t ≡ pair_term left.now right.now
HasForm (Encryption body key) t = (k : KeyTerm) × (key.now ≡ key_as_term k) × (t ≡ enc_term body.now k)

-- The parts of terms.
use Rattle.std.specs.Prelude.{◌≡◌}
use Rattle.cp_model.specs.Term.{KeyTerm, Term, pair_term, enc_term}
use Rattle.cp_term.specs.Keys.{key_as_term}
use Rattle.cp_term.specs.Spines.{HasTail}
use Rattle.cp_term.specs.declared.parts.Parts.{Parts}
use Rattle.cp_term.specs.declared.parts.Parts.TheVariants.{Leaf, Pair, Encryption}

-- The term has these parts, or none.
abbrev pub HasParts : Parts → Term → Type 0
HasParts Leaf t = HasTail t → ⊥
HasParts (Pair left right) t = t ≡ pair_term left.now right.now
HasParts (Encryption body key) t = (k : KeyTerm) × (key.now ≡ key_as_term k) × (t ≡ enc_term body.now k)

-- Sizes of terms.
use Rattle.std.specs.Prelude.{ℕ, ◌+◌}
use Rattle.cp_model.specs.Term.{Term, tag_term, atom_term, pair_term, enc_term}

-- The size of a term: it is greater than that of each part, an encryption's key included.
abbrev pub term_size : Term → ℕ
term_size (tag_term bytes) = 1
term_size (atom_term a) = 1
term_size (pair_term a b) = term_size a + term_size b + 1
term_size (enc_term a k) = term_size a + 2

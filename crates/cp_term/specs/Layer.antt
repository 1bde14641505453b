-- Nodes of terms.
use Rattle.cp_model.specs.Term.{skey_variable, ltk_term, akey_variable, pubk_term, symmetric_term, asymmetric_term, text_variable, datum_variable, name_variable, Term, tag_term, atom_term, pair_term, enc_term}
use Rattle.cp_term.specs.Keys.{key_as_term, IsKey, key_of}
use Rattle.cp_term.specs.declared.term.Node.{Node}
use Rattle.cp_term.specs.declared.term.Node.TheVariants.{Tag, TextVariable, DatumVariable, NameVariable, SkeyVariable, AkeyVariable, Ltk, Pubk, Pair, Encryption}

-- The term that a node is seen as.
abbrev pub term_of_node : Node → Term
term_of_node (Tag text) = tag_term text
term_of_node (TextVariable n) = atom_term (text_variable n)
term_of_node (DatumVariable n) = atom_term (datum_variable n)
term_of_node (NameVariable n) = atom_term (name_variable n)
term_of_node (SkeyVariable n) = key_as_term (symmetric_term (skey_variable n))
term_of_node (AkeyVariable flag n) = key_as_term (asymmetric_term flag (akey_variable n))
term_of_node (Ltk a b) = key_as_term (symmetric_term (ltk_term a b))
term_of_node (Pubk flag purpose a) = key_as_term (asymmetric_term flag (pubk_term purpose a))
term_of_node (Pair left right) = pair_term left right
term_of_node (Encryption body key) = enc_term body (key_of key)

-- The key of an encryption is a key.
abbrev pub IsWellSorted : Node → Type 0
IsWellSorted (Encryption body key) = IsKey key
IsWellSorted _ = Unit {0}

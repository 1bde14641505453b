-- Patterns.
use Rattle.std.specs.Prelude.{◌≡◌}
use Rattle.cp_lists.specs.Lists.{IsIn}
use Rattle.cp_model.specs.Term.{Variable, KeyTerm, Term, enc_term, variables_of}
use Rattle.cp_model.specs.Tree.{Pattern}

-- The term is an encryption.
pub record IsEncryption (t : Term) : Type 0 where
  pub body : Term
  pub key : KeyTerm
  pub encrypted : t ≡ enc_term body key

-- The term is an encryption, and each local is a variable of it.
pub record IsPattern (p : Pattern) : Type 0 where
  pub encryption : IsEncryption p.term
  pub locals_occur : (x : Variable) → IsIn x p.locals → IsIn x (variables_of p.term)

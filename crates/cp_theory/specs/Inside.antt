-- Positions inside the patterns: those that an encryption encloses which a pattern matches.
use Rattle.std.specs.Prelude.{◌≡◌, List, Some, Bool, true}
use Rattle.cp_lists.specs.Lists.{IsIn}
use Rattle.cp_model.specs.Message.{Key, Message, enc}
use Rattle.cp_model.specs.Term.{Term, Assignment, value_of, Substitution}
use Rattle.cp_model.specs.Tree.{Pattern}
use Rattle.cp_model.specs.declared.step.Step.{Step}
use Rattle.cp_model.specs.Positions.{term_at}
use Rattle.cp_theory.specs.Above.{encryptions_above}
use Rattle.cp_theory.specs.Matches.{Matches, MatchesMessage}

-- A carried position of a term is inside the patterns, under a substitution of their other variables: some proper enclosing
-- encryption matches one.
pub record IsInside (ps : List Pattern) (s : Substitution) (t : Term) (path : List Step) : Type 0 where
  pub encryption : Term
  pub above : IsIn encryption (encryptions_above t path)
  pub pattern : Pattern
  pub listed : IsIn pattern ps
  pub matches : Matches pattern s encryption

-- The term carries c inside the patterns alone: each carried position at which it stands is inside.
abbrev pub CarriesInsideAlone : List Pattern → Substitution → Term → Term → Type 0
CarriesInsideAlone ps s c t = (path : List Step) → term_at t path ≡ Some c → IsInside ps s t path

-- The patterns protect a message, where their other variables have the values that g gives them: one matches it.
pub record IsProtected (ps : List Pattern) (g : Assignment) (m : Message) : Type 0 where
  pub pattern : Pattern
  pub listed : IsIn pattern ps
  pub matches : MatchesMessage pattern g m

-- The values bring a carried position of a term inside the patterns: the value that g gives to some proper enclosing
-- encryption is protected, where the patterns' other variables have the values that f gives them.
pub record IsBroughtInside (ps : List Pattern) (f g : Assignment) (t : Term) (path : List Step) : Type 0 where
  pub encryption : Term
  pub above : IsIn encryption (encryptions_above t path)
  pub protected : IsProtected ps f (value_of g encryption)

-- The test tells which encryptions, of a plaintext under a key, the patterns protect.
pub record TellsProtected (ps : List Pattern) (g : Assignment) (test : Message → Key → Bool) : Type 0 where
  pub sound : (x : Message) (k : Key) → test x k ≡ true → IsProtected ps g (enc x k)
  pub complete : (x : Message) (k : Key) → IsProtected ps g (enc x k) → test x k ≡ true

-- Opening what was sent, step by step: what each step keeps.
use Rattle.std.specs.Prelude.{◌⊎◌, ℕ, ◌+◌, ◌≤◌, List}
use Rattle.std.specs.List.{sum_by}
use Rattle.cp_lists.specs.Lists.{IsIn}
use Rattle.cp_model.specs.Term.{KeyTerm, inverse_term, Term, enc_term}
use Rattle.cp_term.specs.Keys.{key_as_term}
use Rattle.cp_term.specs.Size.{term_size}
use Rattle.cp_derive.specs.Given.{Given, IsDerivable}
use Rattle.cp_derive.specs.Buildable.{Builds}
use Rattle.cp_derive.specs.declared.opened_terms.Locked.{Locked}
use Rattle.cp_derive.specs.declared.opened_terms.Opening.{Opening}

-- How much is still locked.
abbrev pub weight_of : Locked → ℕ
weight_of l = term_size l.body + 1

abbrev pub weight : Opening → ℕ
weight o = sum_by weight_of o.locked.items

-- The plaintext of an encryption under this key, locked.
abbrev pub locked_of : Term → KeyTerm → Locked
locked_of a k = record { body = a; inverse = key_as_term (inverse_term k) }

-- All that is held can be derived, and what is locked where its key can be.
pub record IsSoundOpening (g : Given) (o : Opening) : Type 0 where
  pub held : (t : Term) → IsIn t o.held.items → IsDerivable g t
  pub locked : (l : Locked) → IsIn l o.locked.items → IsDerivable g l.inverse → IsDerivable g l.body

-- The plaintext of an encryption can be built or is locked.
abbrev pub IsOpenOrLocked : List Term → Opening → Term → KeyTerm → Type 0
IsOpenOrLocked secrets o a k = Builds secrets o.held.items a ⊎ IsIn (locked_of a k) o.locked.items

-- So it is for each encryption that is held.
abbrev pub AreOpenOrLocked : List Term → Opening → Type 0
AreOpenOrLocked secrets o = (a : Term) (k : KeyTerm) → IsIn (enc_term a k) o.held.items → IsOpenOrLocked secrets o a k

-- A term is taken apart: then it can be built, nothing is lost, what is new can be derived from it, and each new
-- encryption is open or locked.
pub record TakesApart (secrets : List Term) (t : Term) (old new : Opening) : Type 0 where
  pub builds : Builds secrets new.held.items t
  pub held_more : (x : Term) → IsIn x old.held.items → IsIn x new.held.items
  pub locked_more : (l : Locked) → IsIn l old.locked.items → IsIn l new.locked.items
  pub sound : (sent : List Term) → IsSoundOpening (record { sent = sent; secrets = secrets }) old → IsDerivable (record { sent = sent; secrets = secrets }) t → IsSoundOpening (record { sent = sent; secrets = secrets }) new
  pub opened : (a : Term) (k : KeyTerm) → IsIn (enc_term a k) new.held.items → IsIn (enc_term a k) old.held.items ⊎ IsOpenOrLocked secrets new a k
  pub weighs : weight new ≤ weight old + term_size t

-- What was locked is opened: nothing held is lost, what is new can be derived, and each encryption stays open or locked.
pub record Advances (secrets : List Term) (old new : Opening) : Type 0 where
  pub held_more : (x : Term) → IsIn x old.held.items → IsIn x new.held.items
  pub sound : (sent : List Term) → IsSoundOpening (record { sent = sent; secrets = secrets }) old → IsSoundOpening (record { sent = sent; secrets = secrets }) new
  pub opened : AreOpenOrLocked secrets old → AreOpenOrLocked secrets new

-- Nothing that is locked has a key that can be built.
abbrev pub AreLocked : List Term → Opening → Type 0
AreLocked secrets o = (l : Locked) → IsIn l o.locked.items → Builds secrets o.held.items l.inverse → ⊥

-- All that is held can be derived from whatever lists hold what was sent, each encryption is open or locked, and what
-- was sent can be built.
pub record IsCovered (sent secrets : List Term) (o : Opening) : Type 0 where
  pub sound : (whole : List Term) → ((t : Term) → IsIn t sent → IsIn t whole) → IsSoundOpening (record { sent = whole; secrets = secrets }) o
  pub opened : AreOpenOrLocked secrets o
  pub builds : (t : Term) → IsIn t sent → Builds secrets o.held.items t

-- What was sent is opened as far as it can be.
pub record IsOpened (sent secrets : List Term) (o : Opening) : Type 0 where
  pub covered : IsCovered sent secrets o
  pub locked : AreLocked secrets o

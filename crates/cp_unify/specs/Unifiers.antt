-- Most general unifiers.
use Rattle.std.specs.Prelude.{◌≡◌, ◌<◌, ℕ, List, [], ◌∷◌, ◌++◌}
use Rattle.cp_lists.specs.Lists.{IsIn}
use Rattle.cp_model.specs.Term.{SymmetricTerm, skey_variable, ltk_term, PairTerm, akey_variable, pubk_term, KeyTerm, symmetric_term, asymmetric_term, AtomTerm, text_variable, datum_variable, name_variable, key_term, Term, tag_term, atom_term, pair_term, enc_term, variable_term, variables_of, Assignment, value_of, Substitution, apply_to}
use Rattle.cp_model.specs.declared.variable.Variable.{Variable}
use Rattle.cp_unify.specs.Bindings.{Binding, Meets, as_substitution, variables_of_bindings}

-- The symmetric key, where it is a variable, is one with a smaller number than x, so one that was made before.
abbrev pub IsBeforeSymmetric : SymmetricTerm → ℕ → Type 0
IsBeforeSymmetric (skey_variable n) x = n < x
IsBeforeSymmetric (ltk_term a b) x = Unit {0}

-- The key pair, where it is that of a variable, is that of one with a smaller number than x.
abbrev pub IsBeforePair : PairTerm → ℕ → Type 0
IsBeforePair (akey_variable n) x = n < x
IsBeforePair (pubk_term purpose a) x = Unit {0}

-- The key, where it is a variable or the inverse of one, is of one with a smaller number than x.
abbrev pub IsBeforeKey : KeyTerm → ℕ → Type 0
IsBeforeKey (symmetric_term k) x = IsBeforeSymmetric k x
IsBeforeKey (asymmetric_term flag k) x = IsBeforePair k x

-- The term of an atom sort, where it is a variable or the inverse of one, is of one with a smaller number than x.
abbrev pub IsBeforeAtom : AtomTerm → ℕ → Type 0
IsBeforeAtom (text_variable n) x = n < x
IsBeforeAtom (datum_variable n) x = n < x
IsBeforeAtom (name_variable n) x = n < x
IsBeforeAtom (key_term k) x = IsBeforeKey k x

-- The term, where it is a variable or the inverse of one, is of one with a smaller number than x.
abbrev pub IsBefore : Term → ℕ → Type 0
IsBefore (atom_term u) x = IsBeforeAtom u x
IsBefore (tag_term bytes) x = Unit {0}
IsBefore (pair_term a b) x = Unit {0}
IsBefore (enc_term a k) x = Unit {0}

-- Each binding is of a later variable to an earlier one, or to the inverse of an earlier one, or to another term.
abbrev pub AreLaterToEarlier : List Binding → Type 0
AreLaterToEarlier [] = Unit {0}
AreLaterToEarlier (b ∷ bs) = IsBefore b.term b.variable.number × AreLaterToEarlier bs

-- Each of these variables is one of those.
abbrev pub AreVariablesAmong : List Variable → List Variable → Type 0
AreVariablesAmong xs ys = (x : Variable) → IsIn x xs → IsIn x ys

-- The substitution makes both sides of each binding equal.
abbrev pub Solves : Substitution → List Binding → Type 0
Solves s [] = Unit {0}
Solves s (b ∷ bs) = (apply_to s (variable_term b.variable) ≡ apply_to s b.term) × Solves s bs

-- Some assignment meets the bindings.
pub record IsSolvable (r : List Binding) : Type 0 where
  pub solution : Assignment
  pub meets : Meets solution r

-- r is a most general unifier of a and b beside the bindings s: the assignments that meet it are those that meet s
-- and give a and b the same value, and there are some; and what a substitution does that solves s and makes a and b
-- equal, it also does after r. Applied as a substitution r makes a and b equal, and both sides of each binding of s,
-- and applied twice it does what it does once. It has no variables but those of a, b and s, and binds later variables
-- to earlier ones.
pub record IsMostGeneralUnifier (a b : Term) (s r : List Binding) : Type 0 where
  pub sound : (g : Assignment) → Meets g r → Meets g s × (value_of g a ≡ value_of g b)
  pub general : (g : Assignment) → Meets g s → value_of g a ≡ value_of g b → Meets g r
  pub solvable : IsSolvable r
  pub factors : (t : Substitution) → Solves t s → apply_to t a ≡ apply_to t b → (u : Term) → apply_to t (apply_to (as_substitution r) u) ≡ apply_to t u
  pub unifies : apply_to (as_substitution r) a ≡ apply_to (as_substitution r) b
  pub solves_given : Solves (as_substitution r) s
  pub idempotent : (t : Term) → apply_to (as_substitution r) (apply_to (as_substitution r) t) ≡ apply_to (as_substitution r) t
  pub no_new : AreVariablesAmong (variables_of_bindings r) (variables_of a ++ (variables_of b ++ variables_of_bindings s))
  pub later_to_earlier : AreLaterToEarlier r

-- No assignment meets s and gives a and b the same value.
abbrev pub HasNoUnifier : Term → Term → List Binding → Type 0
HasNoUnifier a b s = (g : Assignment) → Meets g s → value_of g a ≡ value_of g b → ⊥

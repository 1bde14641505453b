-- Variables as terms and as atoms: what gives two variables one term gives them one atom, and the same of their values.
use Rattle.std.proofs.Common.{◌≡◌, List, ap}
use Rattle.cp_lists.specs.Lists.{IsIn}
use Rattle.cp_model.specs.Message.{Atom, atom}
use Rattle.cp_model.specs.Term.{Variable, AtomTerm, atom_term, atom_of_variable, variable_term, Assignment, value_of_atom, value_of, AgreeOn, Substitution, apply_to_atom, apply_to, AgreeOnTerms}

pub same_atoms : {a b : Atom} → atom a ≡ atom b → a ≡ b
same_atoms e = cc

pub same_atom_terms : {v w : AtomTerm} → atom_term v ≡ atom_term w → v ≡ w
same_atom_terms e = cc

-- Values of variables.
pub atom_values : (g h : Assignment) (x y : Variable) → value_of g (variable_term x) ≡ value_of h (variable_term y) → value_of_atom g (atom_of_variable x) ≡ value_of_atom h (atom_of_variable y)
atom_values g h x y e = same_atoms e

pub message_values : (g h : Assignment) (x y : Variable) → value_of_atom g (atom_of_variable x) ≡ value_of_atom h (atom_of_variable y) → value_of g (variable_term x) ≡ value_of h (variable_term y)
message_values g h x y e = ap atom e

-- Terms of variables under substitutions.
pub applied_atoms : (s t : Substitution) (x y : Variable) → apply_to s (variable_term x) ≡ apply_to t (variable_term y) → apply_to_atom s (atom_of_variable x) ≡ apply_to_atom t (atom_of_variable y)
applied_atoms s t x y e = same_atom_terms e

pub applied_terms : (s t : Substitution) (x y : Variable) → apply_to_atom s (atom_of_variable x) ≡ apply_to_atom t (atom_of_variable y) → apply_to s (variable_term x) ≡ apply_to t (variable_term y)
applied_terms s t x y e = ap atom_term e

pub unchanged_atom : (s : Substitution) (x : Variable) → apply_to s (variable_term x) ≡ variable_term x → apply_to_atom s (atom_of_variable x) ≡ atom_of_variable x
unchanged_atom s x e = same_atom_terms e

pub unchanged_term : (s : Substitution) (x : Variable) → apply_to_atom s (atom_of_variable x) ≡ atom_of_variable x → apply_to s (variable_term x) ≡ variable_term x
unchanged_term s x e = ap atom_term e

-- Agreement on variables, by their atoms.
pub agree_atoms : (xs : List Variable) (g h : Assignment) → AgreeOn xs g h → (x : Variable) → IsIn x xs → value_of_atom g (atom_of_variable x) ≡ value_of_atom h (atom_of_variable x)
agree_atoms xs g h agree x i = same_atoms (agree x i)

pub agree_by_atoms : (xs : List Variable) (g h : Assignment) → ((x : Variable) → IsIn x xs → value_of_atom g (atom_of_variable x) ≡ value_of_atom h (atom_of_variable x)) → AgreeOn xs g h
agree_by_atoms xs g h same x i = ap atom (same x i)

pub agree_atom_terms : (xs : List Variable) (s t : Substitution) → AgreeOnTerms xs s t → (x : Variable) → IsIn x xs → apply_to_atom s (atom_of_variable x) ≡ apply_to_atom t (atom_of_variable x)
agree_atom_terms xs s t agree x i = same_atom_terms (agree x i)

pub agree_by_atom_terms : (xs : List Variable) (s t : Substitution) → ((x : Variable) → IsIn x xs → apply_to_atom s (atom_of_variable x) ≡ apply_to_atom t (atom_of_variable x)) → AgreeOnTerms xs s t
agree_by_atom_terms xs s t same x i = ap atom_term (same x i)

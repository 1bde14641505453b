-- Substitutions that are given by lists of terms.
use Rattle.std.specs.Prelude.{ℕ, List, Option, Some, Bool, false}
use Rattle.cp_lists.specs.Lists.{item_at}
use Rattle.cp_model.specs.Term.{text_variable, datum_variable, name_variable, key_term, symmetric_term, asymmetric_term, SymmetricTerm, skey_variable, PairTerm, akey_variable, Term, atom_term, Substitution}

-- The substitution that gives variable number i the i-th term of a list, if that is of its sort.
abbrev pub text_in : ℕ → Option Term → ℕ
text_in n (Some (atom_term (text_variable m))) = m
text_in n _ = n

abbrev pub datum_in : ℕ → Option Term → ℕ
datum_in n (Some (atom_term (datum_variable m))) = m
datum_in n _ = n

abbrev pub name_in : ℕ → Option Term → ℕ
name_in n (Some (atom_term (name_variable m))) = m
name_in n _ = n

abbrev pub skey_in : ℕ → Option Term → SymmetricTerm
skey_in n (Some (atom_term (key_term (symmetric_term k)))) = k
skey_in n _ = skey_variable n

abbrev pub akey_in : ℕ → Option Term → Bool × PairTerm
akey_in n (Some (atom_term (key_term (asymmetric_term flag k)))) = (flag, k)
akey_in n _ = (false, akey_variable n)

abbrev pub substitution_by : List Term → Substitution
substitution_by ts = record {
  texts = λ n. text_in n (item_at ts n);
  datums = λ n. datum_in n (item_at ts n);
  names = λ n. name_in n (item_at ts n);
  skeys = λ n. skey_in n (item_at ts n);
  akeys = λ n. akey_in n (item_at ts n);
}

-- The substitution that leaves every term as it is.
use Rattle.std.specs.Prelude.{false}
use Rattle.cp_model.specs.Term.{skey_variable, akey_variable, Substitution}

-- The substitution that changes nothing.
abbrev pub unchanged : Substitution
unchanged = record {
  texts = λ n. n;
  datums = λ n. n;
  names = λ n. n;
  skeys = skey_variable;
  akeys = λ n. (false, akey_variable n);
}

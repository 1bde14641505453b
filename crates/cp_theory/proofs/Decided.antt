-- Whether a pattern matches a message is decidable: the values of the locals are read off the message.
use Rattle.std.proofs.Common.{◌≡◌, ℕ, List, [], ◌∷◌, map, Option, Some, Bool, true, false, refl, sym, ap, ◌∙◌, subst, ◌⊎◌, ⊎_elim, inl, inr, eq-eqb}
use Rattle.std.specs.Prelude.{◌&&◌, ◌==◌, if◌then◌else◌}
use Rattle.std.proofs.lemmas.Bool.{and_from}
use Rattle.cp_lists.specs.Lists.{IsIn, here, there}
use Rattle.cp_lists.proofs.Members.{head_or_behind, not_in_none}
use Rattle.cp_model.proofs.CarriedParts.{not_both}
use Rattle.cp_model.specs.Message.{SymmetricKey, KeyPair, Key, symmetric, asymmetric, Atom, text, datum, name, key, Message, enc}
use Rattle.cp_model.specs.Term.{atom_of_variable, variables_of, Assignment, value_of_atom, value_of, variable_term}
use Rattle.cp_model.specs.declared.sort.Sort.{Sort}
use Rattle.cp_model.specs.declared.sort.Sort.TheVariants.{Text as text_sort, Datum as datum_sort, Name as name_sort, Skey as skey_sort, Akey as akey_sort}
use Rattle.cp_model.specs.declared.variable.Variable.{Variable}
use Rattle.cp_model.specs.Same.{same_sort, has_variable}
use Rattle.cp_model.specs.Tree.{Pattern}
use Rattle.cp_model.proofs.SameTests.{variable_is, variable_in, in_has_variable, same_sort_itself}
use Rattle.cp_model.proofs.LawMessages.{dec_message}
use Rattle.cp_model.proofs.LawAgreement.{agree_value}
use Rattle.cp_theory.specs.Matches.{IsFreeIn, MatchesMessage}
use Rattle.cp_theory.specs.Inside.{IsProtected, TellsProtected}
use Rattle.cp_theory.proofs.Read.{Reading, readings, valued, readings_of_value, atom_for}

abbrev same_variable : Variable → Variable → Bool
same_variable x y = same_sort x.sort y.sort && (x.number == y.number)

same_itself : (x : Variable) → same_variable x x ≡ true
same_itself x = and_from (same_sort x.sort x.sort) (x.number == x.number) (same_sort_itself x.sort) (eq-eqb x.number x.number refl)

behind : (y x : Variable) (xs : List Variable) → same_variable y x ≡ false → (x ≡ y) ⊎ IsIn x xs → IsIn x xs
behind y x xs e (inl p) = absurd (not_both (subst (λ (z : Variable). same_variable y z ≡ false) p e) (same_itself y))
behind y x xs e (inr q) = q

-- Where each variable has its value, that is what is read for it.
found : (f : Assignment) (y x : Variable) (xs : List Variable) (b : Bool) → same_variable y x ≡ b → IsIn x (y ∷ xs) → (IsIn x xs → atom_for (map (valued f) xs) x ≡ Some (value_of_atom f (atom_of_variable x))) →
    (if b then Some (value_of_atom f (atom_of_variable y)) else atom_for (map (valued f) xs) x) ≡ Some (value_of_atom f (atom_of_variable x))
found f y x xs true e p rest = ap (λ (z : Variable). Some (value_of_atom f (atom_of_variable z))) (variable_is y x e)
found f y x xs false e p rest = rest (behind y x xs e (head_or_behind p))

finds : (f : Assignment) (xs : List Variable) (x : Variable) → IsIn x xs → atom_for (map (valued f) xs) x ≡ Some (value_of_atom f (atom_of_variable x))
finds f [] x p = absurd (not_in_none p)
finds f (y ∷ xs) x p = found f y x xs (same_variable y x) refl p (finds f xs x)

-- What an atom gives a variable of each sort, if it is of that.
abbrev text_or : ℕ → Option Atom → ℕ
text_or n (Some (text m)) = m
text_or n _ = n

abbrev datum_or : ℕ → Option Atom → ℕ
datum_or n (Some (datum m)) = m
datum_or n _ = n

abbrev name_or : ℕ → Option Atom → ℕ
name_or n (Some (name m)) = m
name_or n _ = n

abbrev skey_or : SymmetricKey → Option Atom → SymmetricKey
skey_or k (Some (key (symmetric j))) = j
skey_or k _ = k

abbrev akey_or : Bool × KeyPair → Option Atom → Bool × KeyPair
akey_or k (Some (key (asymmetric e j))) = (e, j)
akey_or k _ = k

abbrev variable : Sort → ℕ → Variable
variable s n = record { sort = s; number = n }

-- The assignment with the locals as they are read.
abbrev filled_by : List Reading → (Variable → Bool) → Assignment → Assignment
filled_by rs local g = record {
  texts = λ n. if local (variable text_sort n) then text_or (g.texts n) (atom_for rs (variable text_sort n)) else g.texts n;
  datums = λ n. if local (variable datum_sort n) then datum_or (g.datums n) (atom_for rs (variable datum_sort n)) else g.datums n;
  names = λ n. if local (variable name_sort n) then name_or (g.names n) (atom_for rs (variable name_sort n)) else g.names n;
  skeys = λ n. if local (variable skey_sort n) then skey_or (g.skeys n) (atom_for rs (variable skey_sort n)) else g.skeys n;
  akeys = λ n. if local (variable akey_sort n) then akey_or (g.akeys n) (atom_for rs (variable akey_sort n)) else g.akeys n;
}

-- Another variable keeps its value.
kept : (rs : List Reading) (local : Variable → Bool) (g : Assignment) (s : Sort) (n : ℕ) → local (variable s n) ≡ false →
    value_of (filled_by rs local g) (variable_term (variable s n)) ≡ value_of g (variable_term (variable s n))
kept rs local g text_sort n e = rw e refl
kept rs local g datum_sort n e = rw e refl
kept rs local g name_sort n e = rw e refl
kept rs local g skey_sort n e = rw e refl
kept rs local g akey_sort n e = rw e refl

-- A local has what is read for it, where that is a value of it.
read_back : (rs : List Reading) (local : Variable → Bool) (g f : Assignment) (s : Sort) (n : ℕ) → local (variable s n) ≡ true → atom_for rs (variable s n) ≡ Some (value_of_atom f (atom_of_variable (variable s n))) →
    value_of (filled_by rs local g) (variable_term (variable s n)) ≡ value_of f (variable_term (variable s n))
read_back rs local g f text_sort n e r = rw e (rw r refl)
read_back rs local g f datum_sort n e r = rw e (rw r refl)
read_back rs local g f name_sort n e r = rw e (rw r refl)
read_back rs local g f skey_sort n e r = rw e (rw r refl)
read_back rs local g f akey_sort n e r = rw e (rw r refl)

abbrev tried : Pattern → Assignment → Message → Assignment
tried p g m = filled_by (readings p.term m) (has_variable p.locals) g

not_in : (xs : List Variable) (x : Variable) (b : Bool) → has_variable xs x ≡ b → (IsIn x xs → ⊥) → has_variable xs x ≡ false
not_in xs x true e n = absurd (n (variable_in xs x e))
not_in xs x false e n = e

as_said : (p : Pattern) (g : Assignment) (m : Message) (x : Variable) → IsFreeIn x p → value_of (tried p g m) (variable_term x) ≡ value_of g (variable_term x)
as_said p g m x free = kept (readings p.term m) (has_variable p.locals) g x.sort x.number (not_in p.locals x (has_variable p.locals x) refl free.no_local)

not_local : (xs : List Variable) (x : Variable) → has_variable xs x ≡ false → IsIn x xs → ⊥
not_local xs x e i = not_both e (in_has_variable xs x i)

-- Where the pattern matches, it does with what is read.
module _ (p : Pattern) (g : Assignment) (m : Message) (matches : MatchesMessage p g m) where
  read : (x : Variable) → IsIn x (variables_of p.term) → atom_for (readings p.term m) x ≡ Some (value_of_atom matches.filled (atom_of_variable x))
  read x i = subst (λ (w : Message). atom_for (readings p.term w) x ≡ Some (value_of_atom matches.filled (atom_of_variable x))) matches.same
      (ap (λ (rs : List Reading). atom_for rs x) (readings_of_value matches.filled p.term) ∙ finds matches.filled (variables_of p.term) x i)

  agree : (x : Variable) (b : Bool) → has_variable p.locals x ≡ b → IsIn x (variables_of p.term) → value_of (tried p g m) (variable_term x) ≡ value_of matches.filled (variable_term x)
  agree x true e i = read_back (readings p.term m) (has_variable p.locals) g matches.filled x.sort x.number e (read x i)
  agree x false e i = kept (readings p.term m) (has_variable p.locals) g x.sort x.number e ∙ sym (matches.as_said x (record { occurs = i; no_local = not_local p.locals x e }))

  same_value : value_of (tried p g m) p.term ≡ m
  same_value = agree_value (tried p g m) matches.filled p.term (λ x i. agree x (has_variable p.locals x) refl i) ∙ matches.same

dec_from : (p : Pattern) (g : Assignment) (m : Message) → Dec (value_of (tried p g m) p.term ≡ m) → Dec (MatchesMessage p g m)
dec_from p g m (yes e) = yes (record { filled = tried p g m; as_said = as_said p g m; same = e })
dec_from p g m (no n) = no (λ matches. n (same_value p g m matches))

pub dec_matches : (p : Pattern) (g : Assignment) (m : Message) → Dec (MatchesMessage p g m)
dec_matches p g m = dec_from p g m (dec_message (value_of (tried p g m) p.term) m)

dec_more : (p : Pattern) (ps : List Pattern) (g : Assignment) (m : Message) → Dec (MatchesMessage p g m) → Dec (IsProtected ps g m) → Dec (IsProtected (p ∷ ps) g m)
dec_more p ps g m (yes d) rest = yes (record { pattern = p; listed = here; matches = d })
dec_more p ps g m (no n) (yes r) = yes (record { pattern = r.pattern; listed = there r.listed; matches = r.matches })
dec_more p ps g m (no n) (no q) = no (λ r. ⊎_elim (λ (e : r.pattern ≡ p). n (subst (λ (z : Pattern). MatchesMessage z g m) e r.matches)) (λ i. q (record { pattern = r.pattern; listed = i; matches = r.matches })) (head_or_behind r.listed))

dec_protected : (ps : List Pattern) (g : Assignment) (m : Message) → Dec (IsProtected ps g m)
dec_protected [] g m = no (λ r. not_in_none r.listed)
dec_protected (p ∷ ps) g m = dec_more p ps g m (dec_matches p g m) (dec_protected ps g m)

abbrev is_yes : {A : Type 0} → Dec A → Bool
is_yes (yes a) = true
is_yes (no n) = false

from_true : {A : Type 0} (d : Dec A) → is_yes d ≡ true → A
from_true (yes a) e = a
from_true (no n) e = absurd (cc)

to_true : {A : Type 0} (d : Dec A) → A → is_yes d ≡ true
to_true (yes b) a = refl
to_true (no n) a = absurd (n a)

-- So there is a test of what the patterns protect.
pub protection_test : (ps : List Pattern) (g : Assignment) → (test : Message → Key → Bool) × TellsProtected ps g test
protection_test ps g = (
  λ x k. is_yes (dec_protected ps g (enc x k)),
  record {
    sound = λ x k e. from_true (dec_protected ps g (enc x k)) e;
    complete = λ x k p. to_true (dec_protected ps g (enc x k)) p;
  },
)

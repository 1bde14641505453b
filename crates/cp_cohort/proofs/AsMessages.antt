-- Terms as messages, each variable being the atom with its number: so a pattern matches a term where it matches that message.
use Rattle.std.proofs.Common.{◌≡◌, List, [], ◌∷◌, Bool, true, false, refl, sym, ap, ap₂, ◌∙◌, subst, ⊎_elim}
use Rattle.cp_lists.specs.Lists.{here, there}
use Rattle.cp_lists.proofs.Members.{head_or_behind, not_in_none}
use Rattle.cp_model.specs.Message.{symmetric, asymmetric, key}
use Rattle.cp_model.specs.Term.{SymmetricTerm, skey_variable, ltk_term, PairTerm, akey_variable, pubk_term, symmetric_term, asymmetric_term, AtomTerm, text_variable, datum_variable, name_variable, key_term, Term, tag_term, atom_term, pair_term, enc_term, Assignment, value_of_atom, value_of, Substitution, apply_to_atom, apply_to, after, variable_term}
use Rattle.cp_model.specs.Tree.{Pattern}
use Rattle.cp_model.proofs.LawTerms.{value_after}
use Rattle.cp_term.specs.Code.{own_numbers, atom_from, term_from, term_back}
use Rattle.cp_theory.specs.Matches.{Matches, MatchesMessage}
use Rattle.cp_theory.proofs.Decided.{dec_matches}
use Rattle.cp_cohort.specs.Candidates.{OneMatches}

-- The key that an atom is, without what says that it is one.
abbrev symmetric_of : AtomTerm → SymmetricTerm
symmetric_of (key_term (symmetric_term k)) = k
symmetric_of _ = skey_variable 0

abbrev pair_of : AtomTerm → PairTerm
pair_of (key_term (asymmetric_term flag k)) = k
pair_of _ = akey_variable 0

-- A term encrypted by it.
abbrev encrypted_by : Term → AtomTerm → Term
encrypted_by t (key_term k) = enc_term t k
encrypted_by t _ = t

-- An assignment as a substitution: each term is the value, as a term.
abbrev as_substitution : Assignment → Substitution
as_substitution f = record {
  texts = f.texts;
  datums = f.datums;
  names = f.names;
  skeys = λ n. symmetric_of (atom_from (key (symmetric (f.skeys n))));
  akeys = λ n. ((f.akeys n).0, pair_of (atom_from (key (asymmetric false (f.akeys n).1))));
}

atom_value : (f : Assignment) (a : AtomTerm) → apply_to_atom (as_substitution f) a ≡ atom_from (value_of_atom f a)
atom_value f (text_variable n) = refl
atom_value f (datum_variable n) = refl
atom_value f (name_variable n) = refl
atom_value f (key_term (symmetric_term (skey_variable n))) = refl
atom_value f (key_term (symmetric_term (ltk_term a b))) = refl
atom_value f (key_term (asymmetric_term flag (akey_variable n))) = refl
atom_value f (key_term (asymmetric_term flag (pubk_term purpose a))) = refl

term_value : (f : Assignment) (t : Term) → apply_to (as_substitution f) t ≡ term_from (value_of f t)
term_value f (tag_term bytes) = refl
term_value f (atom_term a) = ap atom_term (atom_value f a)
term_value f (pair_term a b) = ap₂ pair_term (term_value f a) (term_value f b)
term_value f (enc_term a k) = ap₂ encrypted_by (term_value f a) (atom_value f (key_term k))

-- Where a pattern matches the term, it matches the message.
to_message : (p : Pattern) (s : Substitution) (t : Term) → Matches p s t → MatchesMessage p (after own_numbers s) (value_of own_numbers t)
to_message p s t m = record {
  filled = after own_numbers m.filled;
  as_said = λ x free. value_after own_numbers m.filled (variable_term x) ∙ ap (value_of own_numbers) (m.as_said x free) ∙ sym (value_after own_numbers s (variable_term x));
  same = value_after own_numbers m.filled p.term ∙ ap (value_of own_numbers) m.same;
}

-- Where it matches the message, it matches the term.
to_term : (p : Pattern) (s : Substitution) (t : Term) → MatchesMessage p (after own_numbers s) (value_of own_numbers t) → Matches p s t
to_term p s t m = record {
  filled = as_substitution m.filled;
  as_said = λ x free. term_value m.filled (variable_term x) ∙ ap term_from (m.as_said x free ∙ value_after own_numbers s (variable_term x)) ∙ term_back (apply_to s (variable_term x));
  same = term_value m.filled p.term ∙ ap term_from m.same ∙ term_back t;
}

-- So it is decidable whether it does.
dec_from : (p : Pattern) (s : Substitution) (t : Term) → Dec (MatchesMessage p (after own_numbers s) (value_of own_numbers t)) → Dec (Matches p s t)
dec_from p s t (yes m) = yes (to_term p s t m)
dec_from p s t (no n) = no (λ m. n (to_message p s t m))

pub dec_match : (p : Pattern) (s : Substitution) (t : Term) → Dec (Matches p s t)
dec_match p s t = dec_from p s t (dec_matches p (after own_numbers s) (value_of own_numbers t))

-- A test of whether one of the patterns matches the term.
abbrev or_else : {A : Type 0} → Dec A → Bool → Bool
or_else (yes m) b = true
or_else (no n) b = b

abbrev pub one_matches : List Pattern → Substitution → Term → Bool
one_matches [] s t = false
one_matches (p ∷ ps) s t = or_else (dec_match p s t) (one_matches ps s t)

does_from : (p : Pattern) (ps : List Pattern) (s : Substitution) (t : Term) (d : Dec (Matches p s t)) → (one_matches ps s t ≡ true → OneMatches ps s t) → or_else d (one_matches ps s t) ≡ true → OneMatches (p ∷ ps) s t
does_from p ps s t (yes m) rest e = record { pattern = p; listed = here; matches = m }
does_from p ps s t (no n) rest e = let r = rest e in record { pattern = r.pattern; listed = there r.listed; matches = r.matches }

pub one_does : (ps : List Pattern) (s : Substitution) (t : Term) → one_matches ps s t ≡ true → OneMatches ps s t
one_does [] s t e = absurd (cc)
one_does (p ∷ ps) s t e = does_from p ps s t (dec_match p s t) (one_does ps s t) e

true_from : (p : Pattern) (ps : List Pattern) (s : Substitution) (t : Term) (d : Dec (Matches p s t)) → (OneMatches ps s t → one_matches ps s t ≡ true) → OneMatches (p ∷ ps) s t → or_else d (one_matches ps s t) ≡ true
true_from p ps s t (yes m) rest r = refl
true_from p ps s t (no n) rest r =
    rest (⊎_elim (λ (e : r.pattern ≡ p). absurd (n (subst (λ (q : Pattern). Matches q s t) e r.matches))) (λ i. record { pattern = r.pattern; listed = i; matches = r.matches }) (head_or_behind r.listed))

pub does_one : (ps : List Pattern) (s : Substitution) (t : Term) → OneMatches ps s t → one_matches ps s t ≡ true
does_one [] s t r = absurd (not_in_none r.listed)
does_one (p ∷ ps) s t r = true_from p ps s t (dec_match p s t) (does_one ps s t) r

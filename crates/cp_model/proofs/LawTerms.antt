-- Values and terms under composed substitutions, and that they depend on the variables that occur alone.
use Rattle.std.proofs.Common.{◌≡◌, Bool, true, false, refl, sym, ap, ap₂, ◌∙◌}
use Rattle.cp_model.specs.Message.{KeyPair, symmetric, asymmetric, key, atom, pair, enc}
use Rattle.cp_model.specs.Term.{SymmetricTerm, skey_variable, ltk_term, PairTerm, akey_variable, pubk_term, KeyTerm, symmetric_term, asymmetric_term, AtomTerm, text_variable, datum_variable, name_variable, key_term, Term, tag_term, atom_term, pair_term, enc_term, Assignment, flag_of, value_of_symmetric, value_of_half, value_of_key, value_of_atom, value_of, Substitution, apply_to_symmetric, apply_to_half, apply_to_key, apply_to_atom, apply_to, after, composed, IsCarriedByTerm, itself_term, in_left_term, in_right_term, in_plaintext_term}
use Rattle.cp_model.specs.Identity.{unchanged}

-- Flags add up.
pub flags : (a b c : Bool) → flag_of a (flag_of b c) ≡ flag_of (flag_of a b) c
flags true true true = refl
flags true true false = refl
flags true false c = refl
flags false b c = refl

pub flag_last : (a : Bool) → flag_of a false ≡ a
flag_last true = refl
flag_last false = refl

-- Added twice, a flag is gone; so a sum tells what was added to it.
pub flag_twice : (a b : Bool) → flag_of a (flag_of a b) ≡ b
flag_twice true true = refl
flag_twice true false = refl
flag_twice false b = refl

pub flag_same : (f a b : Bool) → flag_of f a ≡ flag_of f b → a ≡ b
flag_same f a b e = sym (flag_twice f a) ∙ ap (flag_of f) e ∙ flag_twice f b

-- The value of a half under a flag that is a sum.
half_flags : (g : Assignment) (a b : Bool) (k : PairTerm) → value_of_half g (flag_of a b) k ≡ (flag_of a (value_of_half g b k).0, (value_of_half g b k).1)
half_flags g a b (akey_variable n) = ap (λ (f : Bool). (f, (g.akeys n).1)) (sym (flags a b (g.akeys n).0))
half_flags g a b (pubk_term purpose n) = refl

half_after : (g : Assignment) (s : Substitution) (flag : Bool) (k : PairTerm) →
    value_of_half (after g s) flag k ≡ value_of_half g (apply_to_half s flag k).0 (apply_to_half s flag k).1
half_after g s flag (akey_variable n) = sym (half_flags g flag (s.akeys n).0 (s.akeys n).1)
half_after g s flag (pubk_term purpose n) = refl

symmetric_after : (g : Assignment) (s : Substitution) (k : SymmetricTerm) → value_of_symmetric (after g s) k ≡ value_of_symmetric g (apply_to_symmetric s k)
symmetric_after g s (skey_variable n) = refl
symmetric_after g s (ltk_term a b) = refl

key_after : (g : Assignment) (s : Substitution) (k : KeyTerm) → value_of_key (after g s) k ≡ value_of_key g (apply_to_key s k)
key_after g s (symmetric_term k) = ap symmetric (symmetric_after g s k)
key_after g s (asymmetric_term flag k) = ap (λ (h : Bool × KeyPair). asymmetric h.0 h.1) (half_after g s flag k)

pub atom_after : (g : Assignment) (s : Substitution) (a : AtomTerm) → value_of_atom (after g s) a ≡ value_of_atom g (apply_to_atom s a)
atom_after g s (text_variable n) = refl
atom_after g s (datum_variable n) = refl
atom_after g s (name_variable n) = refl
atom_after g s (key_term k) = ap key (key_after g s k)

-- The value of a term under the substituted assignment is the value of the substituted term.
pub value_after : (g : Assignment) (s : Substitution) (t : Term) → value_of (after g s) t ≡ value_of g (apply_to s t)
value_after g s (tag_term bytes) = refl
value_after g s (atom_term a) = ap atom (atom_after g s a)
value_after g s (pair_term a b) = ap₂ pair (value_after g s a) (value_after g s b)
value_after g s (enc_term a k) = ap₂ enc (value_after g s a) (key_after g s k)

-- The same for terms.
half_flags_terms : (t : Substitution) (a b : Bool) (k : PairTerm) → apply_to_half t (flag_of a b) k ≡ (flag_of a (apply_to_half t b k).0, (apply_to_half t b k).1)
half_flags_terms t a b (akey_variable n) = ap (λ (f : Bool). (f, (t.akeys n).1)) (sym (flags a b (t.akeys n).0))
half_flags_terms t a b (pubk_term purpose n) = refl

half_composed : (s t : Substitution) (flag : Bool) (k : PairTerm) →
    apply_to_half (composed s t) flag k ≡ apply_to_half t (apply_to_half s flag k).0 (apply_to_half s flag k).1
half_composed s t flag (akey_variable n) = sym (half_flags_terms t flag (s.akeys n).0 (s.akeys n).1)
half_composed s t flag (pubk_term purpose n) = refl

symmetric_composed : (s t : Substitution) (k : SymmetricTerm) → apply_to_symmetric (composed s t) k ≡ apply_to_symmetric t (apply_to_symmetric s k)
symmetric_composed s t (skey_variable n) = refl
symmetric_composed s t (ltk_term a b) = refl

key_composed : (s t : Substitution) (k : KeyTerm) → apply_to_key (composed s t) k ≡ apply_to_key t (apply_to_key s k)
key_composed s t (symmetric_term k) = ap symmetric_term (symmetric_composed s t k)
key_composed s t (asymmetric_term flag k) = ap (λ (h : Bool × PairTerm). asymmetric_term h.0 h.1) (half_composed s t flag k)

pub atom_composed : (s t : Substitution) (a : AtomTerm) → apply_to_atom (composed s t) a ≡ apply_to_atom t (apply_to_atom s a)
atom_composed s t (text_variable n) = refl
atom_composed s t (datum_variable n) = refl
atom_composed s t (name_variable n) = refl
atom_composed s t (key_term k) = ap key_term (key_composed s t k)

pub term_composed : (s t : Substitution) (u : Term) → apply_to (composed s t) u ≡ apply_to t (apply_to s u)
term_composed s t (tag_term bytes) = refl
term_composed s t (atom_term a) = ap atom_term (atom_composed s t a)
term_composed s t (pair_term a b) = ap₂ pair_term (term_composed s t a) (term_composed s t b)
term_composed s t (enc_term a k) = ap₂ enc_term (term_composed s t a) (key_composed s t k)

-- The substitution that changes nothing.
key_unchanged : (k : KeyTerm) → apply_to_key unchanged k ≡ k
key_unchanged (symmetric_term (skey_variable n)) = refl
key_unchanged (symmetric_term (ltk_term a b)) = refl
key_unchanged (asymmetric_term flag (akey_variable n)) = ap (λ (f : Bool). asymmetric_term f (akey_variable n)) (flag_last flag)
key_unchanged (asymmetric_term flag (pubk_term purpose n)) = refl

pub atom_unchanged : (a : AtomTerm) → apply_to_atom unchanged a ≡ a
atom_unchanged (text_variable n) = refl
atom_unchanged (datum_variable n) = refl
atom_unchanged (name_variable n) = refl
atom_unchanged (key_term k) = ap key_term (key_unchanged k)

pub term_unchanged : (t : Term) → apply_to unchanged t ≡ t
term_unchanged (tag_term bytes) = refl
term_unchanged (atom_term a) = ap atom_term (atom_unchanged a)
term_unchanged (pair_term a b) = ap₂ pair_term (term_unchanged a) (term_unchanged b)
term_unchanged (enc_term a k) = ap₂ enc_term (term_unchanged a) (key_unchanged k)

-- What two substitutions make of a term alike stays alike under a further one, and under an assignment.
pub composed_further : (f t to g : Substitution) (u : Term) → apply_to (composed t f) u ≡ apply_to to u → apply_to (composed t (composed f g)) u ≡ apply_to (composed to g) u
composed_further f t to g u e =
    term_composed t (composed f g) u ∙ term_composed f g (apply_to t u) ∙ ap (apply_to g) (sym (term_composed t f u) ∙ e) ∙ sym (term_composed to g u)

pub after_further : (f t to : Substitution) (g : Assignment) (u : Term) → apply_to (composed t f) u ≡ apply_to to u → value_of (after (after g f) t) u ≡ value_of (after g to) u
after_further f t to g u e = value_after (after g f) t u ∙ value_after g f (apply_to t u) ∙ ap (value_of g) (sym (term_composed t f u) ∙ e) ∙ sym (value_after g to u)

-- What a term carries is carried under a substitution.
pub carried_under : (s : Substitution) {v : AtomTerm} {t : Term} → IsCarriedByTerm (atom_term v) t → IsCarriedByTerm (atom_term (apply_to_atom s v)) (apply_to s t)
carried_under s itself_term = itself_term
carried_under s (in_left_term p) = in_left_term (carried_under s p)
carried_under s (in_right_term p) = in_right_term (carried_under s p)
carried_under s (in_plaintext_term p) = in_plaintext_term (carried_under s p)

-- No variable of a term has a number above the term's greatest.
use Rattle.std.proofs.Common.{◌≡◌, ◌<◌, ◌≤◌, ◌++◌, ◌∙◌, ℕ, List, [], ◌∷◌, max, refl, sym, ap, arith, inl, inr}
use Rattle.cp_lists.specs.Lists.{IsIn, here, there}
use Rattle.cp_lists.proofs.Members.{only_item, in_append}
use Rattle.cp_model.specs.Term.{skey_variable, ltk_term, akey_variable, pubk_term, KeyTerm, symmetric_term, asymmetric_term, AtomTerm, text_variable, datum_variable, name_variable, key_term, variable_term, Term, tag_term, atom_term, pair_term, enc_term, variables_of_key, variables_of_atom, variables_of, Substitution, apply_to}
use Rattle.cp_model.specs.declared.variable.Variable.{Variable}
use Rattle.cp_model.specs.Identity.{unchanged}
use Rattle.cp_model.proofs.LawAgreement.{agree_term}
use Rattle.cp_model.proofs.LawTerms.{term_unchanged}
use Rattle.cp_term.specs.Numbers.{top_of_key, top_of_atom, top_of_term}
use Rattle.cp_term.specs.Variables.{KeepsBelow}

only : (n : ℕ) (x y : Variable) → y.number ≡ n → IsIn x (y ∷ []) → x.number ≤ n
only n x y e h = omega (arith, e, ap (λ (z : Variable). z.number) (only_item h))

two : (a b : ℕ) (x y z : Variable) → y.number ≡ a → z.number ≡ b → IsIn x (y ∷ z ∷ []) → x.number ≤ max a b
two a b x y z ey ez here = omega (arith, ey)
two a b x y z ey ez (there h) = omega (arith, only b x z ez h)

in_key : (k : KeyTerm) (x : Variable) → IsIn x (variables_of_key k) → x.number ≤ top_of_key k
in_key (symmetric_term (skey_variable n)) x h = only n x _ refl h
in_key (symmetric_term (ltk_term a b)) x h = two a b x _ _ refl refl h
in_key (asymmetric_term flag (akey_variable n)) x h = only n x _ refl h
in_key (asymmetric_term flag (pubk_term purpose a)) x h = only a x _ refl h

in_atom : (v : AtomTerm) (x : Variable) → IsIn x (variables_of_atom v) → x.number ≤ top_of_atom v
in_atom (text_variable n) x h = only n x _ refl h
in_atom (datum_variable n) x h = only n x _ refl h
in_atom (name_variable n) x h = only n x _ refl h
in_atom (key_term k) x h = in_key k x h

either : (a b : ℕ) (x : Variable) (xs ys : List Variable) → (IsIn x xs → x.number ≤ a) → (IsIn x ys → x.number ≤ b) → IsIn x (xs ++ ys) → x.number ≤ max a b
either a b x xs ys f g h = elim (in_append xs ys h) [ inl i ↦ (let l = f i in omega (arith, l)) | inr i ↦ (let l = g i in omega (arith, l)) ]

pub in_term : (t : Term) (x : Variable) → IsIn x (variables_of t) → x.number ≤ top_of_term t
in_term (tag_term bytes) x h = elim h [ ]
in_term (atom_term v) x h = in_atom v x h
in_term (pair_term a b) x h = either _ _ x (variables_of a) (variables_of b) (in_term a x) (in_term b x) h
in_term (enc_term a k) x h = either _ _ x (variables_of a) (variables_of_key k) (in_term a x) (in_key k x) h

-- A substitution that keeps small numbers keeps a term without others.
pub kept : (s : Substitution) (least : ℕ) (t : Term) → KeepsBelow least s → top_of_term t < least → apply_to s t ≡ t
kept s least t keeps below =
    agree_term s unchanged t
    (λ x i. (let l = in_term t x i in keeps x.sort x.number (omega (arith, l, below))) ∙ sym (term_unchanged (variable_term x)))
    ∙ term_unchanged t

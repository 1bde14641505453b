-- Whether terms may be equal, and what a term carries, part by part.
use Rattle.std.proofs.Common.{◌≡◌, ◌||◌, Bool, true, false, sym, ap, ◌∙◌}
use Rattle.cp_model.specs.Term.{KeyTerm, Term, tag_term, atom_term, pair_term, enc_term}
use Rattle.cp_pattern.specs.Candidates.{may_equal, carries_where}

-- A part without parts is all that is left to compare of the whole terms.
pub leaf_left : (c t a b : Term) → may_equal a b ≡ may_equal c t → (answer : Bool) (leaf : Term) → a ≡ leaf → answer ≡ may_equal leaf b → answer ≡ may_equal c t
leaf_left c t a b h answer leaf e is = is ∙ ap (λ u. may_equal u b) (sym e) ∙ h

-- Parts of the whole that are left to look through.
module _ (test : Term → Bool) (whole rest : Term) (h : carries_where test rest ≡ carries_where test whole) where
  pub carries_here : true ≡ test rest → true ≡ carries_where test whole
  carries_here e = here rest e ∙ h where
    here : (t : Term) → true ≡ test t → true ≡ carries_where test t
    here (tag_term bytes) e = e
    here (atom_term a) e = e
    here (pair_term a b) e = ap (λ x. x || (carries_where test a || carries_where test b)) e
    here (enc_term a k) e = ap (λ x. x || carries_where test a) e

  module _ (fails : false ≡ test rest) where
    module _ (l r : Term) (e : rest ≡ pair_term l r) where
      parts_carry : (carries_where test l || carries_where test r) ≡ carries_where test whole
      parts_carry = ap (λ x. x || (carries_where test l || carries_where test r)) (fails ∙ ap test e) ∙ sym (ap (carries_where test) e) ∙ h

      pub left_carries : true ≡ carries_where test l → true ≡ carries_where test whole
      left_carries g = ap (λ x. x || carries_where test r) g ∙ parts_carry

      pub right_left : false ≡ carries_where test l → carries_where test r ≡ carries_where test whole
      right_left g = ap (λ x. x || carries_where test r) g ∙ parts_carry

    pub plaintext_left : (l : Term) (k : KeyTerm) → rest ≡ enc_term l k → carries_where test l ≡ carries_where test whole
    plaintext_left l k e = ap (λ x. x || carries_where test l) (fails ∙ ap test e) ∙ sym (ap (carries_where test) e) ∙ h

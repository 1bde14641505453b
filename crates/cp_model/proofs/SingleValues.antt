-- The values of terms under an assignment of distinct atoms.
use Rattle.std.proofs.Common.{◌≡◌, ℕ, Bool, false, inl, inr, sym, ap, ap₂, ◌∙◌, subst}
use Rattle.cp_model.specs.Message.{atom, IsCarriedBy}
use Rattle.cp_model.specs.Term.{Sort, text_sort, datum_sort, name_sort, skey_sort, akey_sort, Variable, SymmetricTerm, skey_variable, ltk_term, PairTerm, akey_variable, pubk_term, KeyTerm, symmetric_term, asymmetric_term, AtomTerm, text_variable, datum_variable, name_variable, key_term, Term, tag_term, atom_term, pair_term, enc_term, IsCarriedByTerm, itself_term, in_left_term, in_right_term, in_plaintext_term, flag_of, value_of_symmetric, value_of_key, value_of_atom, value_of, atoms_by, IsDistinct}
use Rattle.cp_model.proofs.LawTerms.{flag_last}
use Rattle.cp_model.proofs.CarriedValues.{Carries, carries}

module _ (number : Variable → ℕ) (distinct : IsDistinct number) where
  -- two variables of one sort with one number in the assignment
  same_number : (s : Sort) (n m : ℕ) → number (record { sort = s; number = n }) ≡ number (record { sort = s; number = m }) → n ≡ m
  same_number s n m e = ap (λ (x : Variable). x.number) (distinct (record { sort = s; number = n }) (record { sort = s; number = m }) e)

  same_symmetric : (a b : SymmetricTerm) → value_of_symmetric (atoms_by number) a ≡ value_of_symmetric (atoms_by number) b → a ≡ b
  same_symmetric (skey_variable n) (skey_variable m) e = ap skey_variable (same_number skey_sort n m (cc))
  same_symmetric (ltk_term a b) (ltk_term c d) e =
      let p = same_number name_sort a c (cc) in
      let q = same_number name_sort b d (cc) in
      λ i. ltk_term (p i) (q i)
  same_symmetric (skey_variable n) (ltk_term c d) e = absurd (cc)
  same_symmetric (ltk_term a b) (skey_variable m) e = absurd (cc)

  -- no variable of sort akey has an inverse for its value
  same_asymmetric : (f : Bool) (a : PairTerm) (f' : Bool) (b : PairTerm) →
      value_of_key (atoms_by number) (asymmetric_term f a) ≡ value_of_key (atoms_by number) (asymmetric_term f' b) → asymmetric_term f a ≡ asymmetric_term f' b
  same_asymmetric f (akey_variable n) f' (akey_variable m) e =
      let p : flag_of f false ≡ flag_of f' false = cc in
      let q = same_number akey_sort n m (cc) in
      let r : f ≡ f' = sym (flag_last f) ∙ p ∙ flag_last f' in
      λ i. asymmetric_term (r i) (akey_variable (q i))
  same_asymmetric f (pubk_term purpose a) f' (pubk_term purpose' b) e =
      let q = same_number name_sort a b (cc) in
      cc
  same_asymmetric f (akey_variable n) f' (pubk_term purpose' b) e = absurd (cc)
  same_asymmetric f (pubk_term purpose a) f' (akey_variable m) e = absurd (cc)

  same_key : (a b : KeyTerm) → value_of_key (atoms_by number) a ≡ value_of_key (atoms_by number) b → a ≡ b
  same_key (symmetric_term a) (symmetric_term b) e = ap symmetric_term (same_symmetric a b (cc))
  same_key (asymmetric_term f a) (asymmetric_term f' b) e = same_asymmetric f a f' b e
  same_key (symmetric_term a) (asymmetric_term f' b) e = absurd (cc)
  same_key (asymmetric_term f a) (symmetric_term b) e = absurd (cc)

  -- Atom terms with one value are one term.
  pub same_atom : (a b : AtomTerm) → value_of_atom (atoms_by number) a ≡ value_of_atom (atoms_by number) b → a ≡ b
  same_atom (text_variable n) (text_variable m) e = ap text_variable (same_number text_sort n m (cc))
  same_atom (datum_variable n) (datum_variable m) e = ap datum_variable (same_number datum_sort n m (cc))
  same_atom (name_variable n) (name_variable m) e = ap name_variable (same_number name_sort n m (cc))
  same_atom (key_term a) (key_term b) e = ap key_term (same_key a b (cc))
  same_atom _ _ e = absurd (cc)

  -- Terms with one value are one term.
  pub same_term : (a b : Term) → value_of (atoms_by number) a ≡ value_of (atoms_by number) b → a ≡ b
  same_term (tag_term a) (tag_term b) e = ap tag_term (cc)
  same_term (atom_term a) (atom_term b) e = ap atom_term (same_atom a b (cc))
  same_term (pair_term a b) (pair_term c d) e = ap₂ pair_term (same_term a c (cc)) (same_term b d (cc))
  same_term (enc_term a k) (enc_term b l) e = ap₂ enc_term (same_term a b (cc)) (same_key k l (cc))
  same_term _ _ e = absurd (cc)

  -- An atom's value is carried by a term's value only where the term carries the atom.
  pub carried_term : (v : AtomTerm) (t : Term) → IsCarriedBy (atom (value_of_atom (atoms_by number) v)) (value_of (atoms_by number) t) → IsCarriedByTerm (atom_term v) t
  carried_term v (tag_term bytes) h = let e = carries h in absurd (cc)
  carried_term v (atom_term a) h =
      let e = carries h in
      let p : v ≡ a = same_atom v a (cc) in
      subst (λ x. IsCarriedByTerm (atom_term v) (atom_term x)) p itself_term
  carried_term v (pair_term a b) h = of_pair (carries h) (carried_term v a) (carried_term v b)
    where
      of_pair : Carries (atom (value_of_atom (atoms_by number) v)) (value_of (atoms_by number) (pair_term a b)) →
          (IsCarriedBy (atom (value_of_atom (atoms_by number) v)) (value_of (atoms_by number) a) → IsCarriedByTerm (atom_term v) a) →
          (IsCarriedBy (atom (value_of_atom (atoms_by number) v)) (value_of (atoms_by number) b) → IsCarriedByTerm (atom_term v) b) →
          IsCarriedByTerm (atom_term v) (pair_term a b)
      of_pair (inl e) l r = absurd (cc)
      of_pair (inr (inl x)) l r = in_left_term (l x)
      of_pair (inr (inr x)) l r = in_right_term (r x)
  carried_term v (enc_term a k) h = of_enc (carries h) (carried_term v a)
    where
      of_enc : Carries (atom (value_of_atom (atoms_by number) v)) (value_of (atoms_by number) (enc_term a k)) →
          (IsCarriedBy (atom (value_of_atom (atoms_by number) v)) (value_of (atoms_by number) a) → IsCarriedByTerm (atom_term v) a) →
          IsCarriedByTerm (atom_term v) (enc_term a k)
      of_enc (inl e) l = absurd (cc)
      of_enc (inr x) l = in_plaintext_term (l x)

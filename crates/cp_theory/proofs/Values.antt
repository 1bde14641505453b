-- The atoms that a term's value carries are values of atoms that the term carries.
use Rattle.std.proofs.Common.{◌≡◌, ◌⊎◌, inl, inr}
use Rattle.cp_model.specs.Message.{Key, Atom, Message, tag, atom, pair, enc, IsCarriedBy}
use Rattle.cp_model.specs.Term.{KeyTerm, AtomTerm, Term, tag_term, atom_term, pair_term, enc_term, IsCarriedByTerm, itself_term, in_left_term, in_right_term, in_plaintext_term, Assignment, value_of_atom, value_of}
use Rattle.cp_model.proofs.CarriedValues.{carries}

-- A term that carries an atom with this value.
pub record CarriesValue (g : Assignment) (v : Atom) (t : Term) : Type 0 where
  pub item : AtomTerm
  pub carried : IsCarriedByTerm (atom_term item) t
  pub equal : value_of_atom g item ≡ v

on_left : {g : Assignment} {v : Atom} {t u : Term} → CarriesValue g v t → CarriesValue g v (pair_term t u)
on_left c = record { item = c.item; carried = in_left_term c.carried; equal = c.equal }

on_right : {g : Assignment} {v : Atom} {t u : Term} → CarriesValue g v u → CarriesValue g v (pair_term t u)
on_right c = record { item = c.item; carried = in_right_term c.carried; equal = c.equal }

under_key : {g : Assignment} {v : Atom} {t : Term} {k : KeyTerm} → CarriesValue g v t → CarriesValue g v (enc_term t k)
under_key c = record { item = c.item; carried = in_plaintext_term c.carried; equal = c.equal }

of_pair : {g : Assignment} {v : Atom} {t u : Term} {a b : Message} → (atom v ≡ pair a b) ⊎ (IsCarriedBy (atom v) (value_of g t) ⊎ IsCarriedBy (atom v) (value_of g u)) →
    (IsCarriedBy (atom v) (value_of g t) → CarriesValue g v t) → (IsCarriedBy (atom v) (value_of g u) → CarriesValue g v u) → CarriesValue g v (pair_term t u)
of_pair (inl e) l r = absurd (cc)
of_pair (inr (inl p)) l r = on_left (l p)
of_pair (inr (inr p)) l r = on_right (r p)

of_enc : {g : Assignment} {v : Atom} {t : Term} {k : KeyTerm} {a : Message} {c : Key} → (atom v ≡ enc a c) ⊎ IsCarriedBy (atom v) (value_of g t) →
    (IsCarriedBy (atom v) (value_of g t) → CarriesValue g v t) → CarriesValue g v (enc_term t k)
of_enc (inl e) l = absurd (cc)
of_enc (inr p) l = under_key (l p)

pub carried_atom : (g : Assignment) (v : Atom) (t : Term) → IsCarriedBy (atom v) (value_of g t) → CarriesValue g v t
carried_atom g v (tag_term bytes) p = let e : atom v ≡ tag bytes = carries p in absurd (cc)
carried_atom g v (atom_term a) p =
    let e : atom v ≡ atom (value_of_atom g a) = carries p in
    let same : value_of_atom g a ≡ v = cc in
    record { item = a; carried = itself_term; equal = same }
carried_atom g v (pair_term t u) p = of_pair (carries p) (carried_atom g v t) (carried_atom g v u)
carried_atom g v (enc_term t k) p = of_enc (carries p) (carried_atom g v t)

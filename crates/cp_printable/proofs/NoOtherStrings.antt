-- A most general substitution brings in no strings: whatever it is general for stays true where other purposes are left out.
use Rattle.std.proofs.Common.{◌≡◌, ◌⊎◌, inl, inr, ℕ, Bool, false, List, Option, Some, None, refl, sym, ap, ap₂, ◌∙◌}
use Rattle.cp_lists.specs.Lists.{IsIn, here, there}
use Rattle.cp_lists.proofs.Members.{in_append_left, in_append_right}
use Rattle.cp_model.specs.Message.{KeyPair, akey, pubk, Key, symmetric, asymmetric, Atom, text, datum, name, key, Message, tag, atom, pair, enc}
use Rattle.cp_model.specs.Term.{PairTerm, akey_variable, pubk_term, KeyTerm, symmetric_term, asymmetric_term, AtomTerm, text_variable, datum_variable, name_variable, key_term, Term, tag_term, atom_term, pair_term, enc_term, SymmetricTerm, skey_variable, ltk_term, Assignment, value_of_symmetric, value_of_half, value_of_key, value_of_atom, value_of, after, Substitution}
use Rattle.cp_model.proofs.LawTerms.{atom_after, value_after}
use Rattle.cp_collapse.specs.Directed.{IsMostGeneralFor}
use Rattle.cp_pattern.specs.Unifiers.{UnifiesMostGenerally}
use Rattle.cp_unify.proofs.Free.{free}
use Rattle.cp_printable.specs.Strings.{strings_of_purpose, strings_of_pair, strings_of_key, strings_of}
use Rattle.cp_printable.specs.Spelled.{IsSpelledTerm, IsSpelledAtom}
use Rattle.cp_printable.proofs.Under.{GivesStrings}

module _ (S : List ℕ → Type 0) (decide : (t : List ℕ) → S t ⊎ (S t → ⊥)) where
  -- ---- messages with the purposes left out that are not admitted

  abbrev purpose_if : (t : List ℕ) → S t ⊎ (S t → ⊥) → Option (List ℕ)
  purpose_if t (inl is) = Some t
  purpose_if t (inr never) = None

  abbrev kept_purpose : Option (List ℕ) → Option (List ℕ)
  kept_purpose None = None
  kept_purpose (Some t) = purpose_if t (decide t)

  abbrev kept_pair : KeyPair → KeyPair
  kept_pair (akey n) = akey n
  kept_pair (pubk purpose a) = pubk (kept_purpose purpose) a

  abbrev kept_key : Key → Key
  kept_key (symmetric k) = symmetric k
  kept_key (asymmetric flag k) = asymmetric flag (kept_pair k)

  abbrev pub kept_atom : Atom → Atom
  kept_atom (text n) = text n
  kept_atom (datum n) = datum n
  kept_atom (name n) = name n
  kept_atom (key k) = key (kept_key k)

  abbrev pub kept : Message → Message
  kept (tag bytes) = tag bytes
  kept (atom a) = atom (kept_atom a)
  kept (pair a b) = pair (kept a) (kept b)
  kept (enc a k) = enc (kept a) (kept_key k)

  -- The assignment with the purposes left out that are not admitted.
  abbrev pub leaving_out : Assignment → Assignment
  leaving_out g = record {
    texts = g.texts;
    datums = g.datums;
    names = g.names;
    skeys = g.skeys;
    akeys = λ n. ((g.akeys n).0, kept_pair (g.akeys n).1);
  }

  -- ---- the values of terms whose strings are admitted

  admitted_stays : (t : List ℕ) (d : S t ⊎ (S t → ⊥)) → S t → purpose_if t d ≡ Some t
  admitted_stays t (inl is) admitted = refl
  admitted_stays t (inr never) admitted = absurd (never admitted)

  purpose_stays : (purpose : Option (List ℕ)) → ((s : List ℕ) → IsIn s (strings_of_purpose purpose) → S s) → kept_purpose purpose ≡ purpose
  purpose_stays None is = refl
  purpose_stays (Some t) is = admitted_stays t (decide t) (is t here)

  kept_half : (g : Assignment) (flag : Bool) (k : PairTerm) → ((s : List ℕ) → IsIn s (strings_of_pair k) → S s) → value_of_half (leaving_out g) flag k ≡ ((value_of_half g flag k).0, kept_pair (value_of_half g flag k).1)
  kept_half g flag (akey_variable n) is = refl
  kept_half g flag (pubk_term purpose a) is = ap (λ (p : Option (List ℕ)). (flag, pubk p (g.names a))) (sym (purpose_stays purpose is))

  kept_symmetric : (g : Assignment) (k : SymmetricTerm) → value_of_symmetric (leaving_out g) k ≡ value_of_symmetric g k
  kept_symmetric g (skey_variable n) = refl
  kept_symmetric g (ltk_term a b) = refl

  kept_key_value : (g : Assignment) (k : KeyTerm) → ((s : List ℕ) → IsIn s (strings_of_key k) → S s) → value_of_key (leaving_out g) k ≡ kept_key (value_of_key g k)
  kept_key_value g (symmetric_term k) is = ap symmetric (kept_symmetric g k)
  kept_key_value g (asymmetric_term flag k) is = ap (λ (h : Bool × KeyPair). asymmetric h.0 h.1) (kept_half g flag k is)

  pub kept_atom_value : (g : Assignment) (v : AtomTerm) → IsSpelledAtom S v → value_of_atom (leaving_out g) v ≡ kept_atom (value_of_atom g v)
  kept_atom_value g (text_variable n) is = refl
  kept_atom_value g (datum_variable n) is = refl
  kept_atom_value g (name_variable n) is = refl
  kept_atom_value g (key_term k) is = ap key (kept_key_value g k is)

  pub kept_value : (g : Assignment) (t : Term) → IsSpelledTerm S t → value_of (leaving_out g) t ≡ kept (value_of g t)
  kept_value g (tag_term bytes) is = refl
  kept_value g (atom_term v) is = ap atom (kept_atom_value g v is)
  kept_value g (pair_term a b) is = ap₂ pair (kept_value g a (λ s i. is s (in_append_left (strings_of b) i))) (kept_value g b (λ s i. is s (in_append_right (strings_of a) i)))
  kept_value g (enc_term a k) is = ap₂ enc (kept_value g a (λ s i. is s (in_append_left (strings_of_key k) i))) (kept_key_value g k (λ s i. is s (in_append_right (strings_of a) i)))

  -- Two of them that are equal stay so.
  pub same_left : (g : Assignment) (a b : Term) → IsSpelledTerm S a → IsSpelledTerm S b → value_of g a ≡ value_of g b → value_of (leaving_out g) a ≡ value_of (leaving_out g) b
  same_left g a b first second e = kept_value g a first ∙ ap kept e ∙ sym (kept_value g b second)

  pub same_atoms_left : (g : Assignment) (a b : AtomTerm) → IsSpelledAtom S a → IsSpelledAtom S b → value_of_atom g a ≡ value_of_atom g b → value_of_atom (leaving_out g) a ≡ value_of_atom (leaving_out g) b
  same_atoms_left g a b first second e = kept_atom_value g a first ∙ ap kept_atom e ∙ sym (kept_atom_value g b second)

  -- ---- most general substitutions

  some_kept : (t : List ℕ) (d : S t ⊎ (S t → ⊥)) → Some t ≡ purpose_if t d → S t
  some_kept t (inl is) e = is
  some_kept t (inr never) e = absurd (cc)

  -- A term for a key pair whose value has the same purpose without those that are not admitted has one that is admitted, or none.
  only_kept : (g h : Assignment) (flag : Bool) (k : PairTerm) → (value_of_half h flag k).1 ≡ kept_pair (value_of_half g flag k).1 → (s : List ℕ) → IsIn s (strings_of_pair k) → S s
  only_kept g h flag (akey_variable n) e s i = elim i [ ]
  only_kept g h flag (pubk_term None a) e s i = elim i [ ]
  only_kept g h flag (pubk_term (Some t) a) e s here = let same : Some t ≡ purpose_if t (decide t) = cc in some_kept t (decide t) same
  only_kept g h flag (pubk_term (Some t) a) e s (there i) = elim i [ ]

  key_of_sort : (flag flag' : Bool) (k k' : KeyPair) → atom (key (asymmetric flag k)) ≡ atom (key (asymmetric flag' k')) → k ≡ k'
  key_of_sort flag flag' k k' e = cc

  pub gives_only : (fact : Assignment → Type 0) (f : Substitution) → ((g : Assignment) → fact g → fact (leaving_out g)) → fact (after free f)
      → ((g : Assignment) → fact g → (t : Term) → value_of (after g f) t ≡ value_of g t) → GivesStrings S f
  gives_only fact f closed holds general n =
      let h = leaving_out (after free f) in
      let x : Term = atom_term (key_term (asymmetric_term false (akey_variable n))) in
      only_kept free h (f.akeys n).0 (f.akeys n).1 (key_of_sort _ _ _ _ (general h (closed (after free f) holds) x))

  pub unifier_gives : (a b : Term) (f : Substitution) → IsSpelledTerm S a → IsSpelledTerm S b → UnifiesMostGenerally a b f → GivesStrings S f
  unifier_gives a b f first second m =
      gives_only (λ g. value_of g a ≡ value_of g b) f (λ g e. same_left g a b first second e)
      (value_after free f a ∙ ap (value_of free) m.unifies ∙ sym (value_after free f b)) m.general

  pub atoms_unifier_gives : (a b : AtomTerm) (f : Substitution) → IsSpelledAtom S a → IsSpelledAtom S b → IsMostGeneralFor a b f → GivesStrings S f
  atoms_unifier_gives a b f first second m =
      gives_only (λ g. value_of_atom g a ≡ value_of_atom g b) f (λ g e. same_atoms_left g a b first second e)
      (atom_after free f a ∙ ap (value_of_atom free) m.unifies ∙ sym (atom_after free f b)) m.general

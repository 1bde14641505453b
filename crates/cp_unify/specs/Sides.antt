-- Two terms side by side, one level deep.
use Rattle.std.specs.Prelude.{◌≡◌, ◌⊎◌}
use Rattle.cp_model.specs.Term.{KeyTerm, Term, tag_term, atom_term, pair_term, enc_term}
use Rattle.cp_term.specs.Keys.{key_as_term}
use Rattle.cp_term.specs.Spines.{HasTail}
use Rattle.cp_unify.specs.declared.sides.Sides.{Sides}
use Rattle.cp_unify.specs.declared.sides.Sides.TheVariants.{Parts, Leaf, Apart}

-- Both terms are pairs, s of a and c and t of b and d; or both are encryptions, s under a of c and t under b of d.
pub record ArePairs (a b c d s t : Term) : Type 0 where
  pub first : s ≡ pair_term a c
  pub second : t ≡ pair_term b d

pub record AreEncryptions (a b c d s t : Term) : Type 0 where
  pub key : KeyTerm
  pub other_key : KeyTerm
  pub is_key : a ≡ key_as_term key
  pub is_other_key : b ≡ key_as_term other_key
  pub first : s ≡ enc_term c key
  pub second : t ≡ enc_term d other_key

-- The first term is a pair or an encryption, and the second is not one too.
abbrev pub AreApart : Term → Term → Type 0
AreApart (tag_term x) t = ⊥
AreApart (atom_term u) t = ⊥
AreApart (pair_term a b) (pair_term c d) = ⊥
AreApart (enc_term a k) (enc_term b j) = ⊥
AreApart _ _ = Unit {0}

-- The terms stand so side by side.
abbrev pub AreSides : Sides → Term → Term → Type 0
AreSides (Parts a b c d) s t = ArePairs a.now b.now c.now d.now s t ⊎ AreEncryptions a.now b.now c.now d.now s t
AreSides Leaf s t = HasTail s → ⊥
AreSides Apart s t = AreApart s t

-- Carried positions of terms, and what encloses them in their values.
use Rattle.std.proofs.Common.{◌≡◌, List, [], ◌∷◌, Some, Bool, true, false, refl, sym, ap, ◌∙◌, subst, ◌⊎◌, ⊎_elim, inl, inr}
use Rattle.cp_lists.specs.Lists.{IsIn, here, there}
use Rattle.cp_lists.proofs.Members.{head_or_behind, not_in_none}
use Rattle.cp_model.specs.Message.{Key, Message, pair, enc}
use Rattle.cp_model.specs.Term.{KeyTerm, Term, tag_term, atom_term, pair_term, enc_term, variable_term, Assignment, value_of, value_of_key, after, Substitution}
use Rattle.cp_model.specs.declared.variable.Variable.{Variable}
use Rattle.cp_model.specs.Tree.{Pattern}
use Rattle.cp_model.proofs.LawTerms.{value_after, value_after}
use Rattle.cp_model.proofs.CarriedParts.{not_both}
use Rattle.cp_model.specs.declared.step.Step.{Step}
use Rattle.cp_model.specs.declared.step.Step.TheVariants.{Left, Right, Plaintext}
use Rattle.cp_model.specs.Positions.{term_at}
use Rattle.cp_theory.specs.AuthenticationTest.{IsOutside, is_whole, outside_left, outside_right, outside_plaintext}
use Rattle.cp_theory.proofs.Tested.{outside_cases}
use Rattle.cp_theory.specs.Above.{encryptions_above}
use Rattle.cp_theory.specs.Matches.{IsFreeIn, Matches, MatchesMessage}
use Rattle.cp_theory.specs.Inside.{IsInside, IsProtected, IsBroughtInside, TellsProtected}
use Rattle.cp_theory.specs.Critical.{IsPartOfPairs, whole_part, part_of_left, part_of_right}

-- No protecting encryption of the message encloses the position.
abbrev pub IsOpenAt : (Message → Key → Bool) → Message → List Step → Type 0
IsOpenAt protects m [] = Unit {0}
IsOpenAt protects (pair x y) (Left ∷ path) = IsOpenAt protects x path
IsOpenAt protects (pair x y) (Right ∷ path) = IsOpenAt protects y path
IsOpenAt protects (enc x k) (Plaintext ∷ path) = (protects x k ≡ false) × IsOpenAt protects x path
IsOpenAt protects _ _ = ⊥

-- A position of a term at which the value of what stands there is c, with no protecting encryption above it.
pub record OpenPosition (protects : Message → Key → Bool) (g : Assignment) (c : Message) (t : Term) : Type 0 where
  pub path : List Step
  pub term : Term
  pub at : term_at t path ≡ Some term
  pub same : value_of g term ≡ c
  pub unprotected : IsOpenAt protects (value_of g t) path

module _ (protects : Message → Key → Bool) (g : Assignment) (c : Message) where
  whole_position : (t : Term) → c ≡ value_of g t → OpenPosition protects g c t
  whole_position t e = record { path = []; term = t; at = refl; same = sym e; unprotected = tt }

  position_in_left : (a b : Term) → OpenPosition protects g c a → OpenPosition protects g c (pair_term a b)
  position_in_left a b p = record { path = Left ∷ p.path; term = p.term; at = p.at; same = p.same; unprotected = p.unprotected }

  position_in_right : (a b : Term) → OpenPosition protects g c b → OpenPosition protects g c (pair_term a b)
  position_in_right a b p = record { path = Right ∷ p.path; term = p.term; at = p.at; same = p.same; unprotected = p.unprotected }

  position_in_plaintext : (a : Term) (k : KeyTerm) → protects (value_of g a) (value_of_key g k) ≡ false → OpenPosition protects g c a → OpenPosition protects g c (enc_term a k)
  position_in_plaintext a k e p = record { path = Plaintext ∷ p.path; term = p.term; at = p.at; same = p.same; unprotected = (e, p.unprotected) }

  -- Where c stands outside in the value of a term, it is the value of what stands at an open position of the term.
  pub open_position : (t : Term) → IsOutside protects c (value_of g t) → OpenPosition protects g c t
  open_position (tag_term bytes) o = ⊎_elim (whole_position (tag_term bytes)) absurd (outside_cases o)
  open_position (atom_term a) o = ⊎_elim (whole_position (atom_term a)) absurd (outside_cases o)
  open_position (pair_term a b) o = ⊎_elim (whole_position (pair_term a b)) (⊎_elim (λ p. position_in_left a b (open_position a p)) (λ p. position_in_right a b (open_position b p))) (outside_cases o)
  open_position (enc_term a k) o = ⊎_elim (whole_position (enc_term a k)) (λ r. position_in_plaintext a k r.0 (open_position a r.1)) (outside_cases o)

-- A protecting encryption encloses the position.
pub record ProtectedAbove (protects : Message → Key → Bool) (g : Assignment) (t : Term) (path : List Step) : Type 0 where
  pub body : Term
  pub key : KeyTerm
  pub above : IsIn (enc_term body key) (encryptions_above t path)
  pub protected : protects (value_of g body) (value_of_key g key) ≡ true

module _ (protects : Message → Key → Bool) (g : Assignment) (c : Message) where
  abbrev OutsideOrAbove : Term → List Step → Type 0
  OutsideOrAbove t path = IsOutside protects c (value_of g t) ⊎ ProtectedAbove protects g t path

  at_encryption : (a : Term) (k : KeyTerm) (path : List Step) (b : Bool) → protects (value_of g a) (value_of_key g k) ≡ b → OutsideOrAbove a path → OutsideOrAbove (enc_term a k) (Plaintext ∷ path)
  at_encryption a k path true e r = inr (record { body = a; key = k; above = here; protected = e })
  at_encryption a k path false e (inl o) = inl (outside_plaintext e o)
  at_encryption a k path false e (inr p) = inr (record { body = p.body; key = p.key; above = there p.above; protected = p.protected })

  -- What stands at a position stands outside, or a protecting encryption encloses it.
  pub outside_or_above : (t : Term) (path : List Step) (u : Term) → term_at t path ≡ Some u → value_of g u ≡ c → OutsideOrAbove t path
  outside_or_above t [] u at e = let same : t ≡ u = cc in inl (subst (λ (z : Message). IsOutside protects z (value_of g t)) (ap (value_of g) same ∙ e) is_whole)
  outside_or_above (pair_term a b) (Left ∷ path) u at e = ⊎_elim (λ o. inl (outside_left o)) (λ p. inr (record { body = p.body; key = p.key; above = p.above; protected = p.protected })) (outside_or_above a path u at e)
  outside_or_above (pair_term a b) (Right ∷ path) u at e = ⊎_elim (λ o. inl (outside_right o)) (λ p. inr (record { body = p.body; key = p.key; above = p.above; protected = p.protected })) (outside_or_above b path u at e)
  outside_or_above (enc_term a k) (Plaintext ∷ path) u at e = at_encryption a k path (protects (value_of g a) (value_of_key g k)) refl (outside_or_above a path u at e)
  outside_or_above _ (Left ∷ path) u at e = absurd (cc)
  outside_or_above _ (Right ∷ path) u at e = absurd (cc)
  outside_or_above _ (Plaintext ∷ path) u at e = absurd (cc)

-- An encryption above an open position does not protect.
pub record IsUnprotecting (protects : Message → Key → Bool) (g : Assignment) (e : Term) : Type 0 where
  pub body : Term
  pub key : KeyTerm
  pub encryption : e ≡ enc_term body key
  pub unprotected : protects (value_of g body) (value_of_key g key) ≡ false

module _ (protects : Message → Key → Bool) (g : Assignment) where
  pub open_above : (t : Term) (path : List Step) (e : Term) → IsOpenAt protects (value_of g t) path → IsIn e (encryptions_above t path) → IsUnprotecting protects g e
  open_above (pair_term a b) (Left ∷ path) e o i = open_above a path e o i
  open_above (pair_term a b) (Right ∷ path) e o i = open_above b path e o i
  open_above (enc_term a k) (Plaintext ∷ path) e o i = ⊎_elim (λ same. record { body = a; key = k; encryption = same; unprotected = o.0 }) (λ q. open_above a path e o.1 q) (head_or_behind i)
  open_above _ _ e o i = absurd (not_in_none i)

-- The assignments give the other variables of the patterns the same values.
abbrev pub AgreeOnFree : List Pattern → Assignment → Assignment → Type 0
AgreeOnFree ps f g = (p : Pattern) (x : Variable) → IsIn p ps → IsFreeIn x p → value_of f (variable_term x) ≡ value_of g (variable_term x)

pub protected_alike : (ps : List Pattern) (f g : Assignment) (m : Message) → AgreeOnFree ps f g → IsProtected ps f m → IsProtected ps g m
protected_alike ps f g m agree p = record {
  pattern = p.pattern;
  listed = p.listed;
  matches = record {
    filled = p.matches.filled;
    as_said = λ x free. p.matches.as_said x free ∙ agree p.pattern x p.listed free;
    same = p.matches.same;
  };
}

-- What a pattern matches, its value it matches too.
pub value_matches : (p : Pattern) (s : Substitution) (g : Assignment) (t : Term) → Matches p s t → MatchesMessage p (after g s) (value_of g t)
value_matches p s g t m = record {
  filled = after g m.filled;
  as_said = λ x free. value_after g m.filled (variable_term x) ∙ ap (value_of g) (m.as_said x free) ∙ sym (value_after g s (variable_term x));
  same = value_after g m.filled p.term ∙ ap (value_of g) m.same;
}

-- A position inside the patterns is brought inside by any values.
pub inside_by_values : (ps : List Pattern) (s : Substitution) (g : Assignment) (t : Term) (path : List Step) → IsInside ps s t path → IsBroughtInside ps (after g s) g t path
inside_by_values ps s g t path i = record { encryption = i.encryption; above = i.above; protected = record { pattern = i.pattern; listed = i.listed; matches = value_matches i.pattern s g i.encryption i.matches } }

-- A position that is brought inside is not open.
pub brought_inside_not_open : (ps : List Pattern) (f g : Assignment) (test : Message → Key → Bool) → TellsProtected ps f test → (t : Term) (path : List Step) → IsBroughtInside ps f g t path → IsOpenAt test (value_of g t) path → ⊥
brought_inside_not_open ps f g test tells t path i o =
    let u = open_above test g t path i.encryption o i.above in
    not_both u.unprotected (tells.complete (value_of g u.body) (value_of_key g u.key) (subst (λ (e : Term). IsProtected ps f (value_of g e)) u.encryption i.protected))

-- Where c does not stand outside, an occurrence of it is brought inside.
pub brought_inside : (ps : List Pattern) (f g : Assignment) (test : Message → Key → Bool) → TellsProtected ps f test → (c : Message) (t u : Term) (path : List Step) → term_at t path ≡ Some u → value_of g u ≡ c →
    (IsOutside test c (value_of g t) → ⊥) → IsBroughtInside ps f g t path
brought_inside ps f g test tells c t u path at same none =
    ⊎_elim (λ o. absurd (none o)) (λ a. record { encryption = enc_term a.body a.key; above = a.above; protected = tells.sound (value_of g a.body) (value_of_key g a.key) a.protected }) (outside_or_above test g c t path u at same)

-- A part of the pair tree stands outside.
pub part_outside : (protects : Message → Key → Bool) (g : Assignment) {c t : Term} → IsPartOfPairs c t → IsOutside protects (value_of g c) (value_of g t)
part_outside protects g whole_part = is_whole
part_outside protects g (part_of_left p) = outside_left (part_outside protects g p)
part_outside protects g (part_of_right p) = outside_right (part_outside protects g p)

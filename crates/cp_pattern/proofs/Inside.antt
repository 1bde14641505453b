-- Positions inside patterns, step by step.
use Rattle.std.proofs.Common.{◌≡◌, ◌⊎◌, ⊎_elim, inl, inr, ℕ, ◌+◌, ◌<◌, ◌≤◌, Bool, true, false, List, [], ◌∷◌, Some, None, length, get_or, drop, refl, sym, ap, ◌∙◌, subst}
use Rattle.std.specs.Prelude.{◌↔◌, IsTrue}
use Rattle.std.proofs.lemmas.List.{drop_all}
use Rattle.cp_lists.specs.Lists.{IsIn, here, there}
use Rattle.cp_lists.proofs.Members.{head_or_behind, not_in_none, drop_read}
use Rattle.cp_model.proofs.CarriedParts.{not_both}
use Rattle.cp_model.specs.Term.{Term, tag_term, atom_term, pair_term, enc_term, Substitution}
use Rattle.cp_model.specs.Tree.{Pattern}
use Rattle.cp_model.specs.Positions.{part_at}
use Rattle.cp_model.specs.declared.step.Step.{Step}
use Rattle.cp_model.specs.declared.step.Step.TheVariants.{Left, Right, Plaintext}
use Rattle.cp_theory.specs.Above.{encryptions_above}
use Rattle.cp_theory.specs.Inside.{IsInside}
use Rattle.cp_theory.specs.Matches.{Matches}
use Rattle.cp_theory.proofs.AllAbove.{nothing_above}
use Rattle.cp_pattern.specs.Said.{HasMatch}

-- Where the encryptions above are the same, positions are inside alike.
moved_to : (ps : List Pattern) (s : Substitution) (t u : Term) (p q : List Step) → encryptions_above t p ≡ encryptions_above u q → IsInside ps s t p → IsInside ps s u q
moved_to ps s t u p q e i = record { encryption = i.encryption; above = subst (IsIn i.encryption) e i.above; pattern = i.pattern; listed = i.listed; matches = i.matches }

-- A position is inside exactly where what is left of it is inside what is left of the term.
abbrev pub IsInsideLeft : List Pattern → Substitution → Term → List Step → Term → List Step → Type 0
IsInsideLeft ps s t path rest steps = IsInside ps s t path ↔ IsInside ps s rest steps

pub not_inside : (ps : List Pattern) (s : Substitution) (t : Term) (path : List Step) → encryptions_above t path ≡ [] → IsInside ps s t path → ⊥
not_inside ps s t path e i = not_in_none (subst (IsIn i.encryption) e i.above)

pub at_the_end : (ps : List Pattern) (s : Substitution) (t : Term) → IsInside ps s t [] → ⊥
at_the_end ps s t = not_inside ps s t [] (nothing_above t)

plaintext_or_not : (s : Step) → (s ≡ Plaintext) ⊎ (s ≡ Plaintext → ⊥)
plaintext_or_not Left = inr (λ e. cc)
plaintext_or_not Right = inr (λ e. cc)
plaintext_or_not Plaintext = inl refl

-- What one step leaves above.
above_part : (s : Step) (t part : Term) (path : List Step) → (s ≡ Plaintext → ⊥) → part_at s t ≡ Some part → encryptions_above t (s ∷ path) ≡ encryptions_above part path
above_part Left (pair_term a b) part path n e = let same : a ≡ part = cc in ap (λ (z : Term). encryptions_above z path) same
above_part Right (pair_term a b) part path n e = let same : b ≡ part = cc in ap (λ (z : Term). encryptions_above z path) same
above_part Plaintext t part path n e = absurd (n refl)
above_part Left (tag_term bytes) part path n e = absurd (cc)
above_part Left (atom_term a) part path n e = absurd (cc)
above_part Left (enc_term a k) part path n e = absurd (cc)
above_part Right (tag_term bytes) part path n e = absurd (cc)
above_part Right (atom_term a) part path n e = absurd (cc)
above_part Right (enc_term a k) part path n e = absurd (cc)

above_plaintext : (t part : Term) (path : List Step) → part_at Plaintext t ≡ Some part → encryptions_above t (Plaintext ∷ path) ≡ t ∷ encryptions_above part path
above_plaintext (enc_term a k) part path e = let same : a ≡ part = cc in ap (λ (z : Term). enc_term a k ∷ encryptions_above z path) same
above_plaintext (tag_term bytes) part path e = absurd (cc)
above_plaintext (atom_term a) part path e = absurd (cc)
above_plaintext (pair_term a b) part path e = absurd (cc)

above_none : (s : Step) (t : Term) (path : List Step) → part_at s t ≡ None → encryptions_above t (s ∷ path) ≡ []
above_none Left (pair_term a b) path e = absurd (cc)
above_none Right (pair_term a b) path e = absurd (cc)
above_none Plaintext (enc_term a k) path e = absurd (cc)
above_none Left (tag_term bytes) path e = refl
above_none Left (atom_term a) path e = refl
above_none Left (enc_term a k) path e = refl
above_none Right (tag_term bytes) path e = refl
above_none Right (atom_term a) path e = refl
above_none Right (enc_term a k) path e = refl
above_none Plaintext (tag_term bytes) path e = refl
above_none Plaintext (atom_term a) path e = refl
above_none Plaintext (pair_term a b) path e = refl

module _ (ps : List Pattern) (s : Substitution) (t : Term) (path : List Step) (rest : Term) (i : ℕ) (so_far : IsInsideLeft ps s t path rest (drop i path)) where
  pub path_ends : length path ≤ i → IsInside ps s t path → ⊥
  path_ends end k = at_the_end ps s rest (subst (IsInside ps s rest) (drop_all i path end) (so_far.0 k))

  module _ (step : Step) (below : i < length path) (read : step ≡ get_or path i step) where
    steps_left : drop i path ≡ step ∷ drop (i + 1) path
    steps_left = drop_read path i step below read

    -- Where a step leads nowhere.
    pub leads_nowhere : part_at step rest ≡ None → IsInside ps s t path → ⊥
    leads_nowhere e k = not_inside ps s rest (drop i path) (ap (encryptions_above rest) steps_left ∙ above_none step rest (drop (i + 1) path) e) (so_far.0 k)

    module _ (part : Term) (at : part_at step rest ≡ Some part) (answer : Bool) (tells : IsTrue answer ↔ ((step ≡ Plaintext) × HasMatch ps s rest)) where
      above_rest : step ≡ Plaintext → encryptions_above rest (drop i path) ≡ rest ∷ encryptions_above part (drop (i + 1) path)
      above_rest e = ap (encryptions_above rest) (steps_left ∙ ap (λ (z : Step). z ∷ drop (i + 1) path) e) ∙ above_plaintext rest part (drop (i + 1) path) (ap (λ (z : Step). part_at z rest) (sym e) ∙ at)

      pub inside_here : answer ≡ true → IsInside ps s t path
      inside_here found =
          let m = tells.0 found in
          so_far.1 (record {
            encryption = rest;
            above = subst (IsIn rest) (sym (above_rest m.0)) here;
            pattern = (m.1).pattern;
            listed = (m.1).listed;
            matches = (m.1).matches;
          })

      plaintext_left : step ≡ Plaintext → answer ≡ false → IsInsideLeft ps s t path part (drop (i + 1) path)
      plaintext_left e not = (
        λ whole. let j = so_far.0 whole in
            ⊎_elim (λ (same : j.encryption ≡ rest). absurd (not_both not (tells.1 (e, record { pattern = j.pattern; listed = j.listed; matches = subst (Matches j.pattern s) same j.matches }))))
            (λ l. record { encryption = j.encryption; above = l; pattern = j.pattern; listed = j.listed; matches = j.matches })
            (head_or_behind (subst (IsIn j.encryption) (above_rest e) j.above)),
        λ j. so_far.1 (record { encryption = j.encryption; above = subst (IsIn j.encryption) (sym (above_rest e)) (there j.above); pattern = j.pattern; listed = j.listed; matches = j.matches }),
      )

      part_left : (step ≡ Plaintext → ⊥) → IsInsideLeft ps s t path part (drop (i + 1) path)
      part_left n =
          let alike : encryptions_above rest (drop i path) ≡ encryptions_above part (drop (i + 1) path) = ap (encryptions_above rest) steps_left ∙ above_part step rest part (drop (i + 1) path) n at in
          (λ k. moved_to ps s rest part (drop i path) (drop (i + 1) path) alike (so_far.0 k), λ k. so_far.1 (moved_to ps s part rest (drop (i + 1) path) (drop i path) (sym alike) k))

      pub one_step_in : answer ≡ false → IsInsideLeft ps s t path part (drop (i + 1) path)
      one_step_in not = ⊎_elim (λ e. plaintext_left e not) part_left (plaintext_or_not step)

-- The variables of a role, one after another.
use Rattle.std.proofs.Common.{◌≡◌, ℕ, suc, ◌+◌, ◌<◌, ◌≤◌, List, [], ◌∷◌, ◌++◌, length, get_or, map, drop, refl, Bool, true, false, if◌then◌else◌, sym, ap, ◌∙◌, add-one}
use Rattle.std.proofs.lemmas.List.{drop_all, append_assoc, append-nil}
use Rattle.cp_lists.proofs.Members.{drop_read}
use Rattle.cp_lists.proofs.Appended.{length_pushed}
use Rattle.cp_model.specs.Term.{Term}
use Rattle.cp_model.specs.declared.variable.Variable.{Variable}
use Rattle.cp_model.specs.declared.variable.Declaration.{Declaration}
use Rattle.cp_sexpr.specs.Syntax.{Form}
use Rattle.cp_language.specs.Problems.{Instantiated, instantiated, with_term, term_or_fresh, term_mapped, is_fresh}
use Rattle.cp_roles.specs.InstanceTerms.{IsInstantiated}

-- Of an instance these terms and variables are made, and the others are left.
pub record IsLeft (all left : Instantiated) (terms : List Term) (before now : List Declaration) : Type 0 where
  pub values : terms ++ left.terms ≡ all.terms
  pub made : now ++ left.fresh ≡ before ++ all.fresh

length-more : (b : Bool) (xs ys : List Declaration) (d : Declaration) → ys ≡ xs ++ (if b then d ∷ [] else []) → length ys ≡ (if b then suc (length xs) else length xs)
length-more b xs ys d e = by_test b e
  where
    by_test : (c : Bool) → ys ≡ xs ++ (if c then d ∷ [] else []) → length ys ≡ (if c then suc (length xs) else length xs)
    by_test true h = ap length h ∙ length_pushed xs d
    by_test false h = ap length h ∙ ap length (append-nil xs)

module _ (prefix : List Variable) (ds : List Declaration) (maplets : List Form) (vars : List Declaration) (k : ℕ) (all : Instantiated) (before : List Declaration) where
  pub variable-taken : (d : Declaration) → k < length vars → d ≡ get_or vars k d → (terms terms' : List Term) (t : Term) (now now' : List Declaration)
      → terms' ≡ terms ++ t ∷ []
      → t ≡ term_or_fresh (term_mapped ds d.identifier maplets) (is_fresh prefix ds maplets k d) d.sort (length now)
      → now' ≡ now ++ (if is_fresh prefix ds maplets k d then d ∷ [] else [])
      → IsLeft all (instantiated prefix ds maplets (length now) k (drop k vars)) terms before now
      → IsLeft all (instantiated prefix ds maplets (length now') (k + 1) (drop (k + 1) vars)) terms' before now'
  variable-taken d lt is terms terms' t now now' e f g h =
      let fresh = is_fresh prefix ds maplets k d in
      let rest = drop (k + 1) vars in
      let numbers : instantiated prefix ds maplets (length now') (k + 1) rest ≡ instantiated prefix ds maplets (if fresh then suc (length now) else length now) (suc k) rest =
      ap (λ n. instantiated prefix ds maplets n (k + 1) rest) (length-more fresh now now' d g)
      ∙ ap (λ n. instantiated prefix ds maplets (if fresh then suc (length now) else length now) n rest) (add-one k) in
      let left = instantiated prefix ds maplets (if fresh then suc (length now) else length now) (suc k) rest in
      let made = term_or_fresh (term_mapped ds d.identifier maplets) fresh d.sort (length now) in
      let whole : instantiated prefix ds maplets (length now) k (drop k vars) ≡ with_term made (if fresh then d ∷ [] else []) left =
      ap (λ ws. instantiated prefix ds maplets (length now) k ws) (drop_read vars k d lt is) in
      record {
        values = ap (λ i. terms' ++ i.terms) numbers ∙ ap (λ us. us ++ left.terms) (e ∙ ap (λ u. terms ++ u ∷ []) f) ∙ append_assoc terms (made ∷ []) left.terms
            ∙ sym (ap (λ i. terms ++ i.terms) whole) ∙ h.values;
        made = ap (λ i. now' ++ i.fresh) numbers ∙ ap (λ us. us ++ left.fresh) g ∙ append_assoc now (if fresh then d ∷ [] else []) left.fresh
            ∙ sym (ap (λ i. now ++ i.fresh) whole) ∙ h.made;
      }

  pub variables-done : length vars ≤ k → (terms : List Term) (next : ℕ) (now : List Declaration) → IsLeft all (instantiated prefix ds maplets next k (drop k vars)) terms before now → IsInstantiated all terms before now
  variables-done le terms next now h =
      let none : instantiated prefix ds maplets next k (drop k vars) ≡ record { terms = []; fresh = [] } = ap (λ ws. instantiated prefix ds maplets next k ws) (drop_all k vars le) in
      record {
        values = sym (append-nil terms) ∙ sym (ap (λ i. terms ++ i.terms) none) ∙ h.values;
        made = sym (append-nil now) ∙ sym (ap (λ i. now ++ i.fresh) none) ∙ h.made;
      }

pub same_items : (ds : List Declaration) → map (λ d. d) ds ≡ ds
same_items [] = refl
same_items (d ∷ ds) = ap (λ more. d ∷ more) (same_items ds)

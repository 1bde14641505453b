-- Patterns that may guard tests.
use Rattle.std.proofs.Common.{◌≡◌, ◌⊎◌, ⊎_elim, inl, inr, List, [], ◌∷◌, Bool, true, false, sym, ◌∙◌, refl, subst}
use Rattle.std.proofs.lemmas.Bool.{or_cases, or_left, or_parts}
use Rattle.cp_lists.specs.Lists.{IsIn, here, there}
use Rattle.cp_lists.proofs.Members.{not_in_none, of_each}
use Rattle.cp_model.proofs.CarriedParts.{not_both}
use Rattle.cp_model.specs.Term.{KeyTerm, Term, enc_term, variables_of, variables_of_key}
use Rattle.cp_model.specs.declared.variable.Variable.{Variable}
use Rattle.cp_model.specs.Tree.{Pattern}
use Rattle.cp_model.specs.Pattern.{IsPattern}
use Rattle.cp_model.specs.Same.{has_variable}
use Rattle.cp_model.proofs.SameTests.{variable_in, in_has_variable}
use Rattle.cp_pattern.specs.Within.{has_all_but, has_some, MayGuard}
use Rattle.cp_pattern.proofs.AllWithin.{are_within, within_all}

-- None of these variables is a local.
pub none_of : (locals xs : List Variable) → has_some locals xs ≡ false → (x : Variable) → IsIn x xs → IsIn x locals → ⊥
none_of locals [] e x i l = not_in_none i
none_of locals (y ∷ ys) e x i l =
    of_each (λ (z : Variable). IsIn z locals → ⊥)
    (λ j. not_both e (or_left (has_variable locals y) (has_some locals ys) (in_has_variable locals y j)))
    (none_of locals ys (or_parts (has_variable locals y) (has_some locals ys) e).1 x) i l

some_of : (locals xs : List Variable) → has_some locals xs ≡ true → (x : Variable) × IsIn x xs × IsIn x locals
some_of locals [] e = absurd (cc)
some_of locals (y ∷ ys) e =
    ⊎_elim (λ h. (y, here, variable_in locals y h)) (λ h. let r = some_of locals ys h in (r.0, there r.1, r.2)) (or_cases (has_variable locals y) (has_some locals ys) e)

module _ (used : List Variable) (p : Pattern) (is : IsPattern p) (body : Term) (key : KeyTerm) (encrypted : p.term ≡ enc_term body key) where
  pub may_guard : has_some p.locals (variables_of_key key) ≡ false → has_all_but p.locals used (variables_of p.term) ≡ true → MayGuard used p
  may_guard none all = record {
    pattern = is;
    key = λ other other_key x e i l.
        let same : other_key ≡ key = let f : enc_term other other_key ≡ enc_term body key = sym e ∙ encrypted in cc in
        none_of p.locals (variables_of_key key) none x (subst (λ (k : KeyTerm). IsIn x (variables_of_key k)) same i) l;
    free_used = λ x free. ⊎_elim (λ l. absurd (free.no_local l)) (λ i. i) (are_within p.locals used (variables_of p.term) all x free.occurs);
  }

  pub no_local_in_key : MayGuard used p → has_some p.locals (variables_of_key key) ≡ true → ⊥
  no_local_in_key g e = let r = some_of p.locals (variables_of_key key) e in g.key body key r.0 encrypted r.1 r.2

  all_by_test : MayGuard used p → (x : Variable) → IsIn x (variables_of p.term) → (b : Bool) → has_variable p.locals x ≡ b → IsIn x p.locals ⊎ IsIn x used
  all_by_test g x i true e = inl (variable_in p.locals x e)
  all_by_test g x i false e = inr (g.free_used x (record { occurs = i; no_local = λ l. not_both e (in_has_variable p.locals x l) }))

  pub all_used : MayGuard used p → has_all_but p.locals used (variables_of p.term) ≡ true
  all_used g = within_all p.locals used (variables_of p.term) (λ x i. all_by_test g x i (has_variable p.locals x) refl)

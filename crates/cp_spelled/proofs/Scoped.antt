-- What stands where a variable may, and the sorts of terms.
use Rattle.std.proofs.Common.{◌≡◌, ℕ, List, Bool, true, false, if◌then◌else◌, refl, sym, ap, ◌∙◌}
use Rattle.std.specs.Prelude.{Option, Some, None, option_map}
use Rattle.std.proofs.lemmas.Option.{same_Some}
use Rattle.cp_model.specs.declared.sort.Sort.{Sort}
use Rattle.cp_model.specs.declared.variable.Variable.{Variable}
use Rattle.cp_model.specs.Same.{same_sort}
use Rattle.cp_sexpr.specs.Syntax.{Form, symbol, string, number, list}
use Rattle.cp_language.specs.Words.{term_head}
use Rattle.cp_language.specs.Roles.{Headed, headed}
use Rattle.cp_language.specs.declared.sorts.TermSort.{TermSort}
use Rattle.cp_language.specs.declared.sorts.TermSort.TheVariants.{Atoms as of_atoms}
use Rattle.cp_language.specs.Terms.{variable_named, sort_of_variable}
use Rattle.cp_scope.specs.Forms.{symbol_in}
use Rattle.cp_scope.proofs.Views.{headed_is}
use Rattle.cp_report.specs.Heads.{forms_after_head}
use Rattle.cp_report.specs.Spelled.{Scope, is_local, local_by, variable_of_local, variable_in, sort_of_head, sort_by_shape, known_or, sort_in, is_found_of_sort}

-- ---- variables

module _ (s : Scope) where
  pub variable-symbol : (f : Form) (t : List ℕ) → Some t ≡ symbol_in f → variable_named s.variables t ≡ variable_in s f
  variable-symbol (symbol at u) t e = ap (variable_named s.variables) (same_Some t u e)
  variable-symbol (string at u) t e = absurd (cc)
  variable-symbol (number at n) t e = absurd (cc)
  variable-symbol (list at fs) t e = absurd (cc)

  pub variable-other : (f : Form) → None ≡ symbol_in f → (if is_local s f then variable_of_local s (local_by (forms_after_head f)) else None) ≡ variable_in s f
  variable-other (symbol at u) e = absurd (cc)
  variable-other (string at u) e = refl
  variable-other (number at n) e = refl
  variable-other (list at fs) e = refl

  sort_of_local : (o : Option Variable) → option_map (λ l. l.sort) o ≡ option_map (λ x. x.sort) (variable_of_local s o)
  sort_of_local None = refl
  sort_of_local (Some l) = refl

  pub local-sort : (f : Form) → is_local s f ≡ true
      → option_map (λ l. l.sort) (local_by (forms_after_head f)) ≡ option_map (λ x. x.sort) (if is_local s f then variable_of_local s (local_by (forms_after_head f)) else None)
  local-sort f e = sort_of_local (local_by (forms_after_head f)) ∙ sym (ap (λ (b : Bool). option_map (λ (x : Variable). x.sort) (if b then variable_of_local s (local_by (forms_after_head f)) else None)) e)

  pub no-local-sort : (f : Form) → is_local s f ≡ false → None ≡ option_map (λ x. x.sort) (if is_local s f then variable_of_local s (local_by (forms_after_head f)) else None)
  no-local-sort f e = sym (ap (λ (b : Bool). option_map (λ (x : Variable). x.sort) (if b then variable_of_local s (local_by (forms_after_head f)) else None)) e)

pub of-sort : (r q : Sort) (o : Option Variable) → Some q ≡ option_map (λ x. x.sort) o → same_sort r q ≡ is_found_of_sort r o
of-sort r q None e = absurd (cc)
of-sort r q (Some x) e = ap (same_sort r) (same_Some q x.sort e)

pub of-no-sort : (r : Sort) (o : Option Variable) → None ≡ option_map (λ x. x.sort) o → false ≡ is_found_of_sort r o
of-no-sort r None e = refl
of-no-sort r (Some x) e = absurd (cc)

-- ---- sorts

pub shape-headed : (f : Form) (h : Headed) → Some h ≡ headed f → sort_of_head (term_head h.head) ≡ sort_by_shape f
shape-headed f h e = sym (ap sort_by_shape (headed_is f h (sym e)).whole)

known_variable : (o : Option Variable) (q : Sort) (other : Option TermSort) → Some q ≡ option_map (λ x. x.sort) o → Some (of_atoms q) ≡ known_or (sort_of_variable o) other
known_variable None q other e = absurd (cc)
known_variable (Some x) q other e = ap (λ r. Some (of_atoms r)) (same_Some q x.sort e)

known_other : (o : Option Variable) (other : Option TermSort) → None ≡ option_map (λ x. x.sort) o → other ≡ known_or (sort_of_variable o) other
known_other None other e = refl
known_other (Some x) other e = absurd (cc)

pub sort-variable : (s : Scope) (f : Form) (q : Sort) → Some q ≡ option_map (λ x. x.sort) (variable_in s f) → Some (of_atoms q) ≡ sort_in s f
sort-variable s f q e = known_variable (variable_in s f) q (sort_by_shape f) e

pub sort-shape : (s : Scope) (f : Form) → None ≡ option_map (λ x. x.sort) (variable_in s f) → sort_by_shape f ≡ sort_in s f
sort-shape s f e = known_other (variable_in s f) (sort_by_shape f) e

-- The term that maplets give an identifier.
use Rattle.std.proofs.Common.{◌≡◌, ℕ, List, [], ◌∷◌, Bool, true, false, if◌then◌else◌, option_map, refl, sym, ap, ◌∙◌}
use Rattle.std.specs.Prelude.{Option, Some, None}
use Rattle.cp_model.specs.Term.{Term}
use Rattle.cp_model.specs.declared.variable.Declaration.{Declaration}
use Rattle.cp_sexpr.specs.Syntax.{Form, symbol, string, number, list, none, more}
use Rattle.cp_language.specs.Words.{is_one_of}
use Rattle.cp_language.specs.Roles.{list_items}
use Rattle.cp_language.specs.Problems.{mapped_identifier, second_form, term_mapped}
use Rattle.cp_roles.specs.InstanceTerms.{maplet_named, term_if_there}

module _ (ds : List Declaration) (t : List ℕ) where
  abbrev pub right_of : Form → Term
  right_of f = term_if_there ds (second_form (list_items f))

  step : (b : Bool) (f : Form) (term : Term) (o : Option Term) (p : Option Form) → term ≡ right_of f → o ≡ option_map right_of p → (if b then Some term else o) ≡ option_map right_of (if b then Some f else p)
  step true f term o p e g = ap Some e
  step false f term o p e g = g

  pub mapped-named : (fs : List Form) → term_mapped ds t fs ≡ option_map right_of (maplet_named t fs)
  mapped-named [] = refl
  mapped-named (symbol at x ∷ fs) = step (is_one_of t (mapped_identifier (symbol at x))) (symbol at x) _ (term_mapped ds t fs) (maplet_named t fs) refl (mapped-named fs)
  mapped-named (string at x ∷ fs) = step (is_one_of t (mapped_identifier (string at x))) (string at x) _ (term_mapped ds t fs) (maplet_named t fs) refl (mapped-named fs)
  mapped-named (number at x ∷ fs) = step (is_one_of t (mapped_identifier (number at x))) (number at x) _ (term_mapped ds t fs) (maplet_named t fs) refl (mapped-named fs)
  mapped-named (list at none ∷ fs) = step (is_one_of t (mapped_identifier (list at none))) (list at none) _ (term_mapped ds t fs) (maplet_named t fs) refl (mapped-named fs)
  mapped-named (list at (more f none) ∷ fs) = step (is_one_of t (mapped_identifier (list at (more f none)))) (list at (more f none)) _ (term_mapped ds t fs) (maplet_named t fs) refl (mapped-named fs)
  mapped-named (list at (more f (more g gs)) ∷ fs) = step (is_one_of t (mapped_identifier (list at (more f (more g gs))))) (list at (more f (more g gs))) _ (term_mapped ds t fs) (maplet_named t fs) refl (mapped-named fs)

  pub mapped_some : (fs : List Form) (f : Form) (term : Term) → Some f ≡ maplet_named t fs → term ≡ right_of f → Some term ≡ term_mapped ds t fs
  mapped_some fs f term e g = ap Some g ∙ ap (option_map right_of) e ∙ sym (mapped-named fs)

  pub mapped_none : (fs : List Form) → None ≡ maplet_named t fs → None ≡ term_mapped ds t fs
  mapped_none fs e = ap (option_map right_of) e ∙ sym (mapped-named fs)

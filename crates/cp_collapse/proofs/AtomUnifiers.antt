-- Most general unifiers of two atoms, as the unification of terms gives them.
use Rattle.std.proofs.Common.{◌≡◌, [], refl, ap, ◌∙◌}
use Rattle.std.specs.Prelude.{List}
use Rattle.cp_model.specs.Message.{atom}
use Rattle.cp_model.specs.Term.{AtomTerm, atom_term, Assignment, value_of_atom, after, apply_to_atom}
use Rattle.cp_model.proofs.LawTerms.{value_after}
use Rattle.cp_unify.specs.Bindings.{Binding, Meets, as_substitution}
use Rattle.cp_unify.specs.Unifiers.{AreLaterToEarlier, IsMostGeneralUnifier, HasNoUnifier}
use Rattle.cp_unify.proofs.SolvedBindings.{idempotent_term}
use Rattle.cp_unify.proofs.Substituted.{value_met}
use Rattle.cp_collapse.specs.Directed.{BindsLaterToEarlier, IsMostGeneralFor}

-- Bindings that are always met bind later variables to earlier ones where each of them does.
pub directed : (r : List Binding) → ((g : Assignment) → Meets (after g (as_substitution r)) r) → AreLaterToEarlier r → BindsLaterToEarlier (as_substitution r)
directed r met later = record {
  bindings = r;
  is_substitution = refl;
  later_to_earlier = later;
  idempotent = idempotent_term r met;
}

pub most_general_for : (a b : AtomTerm) (r : List Binding) → IsMostGeneralUnifier (atom_term a) (atom_term b) [] r → IsMostGeneralFor a b (as_substitution r)
most_general_for a b r m = record {
  unifies = let e : atom_term (apply_to_atom (as_substitution r) a) ≡ atom_term (apply_to_atom (as_substitution r) b) = m.unifies in cc;
  general = λ g e t. value_after g (as_substitution r) t ∙ value_met g r t (m.general g tt (ap atom e));
  directed = record { bindings = r; is_substitution = refl; later_to_earlier = m.later_to_earlier; idempotent = m.idempotent };
}

pub never_equal : (a b : AtomTerm) → HasNoUnifier (atom_term a) (atom_term b) [] → (g : Assignment) → value_of_atom g a ≡ value_of_atom g b → ⊥
never_equal a b never g e = never g tt (ap atom e)

-- A skeleton over the protocol that keeps what its problem states has the images of all of the problem's assumptions: of those
-- that the problem states itself, and of those that its strands' roles give.
use Rattle.std.proofs.Common.{◌≡◌, ℕ, ◌+◌, List, Some, refl, sym, ap, ◌∙◌, subst, ⊎_elim, lt_of_lt_of_le, arith}
use Rattle.cp_lists.specs.Lists.{item_at, IsIn}
use Rattle.cp_model.specs.Term.{AtomTerm, Term, apply_to, apply_to_atom, composed}
use Rattle.cp_model.specs.Bindings.{Binding, as_substitution}
use Rattle.cp_model.specs.Strand.{Role, Protocol, Applies}
use Rattle.cp_model.specs.declared.variable.Declaration.{Declaration}
use Rattle.cp_model.specs.Bundle.{node_at}
use Rattle.cp_model.specs.declared.node.Node.{Node}
use Rattle.cp_model.specs.Skeleton.{instance, listener, UniqueAt, Skeleton, Before, IsSkeleton}
use Rattle.cp_model.specs.Homomorphism.{SkeletonMap, mapped, GoesToInstance, IsHomomorphism, map_from_problem}
use Rattle.cp_model.specs.PointOfView.{IsPointOfView}
use Rattle.cp_model.specs.Stated.{KeepsStated}
use Rattle.cp_model.proofs.LawAgreement.{agree_atom}
use Rattle.cp_model.proofs.LawPrefixes.{variables_of_higher}
use Rattle.cp_model.proofs.LawTerms.{atom_composed}
use Rattle.cp_model.specs.GivenAssumptions.{IsGivenFrom, IsOriginFrom}
use Rattle.cp_model.proofs.UnderVariables.{applies_at}
use Rattle.cp_general.proofs.GivenByStrands.{IsGivenByOne, GivesAtom, non_given_by, penetrator_non_given_by, unique_given_by}

-- ---- where instances go, what they give goes too

module _ (protocol : Protocol) (g : Skeleton) (sk : IsSkeleton protocol g) (f : SkeletonMap) (s : ℕ) (role : Role) (height : ℕ) (terms : List Binding) (goes : GoesToInstance g f s role height terms) where
  higher : (v : AtomTerm) → Applies role height v → Applies role goes.to_height v
  higher v applies x i = variables_of_higher role height goes.to_height goes.at_least x (applies x i)

  image_is : (v : AtomTerm) → Applies role height v → apply_to_atom (as_substitution goes.to_terms) v ≡ apply_to_atom f.terms (apply_to_atom (as_substitution terms) v)
  image_is v applies = sym (agree_atom (composed (as_substitution terms) f.terms) (as_substitution goes.to_terms) v (λ x i. goes.equal_terms x (applies x i))) ∙ atom_composed (as_substitution terms) f.terms v

  -- where the instance stands now gives all that its role states, what it gave goes to one of these
  atom_goes : (stated listed : List AtomTerm) → ((v : AtomTerm) → IsIn v stated → Applies role goes.to_height v → IsIn (apply_to_atom (as_substitution goes.to_terms) v) listed) → (v : AtomTerm) → IsGivenFrom stated role height terms v →
      IsIn (apply_to_atom f.terms v) listed
  atom_goes stated listed gives v given =
      subst (λ (w : AtomTerm). IsIn w listed) (image_is given.atom given.applies ∙ ap (apply_to_atom f.terms) (sym given.same)) (gives given.atom given.listed (higher given.atom given.applies))

  -- A unique value where the map takes it.
  abbrev image : UniqueAt → UniqueAt
  image u = record { value = apply_to_atom f.terms u.value; origin = mapped f u.origin }

  unique_goes : (u : UniqueAt) → IsOriginFrom role.uniquely_originating role height terms s u → IsIn (image u) g.assumptions.uniquely_originating
  unique_goes u given =
      let e : apply_to_atom (as_substitution goes.to_terms) given.atom ≡ apply_to_atom f.terms (apply_to_atom (as_substitution terms) given.atom) = image_is given.atom (applies_at role height given.atom given.index given.applies) in
      subst (λ (w : UniqueAt). IsIn (image w) g.assumptions.uniquely_originating) (sym given.same)
      (subst (λ (w : AtomTerm). IsIn (record { value = w; origin = node_at (f.strands s) given.index }) g.assumptions.uniquely_originating) e
      ((sk.given (f.strands s) role goes.to_height goes.to_terms goes.on_instance).unique given.atom given.index given.listed (given.applies.0, lt_of_lt_of_le given.applies.1 goes.at_least)))

-- ---- the homomorphism

module _ (protocol : Protocol) (variables : List Declaration) (problem g : Skeleton) (own : IsPointOfView variables problem) (sk : IsSkeleton protocol g) (stated : KeepsStated problem g)
    (instances : (s : ℕ) (role : Role) (height : ℕ) (terms : List Binding) → item_at problem.strands s ≡ Some (instance role height terms) → GoesToInstance g (map_from_problem g) s role height terms) where
  abbrev f : SkeletonMap
  f = map_from_problem g

  -- an assumption that the problem states itself is there, and so is one that a strand gives
  atom_there : (stated : Role → List AtomTerm) (listed : List AtomTerm)
      → ((s : ℕ) (role : Role) (height : ℕ) (terms : List Binding) → item_at g.strands s ≡ Some (instance role height terms) → (w : AtomTerm) → IsIn w (stated role) → Applies role height w → IsIn (apply_to_atom (as_substitution terms) w) listed)
      → (v : AtomTerm) → IsGivenByOne (GivesAtom stated v) problem.strands → IsIn (apply_to_atom f.terms v) listed
  atom_there stated listed gives v r =
      let goes = instances r.strand r.role r.height r.terms r.on_instance in
      atom_goes protocol g sk f r.strand r.role r.height r.terms goes (stated r.role) listed (gives (f.strands r.strand) r.role goes.to_height goes.to_terms goes.on_instance) v r.given

  non_there : (v : AtomTerm) → IsIn v problem.assumptions.non_originating → IsIn (apply_to_atom f.terms v) g.assumptions.non_originating
  non_there v i =
      ⊎_elim (λ j. stated.assumed.non (apply_to_atom f.terms v) ((stated.non (apply_to_atom f.terms v)).1 (record { item = v; listed = j; image = refl })))
      (λ j. atom_there (λ role. role.non_originating) g.assumptions.non_originating (λ s role height terms at. (sk.given s role height terms at).non) v (non_given_by problem.strands v j)) (own.no_more.non v i)

  penetrator_non_there : (v : AtomTerm) → IsIn v problem.assumptions.penetrator_non_originating → IsIn (apply_to_atom f.terms v) g.assumptions.penetrator_non_originating
  penetrator_non_there v i =
      ⊎_elim (λ j. stated.assumed.penetrator_non (apply_to_atom f.terms v) ((stated.penetrator_non (apply_to_atom f.terms v)).1 (record { item = v; listed = j; image = refl })))
      (λ j. atom_there (λ role. role.penetrator_non_originating) g.assumptions.penetrator_non_originating (λ s role height terms at. (sk.given s role height terms at).penetrator_non) v (penetrator_non_given_by problem.strands v j))
      (own.no_more.penetrator_non v i)

  unique_there : (u : UniqueAt) → IsIn u problem.assumptions.uniquely_originating → IsIn (record { value = apply_to_atom f.terms u.value; origin = mapped f u.origin }) g.assumptions.uniquely_originating
  unique_there u i =
      let there : UniqueAt = record { value = apply_to_atom f.terms u.value; origin = mapped f u.origin } in
      ⊎_elim
      (λ j. stated.assumed.unique there ((stated.unique there).1 (record { item = u; listed = j; image = refl })))
      (λ j. let r = unique_given_by 0 problem.strands u j in
      unique_goes protocol g sk f r.strand r.role r.height r.terms (instances r.strand r.role r.height r.terms r.on_instance) u
      (let e : 0 + r.strand ≡ r.strand = omega arith in subst (λ (s : ℕ). IsOriginFrom r.role.uniquely_originating r.role r.height r.terms s u) e r.given))
      (own.no_more.unique u i)

  pub homomorphism_by_stated : ((s : ℕ) (t : Term) → item_at problem.strands s ≡ Some (listener t) → item_at g.strands (f.strands s) ≡ Some (listener (apply_to f.terms t))) →
      ((x y : Node) → Before problem x y → Before g (mapped f x) (mapped f y)) → IsHomomorphism problem g f
  homomorphism_by_stated listeners ordered = record {
    instances = instances;
    listeners = listeners;
    ordered = ordered;
    non = non_there;
    penetrator_non = penetrator_non_there;
    unique = unique_there;
  }

-- What is held of an instance, under a substitution, is what is held of the instance under it.
use Rattle.std.proofs.Common.{◌≡◌, ◌<◌, nat_lt, ℕ, List, [], ◌∷◌, ◌++◌, map, Bool, true, false, Option, Some, None, if◌then◌else◌, refl, sym, ap, ap₂, ◌∙◌, arith}
use Rattle.std.proofs.lemmas.Bool.Decides.{nat_tests}
use Rattle.std.proofs.lemmas.List.{append-nil, map-append}
use Rattle.cp_lists.specs.Lists.{IsIn}
use Rattle.cp_lists.proofs.Members.{in_append_left, in_append_right}
use Rattle.cp_model.specs.Term.{Term, AtomTerm, atom_term, Substitution, AgreeOnTerms, composed, variable_term, apply_to, apply_to_atom, variables_of, variables_of_atom}
use Rattle.cp_model.specs.Bindings.{Binding, as_substitution, bindings_of}
use Rattle.cp_model.specs.Values.{substitution_by}
use Rattle.cp_model.specs.declared.variable.Variable.{Variable}
use Rattle.cp_model.specs.declared.strand.Event.{Event}
use Rattle.cp_model.specs.declared.strand.Event.TheVariants.{Send as send, Receive as recv}
use Rattle.cp_model.specs.Strand.{payload, event_map, Role, prefix_of, variables_of_trace, variables_of_prefix}
use Rattle.cp_model.specs.Bundle.{node_at}
use Rattle.cp_model.specs.Skeleton.{skeleton_trace, UniqueAt}
use Rattle.cp_model.specs.Same.{has_variables, origin_in}
use Rattle.cp_model.specs.Given.{applying, unique_if_below, applying_uniques}
use Rattle.cp_model.specs.Declares.{DeclaresItsVariables}
use Rattle.cp_model.specs.PrefixVariables.{declared_variables, terms_of}
use Rattle.cp_model.proofs.DeclaredTerms.{declared_kept, bindings_are}
use Rattle.cp_model.proofs.LawAgreement.{agree_atom, agree_term}
use Rattle.cp_model.proofs.LawPrefixes.{in_front_of_trace}
use Rattle.cp_model.proofs.LawTerms.{atom_composed, term_composed}
use Rattle.cp_model.proofs.SameTests.{origin_found, variables_there}
use Rattle.cp_model.proofs.UnderVariables.{applies_at}
use Rattle.cp_theory.specs.Normal.{unique_under}
use Rattle.cp_strand.specs.Givens.{unique_on, IsGivenBy}
use Rattle.cp_strand.specs.View.{InstanceData, instance_view}
use Rattle.cp_strand.specs.declared.given.Given.{Given}
use Rattle.cp_strand.specs.declared.given.IndexedUnique.{IndexedUnique}
use Rattle.cp_collapse.specs.Held.{indexed_under, IsGivenUnder}

-- ---- events

-- Where a substitution gives the variables what two others give them one after the other, it gives the events that.
module _ (f s g : Substitution) where
  event_under : (e : Event Term) → AgreeOnTerms (variables_of (payload e)) (composed f s) g → event_map (apply_to s) (event_map (apply_to f) e) ≡ event_map (apply_to g) e
  event_under (send t) a = ap send (sym (term_composed f s t) ∙ agree_term (composed f s) g t a)
  event_under (recv t) a = ap recv (sym (term_composed f s t) ∙ agree_term (composed f s) g t a)

  events_under : (es : List (Event Term)) → AgreeOnTerms (variables_of_trace es) (composed f s) g → map (event_map (apply_to s)) (map (event_map (apply_to f)) es) ≡ map (event_map (apply_to g)) es
  events_under [] a = refl
  events_under (e ∷ es) a =
      ap₂ (λ (d : Event Term) (ds : List (Event Term)). d ∷ ds) (event_under e (λ x i. a x (in_append_left (variables_of_trace es) i)))
      (events_under es (λ x i. a x (in_append_right (variables_of (payload e)) i)))

-- An event whose message stays is left.
pub event_left : (f : Term → Term) (e : Event Term) (t : Term) → t ≡ payload e → f t ≡ t → event_map f e ≡ e
event_left f (send m) t is left = ap send (sym (ap f is) ∙ left ∙ is)
event_left f (recv m) t is left = ap recv (sym (ap f is) ∙ left ∙ is)

-- ---- what a role gives

below : (m n : ℕ) → nat_lt m n ≡ true → m < n
below m n h = grind (arith, nat_tests)

module _ (role : Role) (height : ℕ) (terms new : List Binding) (s : Substitution) (agree : AgreeOnTerms (variables_of_prefix role height) (composed (as_substitution terms) s) (as_substitution new)) where
  atom_under : (v : AtomTerm) → ((x : Variable) → IsIn x (variables_of_atom v) → IsIn x (variables_of_prefix role height)) →
      apply_to_atom s (apply_to_atom (as_substitution terms) v) ≡ apply_to_atom (as_substitution new) v
  atom_under v occur = sym (atom_composed (as_substitution terms) s v) ∙ agree_atom (composed (as_substitution terms) s) (as_substitution new) v (λ x i. agree x (occur x i))

  one_applying : (b : Bool) (v : AtomTerm) (us vs : List AtomTerm) → has_variables (variables_of_prefix role height) (variables_of_atom v) ≡ b → map (apply_to_atom s) us ≡ vs →
      map (apply_to_atom s) (if b then apply_to_atom (as_substitution terms) v ∷ us else us) ≡ (if b then apply_to_atom (as_substitution new) v ∷ vs else vs)
  one_applying true v us vs test e =
      ap₂ (λ (w : AtomTerm) (ws : List AtomTerm). w ∷ ws) (atom_under v (variables_there (variables_of_prefix role height) (variables_of_atom v) test)) e
  one_applying false v us vs test e = e

  applying_under : (vs : List AtomTerm) → map (apply_to_atom s) (applying role height terms vs) ≡ applying role height new vs
  applying_under [] = refl
  applying_under (v ∷ vs) =
      one_applying (has_variables (variables_of_prefix role height) (variables_of_atom v)) v (applying role height terms vs) (applying role height new vs) refl (applying_under vs)

  module _ (n : ℕ) where
    abbrev unique_at : ℕ → AtomTerm → UniqueAt
    unique_at i w = record { value = w; origin = node_at n i }

    if_below : (v : AtomTerm) (i : ℕ) (b : Bool) → origin_in role.trace (atom_term v) ≡ Some i → nat_lt i height ≡ b →
        map (unique_under s) (if b then unique_at i (apply_to_atom (as_substitution terms) v) ∷ [] else [])
        ≡ (if b then unique_at i (apply_to_atom (as_substitution new) v) ∷ [] else [])
    if_below v i true place test =
        ap (λ (w : AtomTerm). unique_at i w ∷ [])
        (atom_under v (applies_at role height v i (origin_found role.trace (atom_term v) i place, below i height test)))
    if_below v i false place test = refl

    one_unique : (v : AtomTerm) (o : Option ℕ) → origin_in role.trace (atom_term v) ≡ o →
        map (unique_under s) (unique_if_below height n (apply_to_atom (as_substitution terms) v) o) ≡ unique_if_below height n (apply_to_atom (as_substitution new) v) o
    one_unique v None place = refl
    one_unique v (Some i) place = if_below v i (nat_lt i height) place refl

    uniques_under : (vs : List AtomTerm) → map (unique_under s) (applying_uniques role height terms n vs) ≡ applying_uniques role height new n vs
    uniques_under [] = refl
    uniques_under (v ∷ vs) =
        map-append (unique_under s) (unique_if_below height n (apply_to_atom (as_substitution terms) v) (origin_in role.trace (atom_term v))) (applying_uniques role height terms n vs)
        ∙ ap₂ (λ (us ws : List UniqueAt). us ++ ws) (one_unique v (origin_in role.trace (atom_term v)) refl) (uniques_under vs)

on_under : (s : Substitution) (n : ℕ) (us : List IndexedUnique) → map (unique_on n) (map (indexed_under s) us) ≡ map (unique_under s) (map (unique_on n) us)
on_under s n [] = refl
on_under s n (u ∷ us) = ap (λ (ws : List UniqueAt). unique_on n (indexed_under s u) ∷ ws) (on_under s n us)

-- ---- instances

abbrev instance_with : List Term → Role → ℕ → InstanceData
instance_with vs r h = record { role = r; height = h; values = vs }

-- The instance of the same role at the same height.
pub changed_instance : (i j : InstanceData) (vs : List Term) (r : Role) (h : ℕ) → j ≡ record { role = r; height = h; values = vs } → r ≡ i.role → h ≡ i.height → record i { values = vs } ≡ j
changed_instance i j vs r h is role height = sym (is ∙ ap₂ (instance_with vs) role height)

module _ (s : Substitution) (i : InstanceData) (vs : List Term) (declares : DeclaresItsVariables i.role)
    (changed : vs ≡ terms_of (composed (substitution_by i.values) s) (declared_variables 0 i.role.variables)) where
  abbrev new : InstanceData
  new = record i { values = vs }

  agree : AgreeOnTerms (variables_of_prefix i.role i.height) (composed (as_substitution (bindings_of i.values)) s) (as_substitution (bindings_of vs))
  agree x p =
      ap (λ (r : Substitution). apply_to (composed r s) (variable_term x)) (bindings_are i.values)
      ∙ sym (declared_kept i.role.variables (composed (substitution_by i.values) s) x (declares x (in_front_of_trace i.height i.role.trace x p)))
      ∙ ap (λ (ts : List Term). apply_to (substitution_by ts) (variable_term x)) (sym changed)
      ∙ ap (λ (r : Substitution). apply_to r (variable_term x)) (sym (bindings_are vs))

  -- The events of the instance under a substitution.
  pub held_events : (es fs : List (Event Term)) → es ≡ skeleton_trace (instance_view i) → fs ≡ map (event_map (apply_to s)) es → fs ≡ skeleton_trace (instance_view new)
  held_events es fs own under =
      under ∙ ap (map (event_map (apply_to s))) own
      ∙ events_under (as_substitution (bindings_of i.values)) s (as_substitution (bindings_of vs)) (prefix_of i.role i.height) agree

  applying_held : (stated us ws : List AtomTerm) → us ≡ applying i.role i.height (bindings_of i.values) stated ++ [] → ws ≡ map (apply_to_atom s) us → ws ≡ applying i.role i.height (bindings_of vs) stated ++ []
  applying_held stated us ws own under =
      under ∙ ap (map (apply_to_atom s)) (own ∙ append-nil (applying i.role i.height (bindings_of i.values) stated))
      ∙ applying_under i.role i.height (bindings_of i.values) (bindings_of vs) s agree stated
      ∙ sym (append-nil (applying i.role i.height (bindings_of vs) stated))

  uniques_held : (n : ℕ) (us ws : List IndexedUnique) → map (unique_on n) us ≡ applying_uniques i.role i.height (bindings_of i.values) n i.role.uniquely_originating ++ [] → ws ≡ map (indexed_under s) us →
      map (unique_on n) ws ≡ applying_uniques i.role i.height (bindings_of vs) n i.role.uniquely_originating ++ []
  uniques_held n us ws own under =
      let stated = i.role.uniquely_originating in
      ap (map (unique_on n)) under ∙ on_under s n us
      ∙ ap (map (unique_under s)) (own ∙ append-nil (applying_uniques i.role i.height (bindings_of i.values) n stated))
      ∙ uniques_under i.role i.height (bindings_of i.values) (bindings_of vs) s agree n stated
      ∙ sym (append-nil (applying_uniques i.role i.height (bindings_of vs) n stated))

  -- What its role gives it.
  pub held_given : (g h : Given) → IsGivenBy (instance_view i) g → IsGivenUnder s g h → IsGivenBy (instance_view new) h
  held_given g h own under = record {
    non = applying_held i.role.non_originating g.non_originating.items h.non_originating.items own.non under.non;
    penetrator_non = applying_held i.role.penetrator_non_originating g.penetrator_non_originating.items h.penetrator_non_originating.items own.penetrator_non under.penetrator_non;
    unique = λ n. uniques_held n g.uniquely_originating.items h.uniquely_originating.items (own.unique n) under.unique;
  }

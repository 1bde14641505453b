-- Assumptions that fit: all that the roles give is among them, and recorded origins are ones.
use Rattle.std.proofs.Common.{◌≡◌, ℕ, List, [], ◌∷◌, ◌++◌, map, Bool, true, not, Option, Some, None, refl}
use Rattle.std.proofs.lemmas.Bool.{and_parts}
use Rattle.cp_base.specs.declared.place.Place.{Place}
use Rattle.cp_lists.specs.Lists.{item_at, IsIn, here, there}
use Rattle.cp_lists.proofs.Appended.{none_in_both}
use Rattle.cp_model.specs.Term.{AtomTerm, Term, atom_term}
use Rattle.cp_model.specs.Bindings.{Binding}
use Rattle.cp_model.specs.Strand.{Role}
use Rattle.cp_model.specs.declared.strand.Event.{Event}
use Rattle.cp_model.specs.declared.strand.Event.TheVariants.{Send as send, Receive as recv}
use Rattle.cp_model.specs.Skeleton.{SkeletonStrand, instance, listener, term_event_at, UniqueAt, Skeleton, IsOrigin}
use Rattle.cp_model.specs.Given.{has_atom, has_unique}
use Rattle.cp_model.specs.Same.{carries}
use Rattle.cp_model.proofs.SameTests.{carried}
use Rattle.cp_model.proofs.Gathered.{atoms, uniques}
use Rattle.cp_sexpr.specs.Syntax.{Form}
use Rattle.cp_language.specs.Faults.{place_of}
use Rattle.cp_language.specs.Roles.{list_items}
use Rattle.cp_language.specs.Problems.{second_form}
use Rattle.cp_report.specs.Misfits.{misfit_unless, unless_misfit, list_misfits, entries_misfits, lacking}
use Rattle.cp_report.specs.Heads.{forms_after_head, entries_or_none, place_or, optional_misfits}
use Rattle.cp_report.specs.Spelled.{Scope, atom_misfits}
use Rattle.cp_report.specs.Skeletons.{node_misfits, has_atoms, has_uniques, assumption_misfits, carries_value, is_instance_there, may_be_origin, unique_of, second_place, unique_misfits, uniques_misfits}
use Rattle.cp_report.proofs.NoMisfits.{none_of_unless, holds}

-- ---- what is given

pub given_atoms : (vs ws : List AtomTerm) → has_atoms vs ws ≡ true → (v : AtomTerm) → IsIn v ws → IsIn v vs
given_atoms vs [] e v m = elim m [ ]
given_atoms vs (w ∷ ws) e v here = atoms.found vs v (and_parts (has_atom vs v) (has_atoms vs ws) e).0
given_atoms vs (w ∷ ws) e v (there m) = given_atoms vs ws (and_parts (has_atom vs w) (has_atoms vs ws) e).1 v m

pub given_there : (us ws : List UniqueAt) → has_uniques us ws ≡ true → (u : UniqueAt) → IsIn u ws → IsIn u us
given_there us [] e u m = elim m [ ]
given_there us (w ∷ ws) e u here = uniques.found us u (and_parts (has_unique us u) (has_uniques us ws) e).0
given_there us (w ∷ ws) e u (there m) = given_there us ws (and_parts (has_unique us w) (has_uniques us ws) e).1 u m

-- ---- an assumption

pub all_given : (at : Place) (item : Option Form) (inside : List Form → List Place) (b : Bool) → assumption_misfits at item (λ fs. inside fs) b ≡ [] → b ≡ true
all_given at item inside b e =
    holds b (place_or at item) (none_of_unless (optional_misfits (λ p fs. lacking 1 p fs ++ inside fs) item) (misfit_unless b (place_or at item)) e).1

pub inside_fits : (at : Place) (item : Option Form) (inside : List Form → List Place) (b : Bool) → inside [] ≡ [] → assumption_misfits at item (λ fs. inside fs) b ≡ [] → inside (entries_or_none item) ≡ []
inside_fits at None inside b none e = none
inside_fits at (Some f) inside b none e =
    let first = none_of_unless (lacking 1 (place_of f) (forms_after_head f) ++ inside (forms_after_head f)) (misfit_unless b (place_of f)) e in
    (none_in_both (lacking 1 (place_of f) (forms_after_head f)) (inside (forms_after_head f)) first.0).1

-- ---- origins

instance_found : (o : Option SkeletonStrand) → is_instance_there o ≡ true → (role : Role) × (height : ℕ) × (terms : List Binding) × (o ≡ Some (instance role height terms))
instance_found None e = absurd (cc)
instance_found (Some (instance role height terms)) e = (role, height, terms, refl)
instance_found (Some (listener t)) e = absurd (cc)

sent_found : (v : AtomTerm) (o : Option (Event Term)) → carries_value v o ≡ true → (t : Term) × (o ≡ Some (send t)) × (carries t (atom_term v) ≡ true)
sent_found v None e = absurd (cc)
sent_found v (Some (send t)) e = (t, refl, e)
sent_found v (Some (recv t)) e = absurd (cc)

module _ (k : Skeleton) where
  is_origin : (u : UniqueAt) → may_be_origin k.strands u.value u.origin ≡ true → IsOrigin k u
  is_origin u e =
      let p = and_parts (is_instance_there (item_at k.strands u.origin.strand)) (carries_value u.value (term_event_at k.strands u.origin)) e in
      let i = instance_found (item_at k.strands u.origin.strand) p.0 in
      let s = sent_found u.value (term_event_at k.strands u.origin) p.1 in
      record { role = i.0; height = i.1; terms = i.2; on_instance = i.3; sent = s.0; transmission = s.1; carried = carried s.0 (atom_term u.value) s.2 }

  one_origin : (s : Scope) (before : List UniqueAt) (f : Form) → unique_misfits s k.strands before f ≡ [] → IsOrigin k (unique_of s f)
  one_origin s before f e =
      let shape = list_misfits (entries_misfits (atom_misfits s ∷ node_misfits k.strands ∷ [])) f in
      let origin = misfit_unless (may_be_origin k.strands (unique_of s f).value (unique_of s f).origin) (second_place f (second_form (list_items f))) in
      let once = misfit_unless (not (has_unique before (unique_of s f))) (place_of f) in
      let rest = (none_of_unless shape (unless_misfit origin once) e).1 in
      is_origin (unique_of s f) (holds (may_be_origin k.strands (unique_of s f).value (unique_of s f).origin) (second_place f (second_form (list_items f))) (none_of_unless origin once rest).0)

  pub have_origins : (s : Scope) (before : List UniqueAt) (fs : List Form) → uniques_misfits s k.strands before fs ≡ [] → (u : UniqueAt) → IsIn u (map (unique_of s) fs) → IsOrigin k u
  have_origins s before [] e u m = elim m [ ]
  have_origins s before (f ∷ fs) e u here = one_origin s before f (none_in_both (unique_misfits s k.strands before f) (uniques_misfits s k.strands (before ++ unique_of s f ∷ []) fs) e).0
  have_origins s before (f ∷ fs) e u (there m) = have_origins s (before ++ unique_of s f ∷ []) fs (none_in_both (unique_misfits s k.strands before f) (uniques_misfits s k.strands (before ++ unique_of s f ∷ []) fs) e).1 u m

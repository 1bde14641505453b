-- Unique values with their recorded origins as a report lists them: each stands once, they fit, and they are read back as
-- the same under the renaming.
use Rattle.std.proofs.Common.{◌≡◌, ℕ, List, [], ◌∷◌, ◌++◌, Bool, true, false, refl, ap, ◌∙◌}
use Rattle.std.specs.Prelude.{Some, map, not, option_map}
use Rattle.std.proofs.lemmas.Bool.{and_from}
use Rattle.cp_base.specs.declared.place.Place.{Place}
use Rattle.cp_lists.specs.Lists.{item_at, IsIn, here, there}
use Rattle.cp_model.specs.Senders.{ArePaired}
use Rattle.cp_model.specs.Term.{AtomTerm, atom_term, variables_of_atom, apply_to, apply_to_atom}
use Rattle.cp_model.specs.declared.variable.Variable.{Variable}
use Rattle.cp_model.specs.Strand.{event_map}
use Rattle.cp_model.specs.declared.strand.Event.TheVariants.{Send as send}
use Rattle.cp_model.specs.declared.node.Node.{Node}
use Rattle.cp_model.specs.Skeleton.{SkeletonStrand, term_event_at, UniqueAt, Skeleton, IsOrigin}
use Rattle.cp_model.specs.Given.{has_unique}
use Rattle.cp_model.proofs.Gathered.{uniques}
use Rattle.cp_model.proofs.LawTerms.{carried_under}
use Rattle.cp_model.proofs.SameTests.{is_carried}
use Rattle.cp_sexpr.specs.Syntax.{Form}
use Rattle.cp_language.specs.Problems.{is_known}
use Rattle.cp_language.specs.Printed.{no_place, atom_form}
use Rattle.cp_language.specs.Report.{node_form, unique_form}
use Rattle.cp_report.specs.Misfits.{misfit_unless, unless_misfit}
use Rattle.cp_report.specs.Spelled.{Scope, atom_misfits, atom_in}
use Rattle.cp_report.specs.Skeletons.{node_misfits, has_uniques, is_instance_there, carries_value, may_be_origin, unique_of, unique_misfits, uniques_misfits}
use Rattle.cp_report.specs.UpToNames.{renamed, renaming, unique_renamed, IsOneToOne, IsSameStrandUnder}
use Rattle.cp_report.proofs.SpelledTerms.{StandsFor, printed_atom_fits}
use Rattle.cp_report.proofs.CoveringPairs.{AreApart, node_fits}
use Rattle.cp_report.proofs.PrintedAssumptions.{same_renamed, image_new, each_fits, each_read}
use Rattle.cp_report.proofs.RenamedStrands.{event_renamed, instance_there}

-- ---- origins

-- A recorded origin is one in the strands under the renaming.
pub record IsOriginIn (strands : List SkeletonStrand) (v : AtomTerm) (n : Node) : Type 0 where
  pub known : is_known (term_event_at strands n) ≡ true
  pub may : may_be_origin strands v n ≡ true

pub origin_renamed : (number : Variable → ℕ) (k : Skeleton) (ls : List SkeletonStrand) → ArePaired (IsSameStrandUnder (renaming number)) k.strands ls → (u : UniqueAt) → IsOrigin k u
    → IsOriginIn ls (apply_to_atom (renaming number) u.value) u.origin
origin_renamed number k ls p u o = record {
  known = ap is_known event;
  may = and_from (is_instance_there (item_at ls u.origin.strand)) (carries_value (apply_to_atom (renaming number) u.value) (term_event_at ls u.origin))
      (instance_there (renaming number) k.strands ls p u.origin.strand ∙ ap is_instance_there o.on_instance)
      (ap (carries_value (apply_to_atom (renaming number) u.value)) event
      ∙ is_carried (atom_term (apply_to_atom (renaming number) u.value)) (apply_to (renaming number) o.sent) (carried_under (renaming number) o.carried));
}
  where
    event : term_event_at ls u.origin ≡ Some (send (apply_to (renaming number) o.sent))
    event = event_renamed (renaming number) k.strands ls p u.origin ∙ ap (option_map (event_map (apply_to (renaming number)))) o.transmission

-- ---- they fit

module _ (s : Scope) (strands : List SkeletonStrand) (named : Variable → Form) (number : Variable → ℕ) (occurs : List Variable) (one : IsOneToOne number occurs)
    (stands : (x : Variable) → IsIn x occurs → StandsFor s (named x) (renamed number x)) where
  -- the variables of this are among those that occur, and it may originate where its origin is recorded
  abbrev Fits : UniqueAt → Type 0
  Fits u = ((x : Variable) → IsIn x (variables_of_atom u.value) → IsIn x occurs) × IsOriginIn strands (apply_to_atom (renaming number) u.value) u.origin

  abbrev Fit : List UniqueAt → Type 0
  Fit us = (u : UniqueAt) → IsIn u us → Fits u

  abbrev renamed_unique : UniqueAt → UniqueAt
  renamed_unique u = unique_renamed (renaming number) u

  printed : (u : UniqueAt) → ((x : Variable) → IsIn x (variables_of_atom u.value) → IsIn x occurs) →
      (atom_misfits s (atom_form named u.value) ≡ []) × (atom_in s (atom_form named u.value) ≡ apply_to_atom (renaming number) u.value)
  printed u occur = printed_atom_fits s named number u.value (λ x m. stands x (occur x m))

  one_back : (u : UniqueAt) → ((x : Variable) → IsIn x (variables_of_atom u.value) → IsIn x occurs) → unique_of s (unique_form named u) ≡ renamed_unique u
  one_back u occur = let e = (printed u occur).1 in λ i. record { value = e i; origin = u.origin }

  -- two with one image are one
  same_image : (u w : UniqueAt) → Fits u → Fits w → renamed_unique w ≡ renamed_unique u → w ≡ u
  same_image u w (of_u, _) (of_w, _) e =
      let value : w.value ≡ u.value = same_renamed number w.value u.value (λ x y i j. one x y (of_w x i) (of_u y j)) (ap (λ (v : UniqueAt). v.value) e) in
      let origin : w.origin ≡ u.origin = ap (λ (v : UniqueAt). v.origin) e in
      λ i. record { value = value i; origin = origin i }

  one_fits : (before : List UniqueAt) (u : UniqueAt) → Fits u
      → has_unique before (renamed_unique u) ≡ false → unique_misfits s strands before (unique_form named u) ≡ []
  one_fits before u (occur, origin) new =
      ap (λ (xs : List Place). unless_misfit (xs ++ (node_misfits strands (node_form u.origin) ++ [])) (behind (unique_of s (unique_form named u)))) (printed u occur).0
      ∙ ap (λ (xs : List Place). unless_misfit (xs ++ []) (behind (unique_of s (unique_form named u)))) (node_fits strands u.origin origin.known)
      ∙ ap behind (one_back u occur)
      ∙ ap (λ (b : Bool). unless_misfit (misfit_unless b no_place) (misfit_unless (not (has_unique before (renamed_unique u))) no_place)) origin.may
      ∙ ap (λ (b : Bool). misfit_unless (not b) no_place) new
    where
      -- what is asked once the entry is a value and a node
      behind : UniqueAt → List Place
      behind w = unless_misfit (misfit_unless (may_be_origin strands w.value w.origin) no_place) (misfit_unless (not (has_unique before w)) no_place)

  one_unique : (front : List UniqueAt) (u : UniqueAt) (fs : List Form) → Fit (u ∷ front) → (IsIn u front → ⊥) → uniques_misfits s strands (map renamed_unique front) (unique_form named u ∷ fs) ≡ uniques_misfits s strands (map renamed_unique front ++ renamed_unique u ∷ []) fs
  one_unique front u fs fit new =
      ap (λ (xs : List Place). xs ++ uniques_misfits s strands (map renamed_unique front ++ unique_of s (unique_form named u) ∷ []) fs)
      (one_fits (map renamed_unique front) u (fit u here) (image_new uniques renamed_unique front u (λ w m. same_image u w (fit u here) (fit w (there m))) new))
      ∙ ap (λ (w : UniqueAt). uniques_misfits s strands (map renamed_unique front ++ w ∷ []) fs) (one_back u (fit u here).0)

  -- Unique values that stand once each, as they are printed, fit.
  pub uniques_fit : (us : List UniqueAt) → Fit us → AreApart us → uniques_misfits s strands [] (map (unique_form named) us) ≡ []
  uniques_fit = each_fits renamed_unique (unique_form named) (uniques_misfits s strands) Fits (λ before. refl) one_unique

  -- They are read back under the renaming.
  pub uniques_back : (us : List UniqueAt) → Fit us → map (unique_of s) (map (unique_form named) us) ≡ map renamed_unique us
  uniques_back us fit = each_read renamed_unique (unique_form named) (unique_of s) us (λ u m. one_back u (fit u m).0)

pub all_uniques : (us given : List UniqueAt) → ((u : UniqueAt) → IsIn u given → IsIn u us) → has_uniques us given ≡ true
all_uniques us [] within = refl
all_uniques us (u ∷ given) within = and_from (has_unique us u) (has_uniques us given) (uniques.finds us u (within u here)) (all_uniques us given (λ w m. within w (there m)))

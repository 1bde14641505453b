-- Generalising brings in no strings.
use Rattle.std.proofs.Common.{ℕ, List, sym, subst}
use Rattle.cp_lists.specs.Lists.{IsIn}
use Rattle.cp_lists.proofs.Members.{was_in}
use Rattle.cp_model.specs.Term.{AtomTerm}
use Rattle.cp_model.specs.declared.node.OrderPair.{OrderPair}
use Rattle.cp_model.specs.Skeleton.{UniqueAt, Skeleton}
use Rattle.cp_skel.specs.Deletion.{LeavesOut, unique_renumbered, as_it_is, IsOriginOn, IsForgottenNon, IsForgottenPenetratorNon}
use Rattle.cp_skel.proofs.PairsWithout.{was_left}
use Rattle.cp_general.specs.Steps.{Deletes, Weakens}
use Rattle.cp_general.specs.Generalisation.{StepsTo, deletes, drops, GeneralisesTo, last_step, next_step}
use Rattle.cp_printable.specs.Spelled.{IsSpelledAtom, AreSpelledAtoms, IsSpelledSkeleton}
use Rattle.cp_printable.proofs.Under.{in_order_spelled}

module _ (S I : List ℕ → Type 0) where
  -- ---- values that are left

  atoms_left : (gone : AtomTerm → Type 0) (vs ws : List AtomTerm) → LeavesOut gone as_it_is vs ws → AreSpelledAtoms S vs → AreSpelledAtoms S ws
  atoms_left gone vs ws left all v i =
      let w = was_left gone as_it_is vs ws v left i in
      subst (IsSpelledAtom S) (sym w.same) (all w.item w.listed)

  uniques_left : (d : ℕ) (us ws : List UniqueAt) → LeavesOut (IsOriginOn d) (unique_renumbered d) us ws → ((u : UniqueAt) → IsIn u us → IsSpelledAtom S u.value) → (u : UniqueAt) → IsIn u ws → IsSpelledAtom S u.value
  uniques_left d us ws left all u i =
      let w = was_left (IsOriginOn d) (unique_renumbered d) us ws u left i in
      subst (λ (z : UniqueAt). IsSpelledAtom S z.value) (sym w.same) (all w.item w.listed)

  -- ---- one step

  deleted_spelled : (d : ℕ) (k h : Skeleton) → Deletes d k h → IsSpelledSkeleton S I k → IsSpelledSkeleton S I h
  deleted_spelled d k h del is = record {
    strands = λ s i. is.strands s (was_in k.strands d s (subst (IsIn s) del.strands i));
    assumptions = record {
      non = atoms_left (IsForgottenNon k d) k.assumptions.non_originating h.assumptions.non_originating del.assumptions.non is.assumptions.non;
      penetrator_non = atoms_left (IsForgottenPenetratorNon k d) k.assumptions.penetrator_non_originating h.assumptions.penetrator_non_originating del.assumptions.penetrator_non is.assumptions.penetrator_non;
      unique = uniques_left d k.assumptions.uniquely_originating h.assumptions.uniquely_originating del.assumptions.unique is.assumptions.unique;
    };
    values = λ t i. is.values t (subst (IsIn t) del.from_problem.values i);
    own = record {
      non = λ v i. is.own.non v (subst (IsIn v) del.from_problem.non i);
      penetrator_non = λ v i. is.own.penetrator_non v (subst (IsIn v) del.from_problem.penetrator_non i);
      unique = uniques_left d k.from_problem.assumptions.uniquely_originating h.from_problem.assumptions.uniquely_originating del.from_problem.unique is.own.unique;
    };
  }

  dropped_spelled : (p : OrderPair) (k h : Skeleton) → Weakens p k h → IsSpelledSkeleton S I k → IsSpelledSkeleton S I h
  dropped_spelled p k h drop is =
      subst (IsSpelledSkeleton S I) (sym drop.same) (record { strands = is.strands; assumptions = is.assumptions; values = is.values; own = is.own })

  step_spelled : {k g : Skeleton} → StepsTo k g → IsSpelledSkeleton S I k → IsSpelledSkeleton S I g
  step_spelled {k} (deletes {d = d} {h = h} del fit first) is = in_order_spelled S I h (deleted_spelled d k h del is)
  step_spelled {k} (drops {p = p} {h = h} none drop fit first) is = dropped_spelled p k h drop is

  -- ---- all steps

  pub generalised_spelled : {k g : Skeleton} → GeneralisesTo k g → IsSpelledSkeleton S I k → IsSpelledSkeleton S I g
  generalised_spelled (last_step step most) is = step_spelled step is
  generalised_spelled (next_step step more) is = generalised_spelled more (step_spelled step is)

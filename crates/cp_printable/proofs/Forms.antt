-- Normal forms bring in no strings.
use Rattle.std.proofs.Common.{◌⊎◌, ℕ, List, sym, subst}
use Rattle.cp_lists.specs.Lists.{IsIn}
use Rattle.cp_lists.proofs.Members.{into_map}
use Rattle.cp_model.specs.Term.{AtomTerm}
use Rattle.cp_model.specs.declared.strand.Event.TheVariants.{Receive as recv}
use Rattle.cp_model.specs.Bundle.{node_at}
use Rattle.cp_model.specs.declared.node.Node.{Node}
use Rattle.cp_model.specs.Skeleton.{Skeleton}
use Rattle.cp_theory.specs.Normal.{skeleton_under}
use Rattle.cp_normal.specs.NormalForms.{IsReceivedBefore, IsNarrowed, NarrowsTo, none, one, IsNormalFormOf}
use Rattle.cp_normal.specs.Exact.{HasForms}
use Rattle.cp_normal.specs.Formed.{Formed, AreFormedNormalForms}
use Rattle.cp_normal.proofs.FormsOf.{are_normal_forms}
use Rattle.cp_printable.specs.Spelled.{IsSpelledAtom, IsSpelledSkeleton}
use Rattle.cp_printable.proofs.Under.{under_spelled, same_spelled, with_pairs_spelled, event_spelled, carried_spelled}
use Rattle.cp_printable.proofs.NoOtherStrings.{atoms_unifier_gives}

module _ (S I : List ℕ → Type 0) (decide : (t : List ℕ) → S t ⊎ (S t → ⊥)) where
  -- What was received has admitted strings.
  heard_spelled : (k : Skeleton) (v : AtomTerm) (x : Node) → IsSpelledSkeleton S I k → IsReceivedBefore k v x → IsSpelledAtom S v
  heard_spelled k v x is h = carried_spelled S I v h.received (event_spelled S I k (node_at x.strand h.index) (recv h.received) is h.reception) h.carried

  -- A step of narrowing is by a unique value and what was received.
  narrowed_spelled : (k l : Skeleton) → IsNarrowed k l → IsSpelledSkeleton S I k → IsSpelledSkeleton S I l
  narrowed_spelled k l step is =
      same_spelled S I (skeleton_under step.unifier k) l step.same
      (under_spelled S I step.unifier k
      (atoms_unifier_gives S decide step.entry.value step.heard step.unifier (is.assumptions.unique step.entry step.misplaced.listed) (heard_spelled k step.heard step.node is step.heard_before) step.most_general) is)

  narrows_spelled : {k m : Skeleton} → NarrowsTo k m → IsSpelledSkeleton S I k → IsSpelledSkeleton S I m
  narrows_spelled none is = is
  narrows_spelled (one {k = k} {l = l} step more) is = narrows_spelled more (narrowed_spelled k l step is)

  form_spelled : (k r : Skeleton) → IsNormalFormOf k r → IsSpelledSkeleton S I k → IsSpelledSkeleton S I r
  form_spelled k r form is = subst (IsSpelledSkeleton S I) (sym form.same) (with_pairs_spelled S I form.narrowed r.pairs (narrows_spelled form.by_steps is))

  pub forms_spelled : {k : Skeleton} {rs : List Skeleton} → HasForms k rs → IsSpelledSkeleton S I k → (r : Skeleton) → IsIn r rs → IsSpelledSkeleton S I r
  forms_spelled {k} has is r i = form_spelled k r (are_normal_forms has r i) is

  pub normal_forms_spelled : (k : Skeleton) (forms : List Formed) → AreFormedNormalForms k forms → IsSpelledSkeleton S I k → (f : Formed) → IsIn f forms → IsSpelledSkeleton S I f.skeleton
  normal_forms_spelled k forms are is f i = forms_spelled are.exact is f.skeleton (into_map (λ (g : Formed). g.skeleton) i)

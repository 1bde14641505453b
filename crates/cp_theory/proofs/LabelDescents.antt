-- Along the edges of a lawful tree each standing comes down to a label that is left.
use Rattle.std.proofs.Common.{◌≡◌, ℕ, zero, suc, ◌+◌, ◌<◌, List, [], ◌∷◌, length, Some, refl, sym, ◌∙◌, subst, ⊎_elim, arith}
use Rattle.cp_lists.specs.Lists.{item_at, IsIn, here, Steps, one_step}
use Rattle.cp_lists.proofs.Items.{item_below}
use Rattle.cp_lists.proofs.Without.{Without, without, no_fewer}
use Rattle.cp_lists.proofs.Reached.{steps_append}
use Rattle.cp_model.specs.Strand.{Protocol}
use Rattle.cp_model.specs.Bundle.{Bundle, IsBundle}
use Rattle.cp_model.specs.Skeleton.{Skeleton, IsSkeleton}
use Rattle.cp_model.specs.Standing.{Standing, StandsIn, StandsApart}
use Rattle.cp_model.specs.Homomorphism.{SkeletonMap, IsEmbedding, FactorsThrough, Covers, IsCompleteList}
use Rattle.cp_model.specs.Composition.{through}
use Rattle.cp_model.specs.Problem.{numbers_from}
use Rattle.cp_model.specs.Tree.{Label, shapes_of, skeletons_left}
use Rattle.cp_model.proofs.LawStandings.{standing_through}
use Rattle.cp_model.proofs.NumbersFrom.{number_from}
use Rattle.cp_theory.proofs.Embedded.{apart_through, factors_after}
use Rattle.cp_theory.specs.Lawful.{PassesOn, skeletons_at, IsEdgeOf, IsLeft, IsLawful, IsWithinLimits}
use Rattle.cp_theory.proofs.Left.{left_listed, left_are_shapes, label_among}

-- The problem's standing f factors through the skeleton of label i, which stands apart.
pub record IsAtLabel (problem : Skeleton) (labels : List Label) (b : Bundle) (f : Standing) (i : ℕ) : Type 0 where
  pub label : Label
  pub at : item_at labels i ≡ Some label
  pub standing : Standing
  pub stands : StandsIn label.skeleton b standing
  pub apart : StandsApart label.skeleton standing
  pub factors : FactorsThrough problem f label.skeleton standing

-- A standing that a label among these passes on is at one of their numbers.
at_label_among : (problem : Skeleton) (labels : List Label) (b : Bundle) (f : Standing) (numbers : List ℕ) → Covers (skeletons_at labels numbers) problem b f → (i : ℕ) × IsIn i numbers × IsAtLabel problem labels b f i
at_label_among problem labels b f numbers c =
    let a = label_among labels numbers c.skeleton c.listed in (
      a.number,
      a.listed,
      record {
        label = a.label;
        at = a.at;
        standing = c.standing;
        stands = subst (λ (k : Skeleton). StandsIn k b c.standing) a.same c.stands;
        apart = subst (λ (k : Skeleton). StandsApart k c.standing) a.same c.apart;
        factors = subst (λ (k : Skeleton). FactorsThrough problem f k c.standing) a.same c.factors;
      },
    )

module _ (protocol : Protocol) (problem : Skeleton) (labels : List Label) (edges : ℕ → List ℕ) (lawful : IsLawful protocol problem labels edges) (b : Bundle) (f : Standing) (is : IsBundle protocol b) where
  abbrev IsAt : ℕ → Type 0
  IsAt i = IsAtLabel problem labels b f i

  -- Each label to which edges lead from number i is among these.
  abbrev LeadsWithin : ℕ → List ℕ → Type 0
  LeadsWithin i ns = (j : ℕ) → Steps (IsEdgeOf edges) i j → j < length labels → IsIn j ns

  -- Beyond an edge, without the label that it leads to.
  within_rest : (i j : ℕ) (ns : List ℕ) → IsEdgeOf edges i j → LeadsWithin i ns → (w : Without j ns) → LeadsWithin j w.rest
  within_rest i j ns edge leads w m steps below =
      ⊎_elim (λ (same : j ≡ m). absurd (lawful.no_cycle j (subst (Steps (IsEdgeOf edges) j) (sym same) steps))) (λ k. k) (w.kept m (leads m (steps_append (one_step edge) steps) below))

  -- Where the label passes on, it does through one to which an edge leads.
  passed_on : (i : ℕ) → (c : Covers (skeletons_at labels (edges i)) problem b f) → (j : ℕ) × IsEdgeOf edges i j × IsAt j
  passed_on i = at_label_among problem labels b f (edges i)

  one_fewer : (j fuel : ℕ) (ns : List ℕ) → length ns ≡ suc fuel → (w : Without j ns) → length w.rest ≡ fuel
  one_fewer j fuel ns e w = let s : suc (length w.rest) ≡ suc fuel = sym w.shorter ∙ e in cc

  left_there : (i : ℕ) (a : IsAt i) → IsLeft a.label.mark → Covers (skeletons_left labels) problem b f
  left_there i a left = record { skeleton = a.label.skeleton; listed = left_listed labels i a.label a.at left; standing = a.standing; stands = a.stands; apart = a.apart; factors = a.factors }

  -- So it comes down to a label that is left.
  pub comes_down : (fuel : ℕ) (ns : List ℕ) → length ns ≡ fuel → (i : ℕ) → LeadsWithin i ns → IsAt i → Covers (skeletons_left labels) problem b f
  comes_down zero ns e i leads a =
      ⊎_elim (left_there i a)
      (λ passes. let r = passed_on i (passes b f a.standing is a.stands a.apart a.factors) in
      absurd (no_fewer e (leads r.0 (one_step r.1) (item_below labels r.0 r.2.label r.2.at))))
      (lawful.passes_on i a.label a.at)
  comes_down (suc fuel) ns e i leads a =
      ⊎_elim (left_there i a)
      (λ passes. let r = passed_on i (passes b f a.standing is a.stands a.apart a.factors) in
      let w = without (leads r.0 (one_step r.1) (item_below labels r.0 r.2.label r.2.at)) in
      comes_down fuel w.rest (one_fewer r.0 fuel ns e w) r.0 (within_rest i r.0 ns r.1 leads w) r.2)
      (lawful.passes_on i a.label a.at)

-- From roots that are a complete list, the labels that are left are one.
pub left_is_complete : (protocol : Protocol) (problem : Skeleton) (labels : List Label) (edges : ℕ → List ℕ) (roots : List ℕ) → IsLawful protocol problem labels edges →
    IsCompleteList protocol problem (skeletons_at labels roots) → IsCompleteList protocol problem (skeletons_left labels)
left_is_complete protocol problem labels edges roots lawful complete b h is stands =
    let c = complete b h is stands in
    let a = at_label_among problem labels b h roots c in
    let numbers = numbers_from 0 labels in
    comes_down protocol problem labels edges lawful b h is (length numbers) numbers refl a.0 (λ j steps l. let same : 0 + j ≡ j = omega arith in subst (λ (m : ℕ). IsIn m numbers) same (number_from 0 j labels l)) a.2

pub shapes_are_complete : (protocol : Protocol) (problem : Skeleton) (labels : List Label) (edges : ℕ → List ℕ) (roots : List ℕ) → IsLawful protocol problem labels edges →
    IsCompleteList protocol problem (skeletons_at labels roots) → IsWithinLimits labels → IsCompleteList protocol problem (shapes_of labels)
shapes_are_complete protocol problem labels edges roots lawful complete within =
    subst (IsCompleteList protocol problem) (left_are_shapes labels within) (left_is_complete protocol problem labels edges roots lawful complete)

-- A skeleton passes on to one that embeds in it.
pub passes_on_to_embedding : (protocol : Protocol) (problem l k : Skeleton) (f : SkeletonMap) → IsSkeleton protocol l → IsSkeleton protocol k → IsEmbedding l k f → PassesOn protocol problem k (l ∷ [])
passes_on_to_embedding protocol problem l k f sl sk embedding b first h is stands apart factors = record {
  skeleton = l;
  listed = here;
  standing = through f h;
  stands = standing_through protocol l k f b h sl sk embedding.homomorphism stands;
  apart = apart_through l k f h embedding apart;
  factors = factors_after problem l k f first h embedding factors;
}

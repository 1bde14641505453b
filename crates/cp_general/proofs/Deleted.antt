-- What is left without a strand is fit or not, however its pairs are listed.
use Rattle.std.proofs.Common.{◌≡◌, ◌≢◌, ◌⊎◌, inl, inr, ℕ, List, [], ◌∷◌, ◌++◌, refl, sym, ap, ◌∙◌, subst}
use Rattle.std.proofs.lemmas.Bool.{cases_eq}
use Rattle.cp_model.specs.Bundle.{node_at}
use Rattle.cp_model.specs.declared.node.Node.{Node}
use Rattle.cp_model.specs.declared.node.OrderPair.{OrderPair}
use Rattle.cp_model.specs.Skeleton.{Assumptions, Skeleton, Before}
use Rattle.cp_skel.specs.Ordered.{IsOrdered, ordered_by}
use Rattle.cp_skel.specs.Bridges.{bridges, IsWithoutStrand}
use Rattle.cp_skel.specs.Deletion.{node_renumbered, pair_renumbered, IsPairOn, LeavesOut, all_left, is_gone, is_left, ForgetsAssumptions, KeepsOrderOfOthers}
use Rattle.cp_skel.proofs.NumbersWithout.{node_restored, renumbered_restored, restored_other}
use Rattle.cp_skel.proofs.OrderWithout.{is_ordered, keeps_order}
use Rattle.cp_general.specs.Fit.{IsFit}
use Rattle.cp_general.specs.Steps.{Deletes}
use Rattle.cp_general.specs.Generalisation.{DeletesNone}
use Rattle.cp_general.proofs.Alike.{fit_alike}

-- ---- what is left is one list

leaves_one : {A : Type 0} (gone : A → Type 0) (form : A → A) (xs ys zs : List A) → LeavesOut gone form xs ys → LeavesOut gone form xs zs → ys ≡ zs
leaves_one gone form [] ys zs all_left all_left = refl
leaves_one gone form (x ∷ xs) ys zs (is_gone g l) (is_gone h m) = leaves_one gone form xs ys zs l m
leaves_one gone form (x ∷ xs) ys zs (is_gone g l) (is_left h m) = absurd (h g)
leaves_one gone form (x ∷ xs) ys zs (is_left g l) (is_gone h m) = absurd (g h)
leaves_one gone form (x ∷ xs) ys zs (is_left {ys = us} g l) (is_left {ys = vs} h m) = ap (λ ws. form x ∷ ws) (leaves_one gone form xs us vs l m)

assumptions_one : (d : ℕ) (k : Skeleton) (a b : Assumptions) → ForgetsAssumptions d k a → ForgetsAssumptions d k b → a ≡ b
assumptions_one d k a b f g =
    let non = leaves_one _ _ _ _ _ f.non g.non in
    let penetrator_non = leaves_one _ _ _ _ _ f.penetrator_non g.penetrator_non in
    let unique = leaves_one _ _ _ _ _ f.unique g.unique in
    λ i. record { non_originating = non i; penetrator_non_originating = penetrator_non i; uniquely_originating = unique i }

-- ---- the order among all that is left

module _ (d : ℕ) (k h : Skeleton) (order : KeepsOrderOfOthers d k h) where
  again : (x : Node) → node_renumbered d (node_restored d x) ≡ x
  again x i = node_at (renumbered_restored d x.strand i) x.index

  pub was_before : (x y : Node) → Before h x y → Before k (node_restored d x) (node_restored d y)
  was_before x y b =
      (order (node_restored d x) (node_restored d y) (restored_other d x.strand) (restored_other d y.strand)).0
      (subst (λ z. Before h z (node_renumbered d (node_restored d y))) (sym (again x)) (subst (λ z. Before h x z) (sym (again y)) b))

  pub is_before : (x y : Node) → Before k (node_restored d x) (node_restored d y) → Before h x y
  is_before x y b =
      subst (λ z. Before h z y) (again x)
      (subst (λ z. Before h (node_renumbered d (node_restored d x)) z) (again y)
      ((order (node_restored d x) (node_restored d y) (restored_other d x.strand) (restored_other d y.strand)).1 b))

pub deleted_acyclic : (d : ℕ) (k h : Skeleton) → ((n : Node) → Before k n n → ⊥) → KeepsOrderOfOthers d k h → (n : Node) → Before h n n → ⊥
deleted_acyclic d k h no_cycle order n b = no_cycle (node_restored d n) (was_before d k h order n n b)

pub deleted_alike : (d : ℕ) (k h g : Skeleton) → ((n : Node) → Before k n n → ⊥) → Deletes d k h → Deletes d k g → IsFit h → IsFit g
deleted_alike d k h g no_cycle p q =
    fit_alike h g (q.strands ∙ sym p.strands) (assumptions_one d k g.assumptions h.assumptions q.assumptions p.assumptions)
    (λ x y b. is_before d k g q.order x y (was_before d k h p.order x y b)) (deleted_acyclic d k g no_cycle q.order)

-- ---- no strand can be deleted once pairs are gone, where none could before

on_or_not : (d : ℕ) (p : OrderPair) → IsPairOn d p ⊎ (IsPairOn d p → ⊥)
on_or_not d p = of (cases_eq p.earlier.strand d) (cases_eq p.later.strand d)
  where
    neither : p.earlier.strand ≢ d → p.later.strand ≢ d → IsPairOn d p → ⊥
    neither e l (inl h) = e h
    neither e l (inr h) = l h

    of : (p.earlier.strand ≡ d) ⊎ (p.earlier.strand ≢ d) → (p.later.strand ≡ d) ⊎ (p.later.strand ≢ d) → IsPairOn d p ⊎ (IsPairOn d p → ⊥)
    of (inl e) l = inl (inl e)
    of (inr e) (inl l) = inl (inr l)
    of (inr e) (inr l) = inr (neither e l)

record Left (d : ℕ) (ps : List OrderPair) : Type 0 where
  pairs : List OrderPair
  leaves_out : LeavesOut (IsPairOn d) (pair_renumbered d) ps pairs

left_next : (d : ℕ) (p : OrderPair) (ps : List OrderPair) → IsPairOn d p ⊎ (IsPairOn d p → ⊥) → Left d ps → Left d (p ∷ ps)
left_next d p ps (inl on) l = record { pairs = l.pairs; leaves_out = is_gone on l.leaves_out }
left_next d p ps (inr off) l = record { pairs = pair_renumbered d p ∷ l.pairs; leaves_out = is_left off l.leaves_out }

left_of : (d : ℕ) (ps : List OrderPair) → Left d ps
left_of d [] = record { pairs = []; leaves_out = all_left }
left_of d (p ∷ ps) = left_next d p ps (on_or_not d p) (left_of d ps)

module _ (k : Skeleton) (ps : List OrderPair) (ordered : IsOrdered k) (back : (x y : Node) → Before (ordered_by k ps) x y → Before k x y) (d : ℕ) (g : Skeleton) (deletes : Deletes d (ordered_by k ps) g) where
  abbrev made : Skeleton
  made = record { variables = g.variables; strands = g.strands; pairs = (left_of d k.pairs).pairs ++ bridges d k.pairs k.pairs; assumptions = g.assumptions; from_problem = g.from_problem }

  without : IsWithoutStrand d k.pairs made.pairs
  without = record { left = (left_of d k.pairs).pairs; leaves_out = (left_of d k.pairs).leaves_out; all = refl }

  made_ordered : IsOrdered made
  made_ordered = is_ordered k made d deletes.strands without ordered

  made_keeps : KeepsOrderOfOthers d k made
  made_keeps = keeps_order k made d deletes.strands without ordered

  made_deletes : Deletes d k made
  made_deletes = record {
    within = deletes.within;
    no_image = deletes.no_image;
    variables = deletes.variables;
    strands = deletes.strands;
    pairs = made_ordered.order_pairs;
    order = made_keeps;
    assumptions = record { non = deletes.assumptions.non; penetrator_non = deletes.assumptions.penetrator_non; unique = deletes.assumptions.unique };
    from_problem = deletes.from_problem;
  }

  made_fit : IsFit g → IsFit made
  made_fit =
      fit_alike g made refl refl
      (λ x y b. is_before d k made made_keeps x y (back (node_restored d x) (node_restored d y) (was_before d (ordered_by k ps) g deletes.order x y b))) made_ordered.no_cycle

pub deletes_none_still : (k : Skeleton) (ps : List OrderPair) → IsOrdered k → ((x y : Node) → Before (ordered_by k ps) x y → Before k x y) → DeletesNone k → DeletesNone (ordered_by k ps)
deletes_none_still k ps ordered back none d g deletes f = none d (made k ps ordered back d g deletes) (made_deletes k ps ordered back d g deletes) (made_fit k ps ordered back d g deletes f)

-- The example's problem is its own root, and that root is sound.
use Rattle.std.proofs.Common.{◌≡◌, inl, ℕ, zero, suc, [], ◌∷◌, true, false, Some, refl, ap, ◌∙◌, subst}
use Rattle.cp_lists.specs.Lists.{item_at}
use Rattle.cp_lists.proofs.Members.{not_in_none}
use Rattle.cp_model.specs.Standing.{StandsApart}
use Rattle.cp_model.specs.Skeleton.{IsSkeleton}
use Rattle.cp_model.specs.Realisation.{KeepsAssumptions}
use Rattle.cp_model.specs.Homomorphism.{CarriesHomomorphism}
use Rattle.cp_model.specs.Stated.{KeepsStated}
use Rattle.cp_model.specs.PointOfView.{HasDeclaredVariables, IsPointOfView}
use Rattle.cp_model.proofs.OwnOrder.{own_if_same}
use Rattle.cp_model.proofs.SingleMaps.{itself, states_itself, own_carries}
use Rattle.cp_model.proofs.StatedItself.{keeps_its_own}
use Rattle.cp_theory.specs.EncryptionExamples.{locker, protocol, heard}
use Rattle.cp_theory.proofs.HeardEncryption.{no_instance, heard_skeleton}
use Rattle.cp_roots.specs.declared.root.Root.{Root}
use Rattle.cp_roots.specs.Sound.{AreSound}
use Rattle.cp_cohort.proofs.OneChild.{heard_declared}
use Rattle.cp_tree.specs.Example.{heard_root}

pub heard_own : IsPointOfView locker.variables heard
heard_own = record { strands = refl; values = refl; closed = heard_declared.occurring; assumed = record { non = λ v i. i; penetrator_non = λ v i. i; unique = λ u i. i }; no_more = record { non = λ v i. inl i; penetrator_non = λ v i. inl i; unique = λ u i. inl i }; ordered = own_if_same heard heard_skeleton.order_pairs refl }

-- No role strand is there to originate anything.
keeps_assumptions : KeepsAssumptions heard
keeps_assumptions = record {
  non = λ v n i o. no_instance n.strand o.0.role o.0.height o.0.terms o.0.on_instance;
  unique = λ u i. absurd (not_in_none i);
  only = λ u n i o. absurd (not_in_none i);
}

the_root : (i : ℕ) (root : Root) → item_at (heard_root ∷ []) i ≡ Some root → heard_root ≡ root
the_root zero root at = cc
the_root (suc i) root at = absurd (cc)

lives : (root : Root) → heard_root ≡ root → root.dead ≡ true → ⊥
lives root same d = let e : false ≡ true = ap (λ (r : Root). r.dead) same ∙ d in cc

pub root_declared : (i : ℕ) (root : Root) → item_at (heard_root ∷ []) i ≡ Some root → HasDeclaredVariables locker.variables root.skeleton
root_declared i root at = subst (λ (r : Root). HasDeclaredVariables locker.variables r.skeleton) (the_root i root at) heard_declared

pub heard_sound : AreSound protocol heard (heard_root ∷ [])
heard_sound = record {
  skeletons = λ i root at. subst (λ (r : Root). IsSkeleton protocol r.skeleton) (the_root i root at) heard_skeleton;
  assumptions = λ i root at alive. subst (λ (r : Root). KeepsAssumptions r.skeleton) (the_root i root at) keeps_assumptions;
  from_problem = λ i root at. subst (λ (r : Root). CarriesHomomorphism heard r.skeleton) (the_root i root at) (own_carries locker.variables heard (itself heard_own));
  stated = λ i root at. subst (λ (r : Root). KeepsStated heard r.skeleton) (the_root i root at) (keeps_its_own locker.variables heard (states_itself heard_own));
  nowhere = λ i root at d b g is stands apart. lives root (the_root i root at) d;
  covers = λ b h is stands.
      let apart : StandsApart heard_root.skeleton h = λ s t role height terms role' height' terms' on other same. absurd (no_instance s role height terms on) in
      record { number = 0; root = heard_root; at = refl; lives = refl; standing = h; stands = stands; apart = apart; factors = record { strands = refl; values = refl } };
}

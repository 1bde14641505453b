-- Pairs by which a skeleton is ordered that are in neither of two lists.
use Rattle.std.proofs.Common.{◌≡◌, ◌↔◌, ◌⊎◌, inl, inr, ℕ, ◌+◌, ◌<◌, List, Bool, true, false, length, get_or, drop, refl, sym, ◌∙◌, subst}
use Rattle.std.proofs.lemmas.List.{get_or_default}
use Rattle.cp_lists.specs.Lists.{IsIn}
use Rattle.cp_lists.proofs.Members.{item_in, next_or_rest}
use Rattle.cp_model.specs.declared.node.OrderPair.{OrderPair}
use Rattle.cp_model.specs.Skeleton.{Skeleton}
use Rattle.cp_collapse.specs.Property.{Has}
use Rattle.cp_collapse.proofs.ItemsWithProperty.{found, next}
use Rattle.cp_normal.specs.Findings.{IsAddedPair}
use Rattle.cp_general.specs.Generalisation.{WeakensNone}
use Rattle.cp_general.specs.ListedPairs.{IsInNeither, is_same_pair}
use Rattle.cp_general.specs.ProgramSteps.{HasFreePair}
use Rattle.cp_general.proofs.CoveringPairs.{no_free_pair}
use Rattle.cp_general.proofs.Dropped.{same_pair_is, same_pair_itself}
use Rattle.cp_model.proofs.CarriedParts.{not_both}
use Rattle.cp_general.proofs.FitTests.{no_pair}

-- ---- the place of a pair

pub stands_there : (ps : List OrderPair) (i : ℕ) (p : OrderPair) (b : Bool) → i < length ps → b ≡ is_same_pair p (get_or ps i no_pair) → b ≡ true → IsIn p ps
stands_there ps i p b within e t = subst (λ (q : OrderPair). IsIn q ps) (sym (same_pair_is p (get_or ps i no_pair) (sym e ∙ t))) (item_in ps i no_pair within)

pub stands_behind : (ps : List OrderPair) (i : ℕ) (p : OrderPair) (b : Bool) → i < length ps → b ≡ is_same_pair p (get_or ps i no_pair) → b ≡ false → IsIn p (drop i ps) → IsIn p (drop (i + 1) ps)
stands_behind ps i p b within e f m = of (next_or_rest ps i p (get_or ps i no_pair) within (get_or_default ps i no_pair (get_or ps i no_pair) within) m)
  where
    of : (get_or ps i no_pair ≡ p) ⊎ IsIn p (drop (i + 1) ps) → IsIn p (drop (i + 1) ps)
    of (inl same) = absurd (not_both f (e ∙ subst (λ (q : OrderPair). is_same_pair p q ≡ true) (sym same) (same_pair_itself p)))
    of (inr rest) = rest

-- ---- the loop over the pairs

module _ (first second ps : List OrderPair) (i : ℕ) (within : i < length ps) where
  abbrev pub at_hand : OrderPair
  at_hand = get_or ps i no_pair

  passed : (IsInNeither first second at_hand → ⊥) → (Has (IsInNeither first second) ps → Has (IsInNeither first second) (drop i ps)) → Has (IsInNeither first second) ps → Has (IsInNeither first second) (drop (i + 1) ps)
  passed not left h = next (IsInNeither first second) ps i at_hand within (get_or_default ps i no_pair at_hand within) not (left h)

  pub passed_first : IsIn at_hand first → (Has (IsInNeither first second) ps → Has (IsInNeither first second) (drop i ps)) → Has (IsInNeither first second) ps → Has (IsInNeither first second) (drop (i + 1) ps)
  passed_first m left h = passed (λ n. n.0 m) left h

  pub passed_second : IsIn at_hand second → (Has (IsInNeither first second) ps → Has (IsInNeither first second) (drop i ps)) → Has (IsInNeither first second) ps → Has (IsInNeither first second) (drop (i + 1) ps)
  passed_second m left h = passed (λ n. n.1 m) left h

  pub in_neither : (IsIn at_hand first → ⊥) → (IsIn at_hand second → ⊥) → (true ≡ true) ↔ Has (IsInNeither first second) ps
  in_neither a b = (λ _. found (IsInNeither first second) ps i at_hand within (get_or_default ps i no_pair at_hand within) (a, b), λ _. refl)

-- ---- of a skeleton

pub free_pair_if : (k : Skeleton) (own added pairs : List OrderPair) (b : Bool) → own ≡ k.from_problem.pairs → ((q : OrderPair) → IsIn q added ↔ IsAddedPair k q) → pairs ≡ k.pairs
    → (b ≡ true) ↔ Has (IsInNeither own added) pairs → (b ≡ true) ↔ HasFreePair k
free_pair_if k own added pairs b same are all h = (
  λ t. let r = h.0 t in record { pair = r.0; listed = subst (IsIn r.0) all r.1; not_own = λ m. r.2.0 (subst (IsIn r.0) (sym same) m); not_added = λ a. r.2.1 ((are r.0).1 a) },
  λ f. h.1 (f.pair, subst (IsIn f.pair) (sym all) f.listed, (λ m. f.not_own (subst (IsIn f.pair) same m), λ m. f.not_added ((are f.pair).0 m))),
)

pub none_free : (k : Skeleton) (b : Bool) → (b ≡ true) ↔ HasFreePair k → b ≡ false → WeakensNone k
none_free k b h f = no_free_pair k (λ free. not_both f (h.1 free))

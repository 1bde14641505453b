-- The normal forms that the rules give are normal forms of the skeleton, and lose none of its standings.
use Rattle.std.proofs.Common.{◌≡◌, ◌⊎◌, inl, inr, List, ◌++◌, refl, sym, subst, ⊎_elim}
use Rattle.cp_lists.specs.Lists.{IsIn, here, there}
use Rattle.cp_lists.proofs.Items.{at_place}
use Rattle.cp_model.specs.Term.{AtomTerm}
use Rattle.cp_model.specs.Strand.{Protocol}
use Rattle.cp_model.specs.declared.node.Node.{Node}
use Rattle.cp_model.specs.Given.{listed}
use Rattle.cp_model.specs.Skeleton.{UniqueAt, Skeleton, IsSkeleton}
use Rattle.cp_lists.proofs.Members.{in_append, in_append_left, in_append_right}
use Rattle.cp_theory.specs.Normal.{LosesNoStanding}
use Rattle.cp_theory.proofs.NoStandingLost.{among_more, through_each}
use Rattle.cp_skel.proofs.EachOnce.{listed-unique}
use Rattle.cp_normal.specs.Branched.{AreInOrder, no_atoms, never_equal_to, unified_with}
use Rattle.cp_normal.specs.Branches.{NeverEqualAtoms, HasBranch, HasBranches}
use Rattle.cp_normal.specs.Exact.{IsRefuted, HasForms, refuted, branching, cyclic, normal, EachHasForms, no_more, and_then}
use Rattle.cp_normal.specs.ReceivedAtomLists.{heard_before}
use Rattle.cp_normal.specs.NormalForms.{IsMisplaced, IsReceivedBefore, IsNarrowed, none, one, IsNormalFormOf}
use Rattle.cp_collapse.specs.Directed.{IsMostGeneralFor}
use Rattle.cp_normal.specs.Findings.{IsContradictory}
use Rattle.cp_normal.specs.MisplacedValues.{IsFirstMisplaced}
use Rattle.cp_normal.proofs.BranchLists.{all_have_branches}
use Rattle.cp_normal.proofs.Branches.{branches_lose_none}
use Rattle.cp_normal.proofs.Forms.{normal_form, pairs_lose_no_standing}
use Rattle.cp_normal.proofs.Heard.{heard_if_listed, listed_if_heard}
use Rattle.cp_normal.proofs.Losses.{none_of_contradictory}
use Rattle.cp_normal.proofs.Rounds.{narrows_is_skeleton}

pub contradicts : (k : Skeleton) → IsRefuted k → IsContradictory k
contradicts k (inl c) = inl c
contradicts k (inr (inl t)) = inr (inl t)
contradicts k (inr (inr l)) = inr (inr (inl l))

-- ---- the branches by the first unique value that is misplaced

module _ (k : Skeleton) (v : AtomTerm) (x : Node) (first : IsFirstMisplaced k v x) where
  abbrev entry : UniqueAt
  entry = first.here.entry

  is_value : entry.value ≡ v
  is_value = first.here.is_value

  misplaced : IsMisplaced k entry x
  misplaced = record {
    listed = ((listed-unique k).same entry).0 (at_place (listed k).uniquely_originating first.here.place entry first.here.at_place);
    originates = first.here.originates_elsewhere.1;
    elsewhere = first.here.originates_elsewhere.0;
  }

  -- Each is narrowed from k by one step.
  each_narrowed : (atoms : List AtomTerm) (ls : List Skeleton) → ((a : AtomTerm) → IsIn a atoms → IsReceivedBefore k a x) → AreInOrder k v atoms ls → (l : Skeleton) → IsIn l ls → IsNarrowed k l
  each_narrowed _ _ heard no_atoms l i = elim i [ ]
  each_narrowed _ _ heard (never_equal_to {others = others} {ls = ls} never more) l i = each_narrowed others ls (λ a j. heard a (there j)) more l i
  each_narrowed _ _ heard (unified_with {a = a} {s = s} m same more) l here = record {
    entry = entry;
    node = x;
    heard = a;
    unifier = s;
    misplaced = misplaced;
    heard_before = heard a here;
    most_general = subst (λ (w : AtomTerm). IsMostGeneralFor w a s) (sym is_value) m;
    same = same;
  }
  each_narrowed _ _ heard (unified_with {others = others} {ls = ls} m same more) l (there i) = each_narrowed others ls (λ a j. heard a (there j)) more l i

  module _ (branches : List Skeleton) (in_order : AreInOrder k v (heard_before k x) branches) where
    pub branch_narrowed : (l : Skeleton) → IsIn l branches → IsNarrowed k l
    branch_narrowed = each_narrowed (heard_before k x) branches (λ a i. heard_if_listed k x (heard_before k x) a refl i) in_order

    has_branches : HasBranches k entry x branches
    has_branches heard at =
        subst (λ (w : AtomTerm). NeverEqualAtoms w heard ⊎ HasBranch k w heard branches) (sym is_value)
        (all_have_branches k v heard (heard_before k x) branches in_order (listed_if_heard k x (heard_before k x) heard refl at))

    pub first_branches_lose_none : (protocol : Protocol) → IsSkeleton protocol k → LosesNoStanding protocol k branches
    first_branches_lose_none protocol sk = branches_lose_none protocol k entry x branches sk misplaced has_branches

    pub branch_is_skeleton : (protocol : Protocol) → IsSkeleton protocol k → (l : Skeleton) → IsIn l branches → IsSkeleton protocol l
    branch_is_skeleton protocol sk l i = narrows_is_skeleton protocol (one (branch_narrowed l i) none) sk

-- ---- normal forms

further : (k l r : Skeleton) → IsNarrowed k l → IsNormalFormOf l r → IsNormalFormOf k r
further k l r step f = record { narrowed = f.narrowed; by_steps = one step f.by_steps; pairs = f.pairs; same = f.same; normal = f.normal }

-- A normal form of one of the skeletons.
abbrev IsFormOfOne : List Skeleton → Skeleton → Type 0
IsFormOfOne ks r = (l : Skeleton) × IsIn l ks × IsNormalFormOf l r

mutual
  pub are_normal_forms : {k : Skeleton} {rs : List Skeleton} → HasForms k rs → (r : Skeleton) → IsIn r rs → IsNormalFormOf k r
  are_normal_forms (refuted never) r i = elim i [ ]
  are_normal_forms (branching {k = k} {v = v} {x = x} {branches = branches} sound misplaced in_order each) r i =
      let one : IsFormOfOne branches r = each_normal_forms each r i in
      further k one.0 r (branch_narrowed k v x misplaced branches in_order one.0 one.1) one.2
  are_normal_forms (cyclic settled never) r i = elim i [ ]
  are_normal_forms (normal {k = k} {pairs = pairs} settled are sound) r here = normal_form k k pairs none (are, sound) settled
  are_normal_forms (normal {k = k} {pairs = pairs} settled are sound) r (there i) = elim i [ ]

  each_normal_forms : {ks rs : List Skeleton} → EachHasForms ks rs → (r : Skeleton) → IsIn r rs → IsFormOfOne ks r
  each_normal_forms no_more r i = elim i [ ]
  each_normal_forms (and_then {k = k} {ks = ks} {rs = rs} {ss = ss} first rest) r i =
      ⊎_elim (λ j. (k, here, are_normal_forms first r j)) (λ j. let one : IsFormOfOne ks r = each_normal_forms rest r j in (one.0, there one.1, one.2)) (in_append rs ss i)

-- ---- standings

module _ (protocol : Protocol) where
  mutual
    pub forms_lose_none : {k : Skeleton} {rs : List Skeleton} → HasForms k rs → IsSkeleton protocol k → LosesNoStanding protocol k rs
    forms_lose_none (refuted {k = k} never) sk = none_of_contradictory protocol k sk (contradicts k never)
    forms_lose_none (branching {k = k} {v = v} {x = x} {branches = branches} {rs = rs} sound misplaced in_order each) sk =
        through_each protocol k branches rs (first_branches_lose_none k v x misplaced branches in_order protocol sk)
        (each_loses_none each (branch_is_skeleton k v x misplaced branches in_order protocol sk))
    forms_lose_none (cyclic {k = k} settled never) sk = none_of_contradictory protocol k sk never
    forms_lose_none (normal {k = k} {pairs = pairs} settled are sound) sk = pairs_lose_no_standing protocol k pairs sk are

    each_loses_none : {ks rs : List Skeleton} → EachHasForms ks rs → ((l : Skeleton) → IsIn l ks → IsSkeleton protocol l) → (l : Skeleton) → IsIn l ks → LosesNoStanding protocol l rs
    each_loses_none no_more are l i = elim i [ ]
    each_loses_none (and_then {k = k} {rs = rs} {ss = ss} first rest) are l here = among_more protocol k rs (rs ++ ss) (λ m j. in_append_left ss j) (forms_lose_none first (are k here))
    each_loses_none (and_then {rs = rs} {ss = ss} first rest) are l (there i) =
        among_more protocol l ss (rs ++ ss) (λ m j. in_append_right rs j) (each_loses_none rest (λ m j. are m (there j)) l i)

pub lose_no_standing : (protocol : Protocol) (k : Skeleton) (rs : List Skeleton) → IsSkeleton protocol k → HasForms k rs → LosesNoStanding protocol k rs
lose_no_standing protocol k rs sk has = forms_lose_none protocol has sk

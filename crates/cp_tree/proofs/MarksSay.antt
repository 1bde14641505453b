-- What the mark of a label says of what became of it.
use Rattle.std.proofs.Common.{◌≡◌, ℕ, ◌<◌, ◌≤◌, List, [], ◌∷◌, length, false, Option, Some, None, refl, subst}
use Rattle.cp_model.specs.Strand.{Protocol}
use Rattle.cp_model.specs.declared.variable.Declaration.{Declaration}
use Rattle.cp_model.specs.Skeleton.{Skeleton}
use Rattle.cp_model.specs.Derivable.{IsUnrealised}
use Rattle.cp_model.specs.Realisation.{AllDerivable}
use Rattle.cp_model.specs.Tree.{Label}
use Rattle.cp_model.specs.declared.tree.Mark.{Mark}
use Rattle.cp_model.specs.declared.tree.Mark.TheVariants.{Shape as shape, Dead as dead, Seen as seen, InstanceOf as instance_of, LimitSteps as limit_steps, LimitStrands as limit_strands}
use Rattle.cp_model.specs.declared.tree.Limits.{Limits}
use Rattle.cp_general.specs.Generalisation.{IsMaximallyGeneral}
use Rattle.cp_shapes.specs.Shapes.{IsLeast, IsInstanceWithin, IsShapeAt, IsInstanceOfShape}
use Rattle.cp_expansion.proofs.Tables.{derivable_from_table}
use Rattle.cp_tree.specs.Candidates.{Candidate, IsCandidate, AreCandidates, skeletons_of, IsLabelAt}
use Rattle.cp_tree.specs.Made.{Made, LabelLink, MayPointTo}
use Rattle.cp_tree.specs.Searched.{mark_by_children, IsMarkedAmong, as_shape, as_instance}
use Rattle.cp_tree.proofs.Cases.{Becomes, is_dead, is_seen, is_realised, is_generalised, above_bound, at_limit, is_tested}
use Rattle.cp_tree.proofs.Picked.{one_place}

-- A label is not marked by its children but where it has none, as dead.
pub only_dead : (children : List ℕ) (mark : Mark) → mark_by_children children ≡ Some mark → dead ≡ mark
only_dead [] mark e = cc
only_dead (n ∷ ns) mark e = absurd (cc)

pub not_both : (k : Skeleton) → IsUnrealised k → AllDerivable k → ⊥
not_both k u all = u.underivable (all u.node u.message u.reception)

-- Nor is one with another table realised.
pub not_with_table : (k : Skeleton) (table : List Declaration) → IsUnrealised k → AllDerivable (record k { variables = table }) → ⊥
not_with_table k table u all = not_both k u (derivable_from_table k (record k { variables = table }) refl all)

module _ (protocol : Protocol) (limits : Limits) (links : List LabelLink) (cs : List Candidate) (i before : ℕ) (m : Made) where
  abbrev Here : Label → List Made → Type 0
  Here = Becomes protocol limits links (IsMarkedAmong cs) i before m

  -- ---- a shape

  pub record IsMarkedShape : Type 0 where
    pub lives : m.dead ≡ false
    pub realised : AllDerivable m.skeleton
    pub most_general : IsMaximallyGeneral m.skeleton
    pub place : ℕ
    pub at : IsLabelAt cs place i
    pub is_shape : IsShapeAt (skeletons_of cs) place

  shape_among : (mark : Option Mark) → IsMarkedAmong cs i mark → mark ≡ Some shape → m.dead ≡ false → AllDerivable m.skeleton → IsMaximallyGeneral m.skeleton → IsMarkedShape
  shape_among mark (as_shape {p = p} a s) e d all most = record { lives = d; realised = all; most_general = most; place = p; at = a; is_shape = s }
  shape_among mark (as_instance a l b) e d all most = absurd (cc)

  pub shape_says : (l : Label) (gives : List Made) → Here l gives → l.mark ≡ Some shape → IsMarkedShape
  shape_says l gives (is_dead d) e = absurd (cc)
  shape_says l gives (is_seen d u s) e = absurd (cc)
  shape_says l gives (is_realised {mark = mark} d n a y s) e = shape_among mark s e d a y
  shape_says l gives (is_generalised d n a w) e = absurd (cc)
  shape_says l gives (above_bound d n u r b) e = absurd (cc)
  shape_says l gives (at_limit d n u r b q) e = absurd (cc)
  shape_says l gives (is_tested {children = children} d n u r b c x s) e = absurd (let f = only_dead children shape e in cc)

  -- ---- an instance

  pub record IsMarkedInstance (n : ℕ) : Type 0 where
    pub lives : m.dead ≡ false
    pub place : ℕ
    pub at : IsLabelAt cs place i
    pub of_place : ℕ
    pub least : IsLeast (IsInstanceOfShape (skeletons_of cs) place) of_place
    pub of_label : IsLabelAt cs of_place n

  instance_among : (n : ℕ) (mark : Option Mark) → IsMarkedAmong cs i mark → mark ≡ Some (instance_of n) → m.dead ≡ false → IsMarkedInstance n
  instance_among n mark (as_shape a s) e d = absurd (cc)
  instance_among n mark (as_instance {p = p} {q = q} {n = o} a l b) e d =
      let same : o ≡ n = cc in
      record { lives = d; place = p; at = a; of_place = q; least = l; of_label = subst (IsLabelAt cs q) same b }

  pub instance_says : (l : Label) (gives : List Made) (n : ℕ) → Here l gives → l.mark ≡ Some (instance_of n) → IsMarkedInstance n
  instance_says l gives n (is_dead d) e = absurd (cc)
  instance_says l gives n (is_seen d u s) e = absurd (cc)
  instance_says l gives n (is_realised {mark = mark} d o a y s) e = instance_among n mark s e d
  instance_says l gives n (is_generalised d o a w) e = absurd (cc)
  instance_says l gives n (above_bound d o u r b) e = absurd (cc)
  instance_says l gives n (at_limit d o u r b q) e = absurd (cc)
  instance_says l gives n (is_tested {children = children} d o u r b c x s) e = absurd (let f = only_dead children (instance_of n) e in cc)

  -- ---- seen

  not_seen_among : (n : ℕ) (mark : Option Mark) → IsMarkedAmong cs i mark → mark ≡ Some (seen n) → ⊥
  not_seen_among n mark (as_shape a s) e = cc
  not_seen_among n mark (as_instance a l b) e = cc

  pub seen_says : (l : Label) (gives : List Made) (n : ℕ) → Here l gives → l.mark ≡ Some (seen n) → MayPointTo links i n
  seen_says l gives n (is_dead d) e = absurd (cc)
  seen_says l gives n (is_seen {n = o} d u s) e = let same : o ≡ n = cc in subst (MayPointTo links i) same s.holds
  seen_says l gives n (is_realised {mark = mark} d o a y s) e = absurd (not_seen_among n mark s e)
  seen_says l gives n (is_generalised d o a w) e = absurd (cc)
  seen_says l gives n (above_bound d o u r b) e = absurd (cc)
  seen_says l gives n (at_limit d o u r b q) e = absurd (cc)
  seen_says l gives n (is_tested {children = children} d o u r b c x s) e = absurd (let f = only_dead children (seen n) e in cc)

  -- ---- limits

  no_limit_among : (mark : Option Mark) → IsMarkedAmong cs i mark → (mark ≡ Some limit_steps → ⊥) × (mark ≡ Some limit_strands → ⊥)
  no_limit_among mark (as_shape a s) = (λ e. cc, λ e. cc)
  no_limit_among mark (as_instance a l b) = (λ e. cc, λ e. cc)

  pub record IsAtStepLimit (l : Label) : Type 0 where
    pub unrealised : IsUnrealised l.skeleton
    pub within : length l.skeleton.strands ≤ limits.strands
    pub reached : before ≡ limits.steps
    pub unexpanded : l.test ≡ None

  pub steps_says : (l : Label) (gives : List Made) → Here l gives → l.mark ≡ Some limit_steps → IsAtStepLimit l
  steps_says l gives (is_dead d) e = absurd (cc)
  steps_says l gives (is_seen d u s) e = absurd (cc)
  steps_says l gives (is_realised {mark = mark} d n a y s) e = absurd ((no_limit_among mark s).0 e)
  steps_says l gives (is_generalised d n a w) e = absurd (cc)
  steps_says l gives (above_bound d n u r b) e = absurd (cc)
  steps_says l gives (at_limit d n u r b q) e = record { unrealised = r; within = b; reached = q; unexpanded = refl }
  steps_says l gives (is_tested {children = children} d n u r b c x s) e = absurd (let f = only_dead children limit_steps e in cc)

  pub strands_says : (l : Label) (gives : List Made) → Here l gives → l.mark ≡ Some limit_strands → IsUnrealised l.skeleton × (limits.strands < length l.skeleton.strands)
  strands_says l gives (is_dead d) e = absurd (cc)
  strands_says l gives (is_seen d u s) e = absurd (cc)
  strands_says l gives (is_realised {mark = mark} d n a y s) e = absurd ((no_limit_among mark s).1 e)
  strands_says l gives (is_generalised d n a w) e = absurd (cc)
  strands_says l gives (above_bound d n u r b) e = (r, b)
  strands_says l gives (at_limit d n u r b q) e = absurd (cc)
  strands_says l gives (is_tested {children = children} d n u r b c x s) e = absurd (let f = only_dead children limit_strands e in cc)

  -- ---- a candidate that is a shape

  module _ (labels : List Label) (are : AreCandidates labels cs) where
    marked_shape : (q : ℕ) (mark : Option Mark) → IsMarkedAmong cs i mark → IsLabelAt cs q i → IsShapeAt (skeletons_of cs) q → mark ≡ Some shape
    marked_shape q mark (as_shape a s) at is = refl
    marked_shape q mark (as_instance {p = p} {q = r} a l b) at is =
        let same : p ≡ q = one_place IsCandidate (λ (x : Label). x.skeleton) labels cs are p q i a at in
        absurd (is.no_instance r (subst (λ (x : ℕ). IsInstanceWithin (skeletons_of cs) x r) same l.holds.1))

    -- It is marked so, and no label was made from it.
    pub candidate_shape : (q : ℕ) (l : Label) (gives : List Made) → Here l gives → IsCandidate l → IsLabelAt cs q i → IsShapeAt (skeletons_of cs) q → l.mark ≡ Some shape
    candidate_shape q l gives (is_dead d) c at is = absurd (c.lives refl)
    candidate_shape q l gives (is_seen {n = n} d u s) c at is = absurd (c.not_seen n refl)
    candidate_shape q l gives (is_realised {mark = mark} d n a y s) c at is = marked_shape q mark s at is
    candidate_shape q l gives (is_generalised {child = child} d n a w) c at is = absurd (let e : (child ∷ []) ≡ [] = c.own in cc)
    candidate_shape q l gives (above_bound d n u r b) c at is = absurd (not_both m.skeleton r c.realised)
    candidate_shape q l gives (at_limit d n u r b e) c at is = absurd (not_both m.skeleton r c.realised)
    candidate_shape q l gives (is_tested {e = expansion} d n u r b e x s) c at is = absurd (not_with_table m.skeleton expansion.skeleton.variables r c.realised)

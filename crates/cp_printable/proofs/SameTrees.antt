-- A tree that is the same as one that is true of a problem is true of it.
use Rattle.std.proofs.Common.{◌≡◌, ◌⊎◌, inl, inr, ℕ, ◌≤◌, ◌<◌, List, [], ◌∷◌, length, Option, Some, None, refl, sym, ap, ◌∙◌, subst}
use Rattle.cp_lists.specs.Lists.{item_at, IsIn, here, there}
use Rattle.cp_lists.proofs.Items.{place_of, at_place}
use Rattle.cp_lists.proofs.Members.{in_append_left, in_append_right, head_or_behind}
use Rattle.cp_model.specs.Senders.{ArePaired}
use Rattle.cp_model.specs.Term.{Substitution}
use Rattle.cp_model.specs.declared.variable.Variable.{Variable}
use Rattle.cp_model.specs.Strand.{Protocol}
use Rattle.cp_model.specs.declared.variable.Declaration.{Declaration}
use Rattle.cp_model.specs.Bundle.{Bundle}
use Rattle.cp_model.specs.Problem.{variables_of_skeleton}
use Rattle.cp_model.specs.PointOfView.{StatesItself}
use Rattle.cp_model.specs.Skeleton.{Skeleton, IsSkeleton}
use Rattle.cp_model.specs.Standing.{Standing, StandsIn, StandsApart}
use Rattle.cp_model.specs.Homomorphism.{Embeds, FactorsThrough, Covers}
use Rattle.cp_model.specs.Tree.{Test, Label, Tree, if_shape, shapes_of, if_left, skeletons_left, IsOpen, ReachedSteps, ReachedStrands, IsLabelOf, IsTrueOf}
use Rattle.cp_model.specs.declared.tree.Mark.{Mark}
use Rattle.cp_model.specs.declared.tree.Mark.TheVariants.{Shape as shape, Dead as dead, Seen as seen, InstanceOf as instance_of, LimitSteps as limit_steps, LimitStrands as limit_strands}
use Rattle.cp_model.specs.declared.tree.Limits.{Limits}
use Rattle.cp_model.proofs.Paired.{paired_item}
use Rattle.cp_model.proofs.LawEmbeddings.{embeds_then}
use Rattle.cp_language.specs.Report.{variables_of_terms, variables_of_test, variables_of_patterns, occurring}
use Rattle.cp_report.specs.UpToNames.{renaming, IsSameTest, IsSameLabel, IsSameTree}
use Rattle.cp_report.proofs.SkeletonFits.{paired_length}
use Rattle.cp_report.proofs.TreeFits.{expanded_same}
use Rattle.cp_printable.specs.TrueTrees.{HasOrderPairs}
use Rattle.cp_printable.proofs.SameStrands.{paired_from}
use Rattle.cp_printable.proofs.SameMaps.{with_terms, from, same_is_skeleton, forth_embedding, back_embedding}
use Rattle.cp_printable.proofs.SameRealised.{led_back, same_stands, same_apart, same_realised}
use Rattle.cp_printable.proofs.SameStated.{same_carries, same_stated, same_factors}
use Rattle.cp_printable.proofs.SameUnrealised.{same_unrealised}

-- ---- two labels

module _ (l m : Label) (h : IsSameLabel l m) where
  -- The variables of the skeleton occur in the label,
  pub in_skeleton : (x : Variable) → IsIn x (variables_of_skeleton l.skeleton) → IsIn x (occurring l)
  in_skeleton x i = in_append_left (variables_of_patterns l.escape) (in_append_left (variables_of_test l.test) (in_append_left (variables_of_terms l.skeleton.from_problem.values) i))

  -- and those of its map from the problem.
  pub in_values : (x : Variable) → IsIn x (variables_of_terms l.skeleton.from_problem.values) → IsIn x (occurring l)
  in_values x i = in_append_left (variables_of_patterns l.escape) (in_append_left (variables_of_test l.test) (in_append_right (variables_of_skeleton l.skeleton) i))

  -- The skeleton of the first label embeds in that of the second,
  label_embeds : Embeds l.skeleton m.skeleton
  label_embeds = (with_terms (renaming h.number), forth_embedding (renaming h.number) l.skeleton m.skeleton h.skeleton)

  -- and that in it.
  embeds_label : Embeds m.skeleton l.skeleton
  embeds_label = (
    with_terms (from h.number (occurring l) h.one_to_one l.skeleton m.skeleton h.skeleton in_skeleton),
    back_embedding h.number (occurring l) h.one_to_one l.skeleton m.skeleton h.skeleton in_skeleton in_values,
  )

  -- Both have equally many strands.
  as_many_strands : length l.skeleton.strands ≡ length m.skeleton.strands
  as_many_strands = paired_length (renaming h.number) l.skeleton.strands m.skeleton.strands h.skeleton.strands

-- ---- tests

-- If the first test is missing, the second is.
test_none : (s : Substitution) (a b : Option Test) → IsSameTest s a b → a ≡ None → b ≡ None
test_none s None None p e = refl
test_none s None (Some t) p e = absurd p
test_none s (Some t) None p e = refl
test_none s (Some t) (Some u) p e = absurd (cc)

-- ---- the skeletons of labels with some marks

-- A label with this skeleton, and a label that is the same, whose skeleton is in the other list.
record Partner (ls ms : List Label) (ks : List Skeleton) (k : Skeleton) : Type 0 where
  label : Label
  other : Label
  listed : IsIn label ls
  listed_other : IsIn other ms
  same : IsSameLabel label other
  is : label.skeleton ≡ k
  kept : IsIn other.skeleton ks

-- The mark alone decides whether a skeleton is put before others.
abbrev Puts : (Option Mark → Skeleton → List Skeleton → List Skeleton) → Option Mark → Type 0
Puts put o = ((k : Skeleton) (ks : List Skeleton) → put o k ks ≡ k ∷ ks) ⊎ ((k : Skeleton) (ks : List Skeleton) → put o k ks ≡ ks)

module _ (put : Option Mark → Skeleton → List Skeleton → List Skeleton) (puts : (o : Option Mark) → Puts put o) (kept : List Label → List Skeleton) (at_end : kept [] ≡ []) (of_label : (l : Label) (ls : List Label) → kept (l ∷ ls) ≡ put l.mark l.skeleton (kept ls)) where
  -- Each skeleton of the first list comes from such a label.
  partner : (ls ms : List Label) → ArePaired IsSameLabel ls ms → (k : Skeleton) → IsIn k (kept ls) → Partner ls ms (kept ms) k
  partner [] [] p k i = elim (subst (IsIn k) at_end i) [ ]
  partner [] (m ∷ ms) p k i = absurd p
  partner (l ∷ ls) [] p k i = absurd p
  partner (l ∷ ls) (m ∷ ms) p k i = by (puts l.mark) (partner ls ms p.1 k)
    where
      whole : kept (m ∷ ms) ≡ put l.mark m.skeleton (kept ms)
      whole = of_label m ms ∙ ap (λ (o : Option Mark). put o m.skeleton (kept ms)) (sym p.0.mark)

      further : Partner ls ms (kept ms) k → ((x : Skeleton) → IsIn x (kept ms) → IsIn x (kept (m ∷ ms))) → Partner (l ∷ ls) (m ∷ ms) (kept (m ∷ ms)) k
      further q wider = record { label = q.label; other = q.other; listed = there q.listed; listed_other = there q.listed_other; same = q.same; is = q.is; kept = wider q.other.skeleton q.kept }

      put_first : ((j : Skeleton) (ks : List Skeleton) → put l.mark j ks ≡ j ∷ ks) → (k ≡ l.skeleton) ⊎ IsIn k (kept ls) → (IsIn k (kept ls) → Partner ls ms (kept ms) k) → Partner (l ∷ ls) (m ∷ ms) (kept (m ∷ ms)) k
      put_first add (inl e) rest = record {
        label = l;
        other = m;
        listed = here;
        listed_other = here;
        same = p.0;
        is = sym e;
        kept = subst (IsIn m.skeleton) (sym (whole ∙ add m.skeleton (kept ms))) here;
      }
      put_first add (inr j) rest = further (rest j) (λ x q. subst (IsIn x) (sym (whole ∙ add m.skeleton (kept ms))) (there q))

      by : Puts put l.mark → (IsIn k (kept ls) → Partner ls ms (kept ms) k) → Partner (l ∷ ls) (m ∷ ms) (kept (m ∷ ms)) k
      by (inl add) rest = put_first add (head_or_behind (subst (IsIn k) (of_label l ls ∙ add l.skeleton (kept ls)) i)) rest
      by (inr skip) rest = further (rest (subst (IsIn k) (of_label l ls ∙ skip l.skeleton (kept ls)) i)) (λ x q. subst (IsIn x) (sym (whole ∙ skip m.skeleton (kept ms))) q)

-- What holds of no mark and of each mark holds of all.
of_marks : (P : Option Mark → Type 0) → P None → P (Some shape) → P (Some dead) → ((n : ℕ) → P (Some (seen n))) → ((n : ℕ) → P (Some (instance_of n))) → P (Some limit_steps) → P (Some limit_strands) → (o : Option Mark) → P o
of_marks P none is_shape is_dead is_seen is_instance at_steps at_strands None = none
of_marks P none is_shape is_dead is_seen is_instance at_steps at_strands (Some shape) = is_shape
of_marks P none is_shape is_dead is_seen is_instance at_steps at_strands (Some dead) = is_dead
of_marks P none is_shape is_dead is_seen is_instance at_steps at_strands (Some (seen n)) = is_seen n
of_marks P none is_shape is_dead is_seen is_instance at_steps at_strands (Some (instance_of n)) = is_instance n
of_marks P none is_shape is_dead is_seen is_instance at_steps at_strands (Some limit_steps) = at_steps
of_marks P none is_shape is_dead is_seen is_instance at_steps at_strands (Some limit_strands) = at_strands

-- So it is for the skeletons of shapes,
shape_puts : (o : Option Mark) → Puts if_shape o
shape_puts = of_marks (Puts if_shape) (inr (λ k ks. refl)) (inl (λ k ks. refl)) (inr (λ k ks. refl)) (λ n. inr (λ k ks. refl)) (λ n. inr (λ k ks. refl)) (inr (λ k ks. refl)) (inr (λ k ks. refl))

-- and for the skeletons of shapes and of labels at a limit.
left_puts : (o : Option Mark) → Puts if_left o
left_puts = of_marks (Puts if_left) (inr (λ k ks. refl)) (inl (λ k ks. refl)) (inr (λ k ks. refl)) (λ n. inr (λ k ks. refl)) (λ n. inr (λ k ks. refl)) (inl (λ k ks. refl)) (inl (λ k ks. refl))

-- ---- trees

module _ (protocol : Protocol) (problem : Skeleton) (variables : List Declaration) (own : StatesItself variables problem) (limits : Limits) (t u : Tree) (pairs : HasOrderPairs u) (is : IsTrueOf protocol problem limits t) (same : IsSameTree t u) where
  -- The label in the same place of the first tree.
  first : (i : ℕ) (m : Label) → item_at u.labels i ≡ Some m → (l : Label) × (item_at t.labels i ≡ Some l) × IsSameLabel l m
  first i m at = paired_from IsSameLabel t.labels u.labels same.labels i m at

  -- Each label of the first tree denotes a skeleton over the protocol,
  was_skeleton : (l : Label) → IsIn l t.labels → IsSkeleton protocol l.skeleton
  was_skeleton l i = let p = place_of i in (is.labels p.0 l p.1).skeleton

  -- and so does each label of the second.
  is_skeleton : (l m : Label) → IsIn l t.labels → IsIn m u.labels → IsSameLabel l m → IsSkeleton protocol m.skeleton
  is_skeleton l m i j h = same_is_skeleton (renaming h.number) l.skeleton m.skeleton h.skeleton protocol (was_skeleton l i) (pairs m j)

  -- ---- complete lists

  -- If skeletons of the first tree cover a standing of the problem, the skeletons of the second tree cover it.
  covered : (ks ms : List Skeleton) (b : Bundle) (h : Standing) → ((k : Skeleton) → IsIn k ks → Partner t.labels u.labels ms k) → Covers ks problem b h → Covers ms problem b h
  covered ks ms b h partners c =
      let p = partners c.skeleton c.listed in
      let l = p.label in
      let m = p.other in
      let g = p.same in
      let old : StandsIn l.skeleton b c.standing = subst (λ (k : Skeleton). StandsIn k b c.standing) (sym p.is) c.stands in
      let old_apart : StandsApart l.skeleton c.standing = subst (λ (k : Skeleton). StandsApart k c.standing) (sym p.is) c.apart in
      let old_factors : FactorsThrough problem h l.skeleton c.standing = subst (λ (k : Skeleton). FactorsThrough problem h k c.standing) (sym p.is) c.factors in
      record {
        skeleton = m.skeleton;
        listed = p.kept;
        standing = led_back g.number (occurring l) g.one_to_one l.skeleton m.skeleton g.skeleton (in_skeleton l m g) c.standing;
        stands = same_stands g.number (occurring l) g.one_to_one l.skeleton m.skeleton g.skeleton (in_skeleton l m g) protocol b c.standing (was_skeleton l p.listed) (is_skeleton l m p.listed p.listed_other g) old;
        apart = same_apart g.number (occurring l) g.one_to_one l.skeleton m.skeleton g.skeleton (in_skeleton l m g) c.standing old_apart;
        factors = same_factors g.number (occurring l) g.one_to_one l.skeleton m.skeleton g.skeleton (in_skeleton l m g) (in_values l m g) problem h c.standing old_factors;
      }

  -- ---- limits

  -- For each open label of the first tree there is an open label of the second tree.
  still_open : (l : Label) → IsOpen t l → (m : Label) × IsSameLabel l m × IsOpen u m
  still_open l o =
      let p = place_of o.listed in
      let q = paired_item IsSameLabel t.labels u.labels same.labels p.0 l p.1 in
      let m = q.0 in
      let h = q.2 in (
        m,
        h,
        record {
          listed = at_place u.labels p.0 m q.1;
          unrealised = same_unrealised h.number (occurring l) h.one_to_one l.skeleton m.skeleton h.skeleton (in_skeleton l m h) o.unrealised;
          not_seen = λ n e. o.not_seen n (h.mark ∙ e);
          not_dead = λ e. o.not_dead (h.mark ∙ e);
        },
      )

  -- If the first tree has reached the step limit, the second has.
  steps_too : ReachedSteps limits t → ReachedSteps limits u
  steps_too r =
      let o = still_open r.label r.left in
      record {
        expanded = sym (expanded_same t.labels u.labels same.labels) ∙ r.expanded;
        label = o.0;
        left = o.2;
        unexpanded = test_none (renaming o.1.number) r.label.test o.0.test o.1.test r.unexpanded;
        within = subst (λ (n : ℕ). n ≤ limits.strands) (as_many_strands r.label o.0 o.1) r.within;
      }

  -- If the first tree has reached the strand bound, the second has.
  strands_too : ReachedStrands limits t → ReachedStrands limits u
  strands_too r =
      let o = still_open r.label r.left in
      record {
        no_step_limit = λ m i e. let p = place_of i in let q = first p.0 m p.1 in r.no_step_limit q.0 (at_place t.labels p.0 q.0 q.1) (q.2.mark ∙ e);
        label = o.0;
        left = o.2;
        above = subst (λ (n : ℕ). limits.strands < n) (as_many_strands r.label o.0 o.1) r.above;
      }

  -- ---- all of it

  -- The second tree is true of the problem.
  pub same_true : IsTrueOf protocol problem limits u
  same_true = record {
    labels = λ i m at.
        let p = first i m at in
        let was : IsLabelOf protocol problem p.0 = is.labels i p.0 p.1 in
        let skeleton = is_skeleton p.0 m (at_place t.labels i p.0 p.1) (at_place u.labels i m at) p.2 in
        record {
          skeleton = skeleton;
          from_problem = same_carries (renaming p.2.number) p.0.skeleton m.skeleton p.2.skeleton variables problem own was.from_problem;
          stated = same_stated (renaming p.2.number) p.0.skeleton m.skeleton p.2.skeleton variables problem own was.from_problem was.stated;
          realised = λ marked. same_realised p.2.number (occurring p.0) p.2.one_to_one p.0.skeleton m.skeleton p.2.skeleton (in_skeleton p.0 m p.2) protocol was.skeleton skeleton (was.realised (p.2.mark ∙ marked));
        };
    apart = λ i j m o at au marked marked' other e.
        let p = first i m at in
        let q = first j o au in
        is.apart i j p.0 q.0 p.1 q.1 (p.2.mark ∙ marked) (q.2.mark ∙ marked') other
        (embeds_then p.0.skeleton m.skeleton q.0.skeleton (label_embeds p.0 m p.2) (embeds_then m.skeleton o.skeleton q.0.skeleton e (embeds_label q.0 o q.2)));
    nothing_missed = λ out b h bundle stands.
        covered (shapes_of t.labels) (shapes_of u.labels) b h (partner if_shape shape_puts shapes_of refl (λ l ls. refl) t.labels u.labels same.labels) (is.nothing_missed (same.outcome ∙ out) b h bundle stands);
    nothing_left_out = λ b h bundle stands.
        covered (skeletons_left t.labels) (skeletons_left u.labels) b h (partner if_left left_puts skeletons_left refl (λ l ls. refl) t.labels u.labels same.labels) (is.nothing_left_out b h bundle stands);
    limit_reached = record { steps = λ out. steps_too (is.limit_reached.steps (same.outcome ∙ out)); strands = λ out. strands_too (is.limit_reached.strands (same.outcome ∙ out)) };
  }

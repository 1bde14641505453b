-- An added listener, whose transmission is put before a node.
use Rattle.std.proofs.Common.{◌≡◌, ℕ, ◌<◌, List, [], ◌∷◌, ◌++◌, length, Option, refl, sym, ap, ◌∙◌, subst, arith}
use Rattle.cp_lists.specs.Lists.{item_at, one_step, more_steps}
use Rattle.cp_lists.proofs.Items.{item_still, item_last}
use Rattle.cp_model.specs.Term.{Term}
use Rattle.cp_model.specs.declared.strand.Event.TheVariants.{Receive as recv}
use Rattle.cp_model.specs.declared.variable.Declaration.{Declaration}
use Rattle.cp_model.specs.Bundle.{node_at}
use Rattle.cp_model.specs.declared.node.Node.{Node}
use Rattle.cp_model.specs.Skeleton.{SkeletonStrand, listener, skeleton_trace_or_none, Skeleton, Before, OrderStep, along_strand_of, along_pair, IsOrderPair}
use Rattle.cp_model.specs.declared.tree.Operation.TheVariants.{AddedListener as by_added_listener}
use Rattle.cp_theory.specs.Critical.{IsTest}
use Rattle.cp_model.specs.Extensions.{AddsListener}
use Rattle.cp_skel.specs.Sound.{IsSound}
use Rattle.cp_skel.specs.Tables.{HaveTable}
use Rattle.cp_model.specs.declared.step.Step.{Step}
use Rattle.cp_theory.specs.Covering.{put_before}
use Rattle.cp_normal.specs.Exact.{HasForms}
use Rattle.cp_cohort.specs.CoveringChildren.{Child}
use Rattle.cp_cohort.specs.Cohort.{GuardedTest, Listens}
use Rattle.cp_cohort.specs.Children.{AreChildrenOfForms}
use Rattle.cp_cohort.proofs.GrownReleases.{event_stays, strand_there}

module _ (q : GuardedTest) (t : Term) (test : IsTest q.skeleton q.node q.critical) where
  abbrev heard : Skeleton
  heard = record q.skeleton { strands = q.skeleton.strands ++ listener t ∷ [] }

  abbrev place : ℕ
  place = length q.skeleton.strands

  below : q.node.strand < place
  below = strand_there q.skeleton.strands q.node (recv test.message) test.reception

  pub listener_pair : IsOrderPair heard (record { earlier = node_at place 1; later = q.node })
  listener_pair = record {
    sent = t;
    received = test.message;
    transmission = ap (λ (o : Option SkeletonStrand). item_at (skeleton_trace_or_none o) 1) (item_last q.skeleton.strands (listener t));
    reception = event_stays q.skeleton.strands heard.strands q.node (recv test.message) (λ x at. item_still q.skeleton.strands (listener t ∷ []) q.node.strand x at) test.reception;
    between_strands = λ e. absurd (omega (arith, below, e));
  }

  module _ (sound : IsSound q.skeleton) where
    step_stays : {x y : Node} → OrderStep heard x y → y.strand ≡ place → x.strand ≡ place
    step_stays (along_strand_of {s = s} {i = i} {e = e} ev) same = same
    step_stays (along_pair {p = p} i) same =
        let o = sound.skeleton.order_pairs p i in
        let there : p.later.strand < place = strand_there q.skeleton.strands p.later (recv o.received) o.reception in
        absurd (omega (arith, there, same))

    stays : {x y : Node} → Before heard x y → y.strand ≡ place → x.strand ≡ place
    stays (one_step s) same = step_stays s same
    stays (more_steps s p) same = step_stays s (stays p same)

    -- Nothing of another strand is before a new listener.
    pub none_before : Before heard q.node (node_at place 1) → ⊥
    none_before b = let same : q.node.strand ≡ place = stays b refl in absurd (omega (arith, below, same))

  pub listened : (added put : Skeleton) → AddsListener t q.skeleton added → put ≡ put_before (node_at place 1) q.node added → (cs : List Child) →
      AreChildrenOfForms (by_added_listener place) [] put cs → Listens q t cs
  listened added put adds same cs f = record {
    added = added;
    adds = adds;
    forms = f.forms;
    normal = subst (λ (k : Skeleton). HasForms k f.forms) same f.normal;
    table = subst (λ (ds : List Declaration). HaveTable ds f.forms) (ap (λ (k : Skeleton). k.variables) same ∙ ap (λ (k : Skeleton). k.variables) adds) f.table;
    are_children = f.are_children;
  }

  module _ (n : ℕ) (number : n ≡ place) (added : Skeleton) (adds : AddsListener t q.skeleton added) where
    abbrev sent : Node
    sent = record { strand = n; index = 1 }

    pub may_be_put : IsOrderPair added (record { earlier = sent; later = q.node })
    may_be_put =
        subst (λ (m : ℕ). IsOrderPair added (record { earlier = record { strand = m; index = 1 }; later = q.node })) (sym number)
        (subst (λ (k : Skeleton). IsOrderPair k (record { earlier = node_at place 1; later = q.node })) (sym adds) listener_pair)

    pub never_refused : IsSound q.skeleton → Before added q.node sent → ⊥
    never_refused sound b =
        none_before sound (subst (λ (k : Skeleton). Before k q.node (node_at place 1)) adds (subst (λ (m : ℕ). Before added q.node (record { strand = m; index = 1 })) number b))

    pub listened_at : (path : List Step) → path ≡ [] → (put : Skeleton) → put ≡ put_before sent q.node added → (cs : List Child) → AreChildrenOfForms (by_added_listener n) path put cs → Listens q t cs
    listened_at path none put same cs f =
        let at_number : AreChildrenOfForms (by_added_listener place) path put cs = subst (λ (m : ℕ). AreChildrenOfForms (by_added_listener m) path put cs) number f in
        let at_start : AreChildrenOfForms (by_added_listener place) [] put cs = subst (λ (p : List Step). AreChildrenOfForms (by_added_listener place) p put cs) none at_number in
        listened added put adds (same ∙ ap (λ (m : ℕ). put_before (record { strand = m; index = 1 }) q.node added) number) cs at_start

-- The listener that is added in a copy.
pub listener_added : (k copied new : Skeleton) (t message : Term) → copied ≡ k → message ≡ t → AddsListener message copied new → AddsListener t k new
listener_added k copied new t message same is adds =
    adds ∙ ap (λ (z : Skeleton). record z { strands = z.strands ++ listener message ∷ [] }) same ∙ ap (λ (u : Term). record k { strands = k.strands ++ listener u ∷ [] }) is

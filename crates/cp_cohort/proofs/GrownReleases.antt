-- Grown skeletons in which an event is to release the critical term.
use Rattle.std.proofs.Common.{◌≡◌, ◌≢◌, ℕ, suc, ◌<◌, List, [], ◌∷◌, ◌++◌, length, get_or, map, Option, Some, None, false, refl, sym, ap, ◌∙◌, subst, arith, inl, inr}
use Rattle.std.specs.Borrow.{Bor}
use Rattle.cp_lists.specs.Lists.{item_at, one_step}
use Rattle.cp_lists.proofs.Items.{item_still, item_last, item_below, item_of_read}
use Rattle.cp_lists.proofs.Members.{in_append_left, in_last}
use Rattle.cp_lists.proofs.Reached.{steps_append}
use Rattle.cp_model.specs.Term.{Term, Substitution, apply_to}
use Rattle.cp_model.specs.Bindings.{Binding, as_substitution}
use Rattle.cp_model.specs.Strand.{Role}
use Rattle.cp_model.specs.declared.strand.Event.{Event}
use Rattle.cp_model.specs.declared.strand.Event.TheVariants.{Send as send, Receive as recv}
use Rattle.cp_model.specs.Bundle.{node_at}
use Rattle.cp_model.specs.declared.node.Node.{Node}
use Rattle.cp_model.specs.Skeleton.{SkeletonStrand, instance, listener, skeleton_trace_or_none, term_event_at, Skeleton, Before, along_pair, IsOrderPair, IsNodeOf}
use Rattle.cp_model.specs.declared.tree.Operation.{Operation}
use Rattle.cp_model.specs.declared.tree.Operation.TheVariants.{Displaced as by_displacement, AddedStrand as by_added_strand}
use Rattle.cp_model.proofs.LawOrder.{before_wider}
use Rattle.cp_model.proofs.LawStandings.{event_of_higher}
use Rattle.cp_theory.specs.Critical.{IsTest}
use Rattle.cp_pattern.specs.Candidates.{may_equal}
use Rattle.cp_pattern.specs.Unifiers.{UnifiesMostGenerally, NeverEqual}
use Rattle.cp_pattern.proofs.DifferentTerms as differing
use Rattle.cp_model.specs.Extensions.{AddsStrand, Extends}
use Rattle.cp_strand.specs.View.{InstanceData}
use Rattle.cp_skel.specs.Ordered.{ChangesOrderOnly}
use Rattle.cp_strand.specs.Shapes.{strand_of_shape}
use Rattle.cp_strand.specs.declared.strand.StrandShape.{StrandShape}
use Rattle.cp_strand.specs.declared.strand.StrandShape.TheVariants.{Instance, Listener}
use Rattle.cp_model.specs.PrefixVariables.{prefix_variables, added_variables}
use Rattle.cp_model.specs.declared.step.Step.{Step}
use Rattle.cp_model.specs.Positions.{term_at, positions_where}
use Rattle.cp_theory.specs.Covering.{put_before}
use Rattle.cp_theory.specs.Fresh.{fresh_terms}
use Rattle.cp_cohort.specs.Releases.{PartialSolution}
use Rattle.cp_cohort.specs.Stages.{IsFirstUnder, SolvesRelease, on_the_way}
use Rattle.cp_cohort.specs.GatheredLists.{EachGives, nothing_given, then_given, StartsGiving, starts_here, starts_later}
use Rattle.cp_cohort.specs.CoveringChildren.{Child, child, declarations_among, HasGrown}
use Rattle.cp_cohort.specs.Cohort.{GuardedTest, positions, cyclic, never_equal, unified, release_at, DisplacesEvent, is_displaced, AddsAt, AddsEvent, StartsEvent, is_added}
use Rattle.cp_cohort.proofs.GrownEvents.{Sends, grown_sends}
use Rattle.cp_cohort.specs.Children.{ReleasesAt, ReleasesEach, ReleasesPut, StartsReleasing}
use Rattle.cp_cohort.proofs.ChildLists.{each_nothing}
use Rattle.cp_cohort.proofs.Positions.{wider, starts_wider, positions_under}

pub each_other : {A B : Type 0} (P Q : A → List B → Type 0) → ((x : A) (ys : List B) → P x ys → Q x ys) → (xs : List A) (ys : List B) → EachGives P xs ys → EachGives Q xs ys
each_other P Q f [] _ nothing_given = nothing_given
each_other P Q f (x ∷ xs) _ (then_given {ys = ys} {zs = zs} h rest) = then_given (f x ys h) (each_other P Q f xs zs rest)

starts_other : {A B : Type 0} (P Q : A → List B → Type 0) → ((x : A) (ys : List B) → P x ys → Q x ys) → {xs : List A} {ys : List B} → StartsGiving P P xs ys → StartsGiving Q Q xs ys
starts_other P Q f (starts_here {x = x} {ys = ys} s) = starts_here (f x ys s)
starts_other P Q f (starts_later {x = x} {ys = ys} h rest) = starts_later (f x ys h) (starts_other P Q f rest)

-- ---- put before the node

module _ (m n : Node) (k : Skeleton) where
  -- A node put before one that is before it closes a cycle.
  pub closes : Before k n m → Before (put_before m n k) n n
  closes b =
      steps_append (before_wider k (put_before m n k) refl (λ p i. in_append_left (record { earlier = m; later = n } ∷ []) i) b) (one_step (along_pair (in_last k.pairs (record { earlier = m; later = n }))))

-- A skeleton with one more pair.
pub put_there : (old new : Skeleton) (m n : Node) → ChangesOrderOnly old new → new.pairs ≡ old.pairs ++ record { earlier = m; later = n } ∷ [] → new ≡ put_before m n old
put_there old new m n c p = λ i. record { variables = c.variables i; strands = c.strands i; pairs = p i; assumptions = c.assumptions i; from_problem = c.from_problem i }

module _ (q : GuardedTest) (op : Operation) (m : Node) where
  -- One that closes a cycle gives nothing.
  pub nothing_released : (grown : Skeleton) → Before grown q.node m → ReleasesEach q op m grown []
  nothing_released grown b t at = each_nothing (ReleasesAt q op m grown) (positions t) (λ path. cyclic (closes m q.node grown b))

  -- Nor does a position at which something else stands.
  pub never_released : (put : Skeleton) (t u : Term) (path : List Step) → term_at t path ≡ Some u → NeverEqual u q.critical → ReleasesPut q op m put t path []
  never_released put t u path at never grown same there = never_equal there at never

  pub released_by : (put : Skeleton) (t u : Term) (path : List Step) (s : Substitution) (x : PartialSolution) (settled : List PartialSolution) → ((y : Node) → Before put y y → ⊥) → term_at t path ≡ Some u →
      UnifiesMostGenerally u q.critical s → IsFirstUnder put s x → SolvesRelease (release_at q m.strand m.index path) on_the_way x settled →
      ReleasesPut q op m put t path (map (λ (y : PartialSolution). child op path y.skeleton) settled)
  released_by put t u path s x settled acyclic at unifies is_first settles grown same there =
      let free : (y : Node) → Before (put_before m q.node grown) y y → ⊥ = subst (λ (k : Skeleton). (y : Node) → Before k y y → ⊥) same acyclic in
      unified free there at unifies (subst (λ (k : Skeleton). IsFirstUnder k s x) same is_first) settles

  -- What is released in a grown skeleton that has been put before the node: the positions at which what stands may equal the
  -- critical term are enough.
  module _ (put grown : Skeleton) (message : Term) (same : put ≡ put_before m q.node grown) (is : (t : Term) → term_event_at put.strands m ≡ Some (send t) → message ≡ t) where
    abbrev Put : List Step → List Child → Type 0
    Put = ReleasesPut q op m put message

    abbrev There : List Step → List Child → Type 0
    There = ReleasesAt q op m grown

    says : (t : Term) → term_event_at grown.strands m ≡ Some (send t) → message ≡ t
    says t there = is t (ap (λ (k : Skeleton). term_event_at k.strands m) same ∙ there)

    module _ (t : Term) (there : term_event_at grown.strands m ≡ Some (send t)) where
      sends : term_event_at grown.strands m ≡ Some (send message)
      sends = there ∙ ap (λ (u : Term). Some (send u)) (sym (says t there))

      put_there_is : (path : List Step) (cs : List Child) → Put path cs → There path cs
      put_there_is path cs r = r grown same sends

      others_never : (path : List Step) (u : Term) → term_at message path ≡ Some u → may_equal q.critical u ≡ false → There path []
      others_never path u at fails = never_equal sends at (differing.never_equal q.critical u fails)

    pub released_all : (cs : List Child) → EachGives Put (positions_where (may_equal q.critical) message) cs → ReleasesEach q op m grown cs
    released_all cs e t there =
        subst (λ (u : Term). EachGives There (positions u) cs) (says t there)
        (wider (may_equal q.critical) message There (others_never t there) cs (each_other Put There (put_there_is t there) (positions_where (may_equal q.critical) message) cs e))

    pub released_first : (cs : List Child) → StartsGiving Put Put (positions_where (may_equal q.critical) message) cs → StartsReleasing q op m grown cs
    released_first cs e t there =
        subst (λ (u : Term). StartsGiving There There (positions u) cs) (says t there)
        (starts_wider (may_equal q.critical) message There (others_never t there) cs (starts_other Put There (put_there_is t there) e))

-- ---- the events of a strand

-- The event at a node of another strand stays.
pub event_stays : (old new : List SkeletonStrand) (n : Node) (e : Event Term) → ((x : SkeletonStrand) → item_at old n.strand ≡ Some x → item_at new n.strand ≡ Some x) → term_event_at old n ≡ Some e → term_event_at new n ≡ Some e
event_stays old new n e keeps at = by_strand (item_at old n.strand) refl
  where
    by_strand : (o : Option SkeletonStrand) → item_at old n.strand ≡ o → term_event_at new n ≡ Some e
    by_strand None none = let fails : item_at (skeleton_trace_or_none None) n.index ≡ Some e = ap (λ (p : Option SkeletonStrand). item_at (skeleton_trace_or_none p) n.index) (sym none) ∙ at in absurd (cc)
    by_strand (Some x) is =
        ap (λ (p : Option SkeletonStrand). item_at (skeleton_trace_or_none p) n.index) (keeps x is ∙ sym is) ∙ at

-- ---- displaced

module _ (q : GuardedTest) (s : ℕ) (role : Role) (height j : ℕ) (terms : List Binding) (t : Term) (on : item_at q.skeleton.strands s ≡ Some (instance role height terms)) (sent : item_at role.trace j ≡ Some (send t)) where
  module _ (grown : Skeleton) (grows : HasGrown s role height j q.skeleton grown) where
    abbrev sends_there : Sends grown (node_at s j) t
    sends_there = grown_sends q.skeleton s role height j terms t on sent grown grows

    keeps_others : (n : ℕ) → s ≢ n → (x : SkeletonStrand) → item_at q.skeleton.strands n ≡ Some x → item_at grown.strands n ≡ Some x
    keeps_others n other x at = elim grows.how [
      | inl h ↦ ap (λ (k : Skeleton). item_at k.strands n) h.1 ∙ at
      | inr h ↦ let e : Extends s (suc j) (fresh_terms (length q.skeleton.variables) (added_variables role height (suc j))) q.skeleton grown = h.2 in e.others n (λ same. other (sym same)) ∙ at
    ]

    pub grown_pair : s ≢ q.node.strand → IsTest q.skeleton q.node q.critical → IsOrderPair grown (record { earlier = node_at s j; later = q.node })
    grown_pair other test = record {
      sent = apply_to (as_substitution sends_there.terms) t;
      received = test.message;
      transmission = sends_there.there;
      reception = event_stays q.skeleton.strands grown.strands q.node (recv test.message) (keeps_others q.node.strand other) test.reception;
      between_strands = other;
    }

    pub displaced_each : (Before q.skeleton (node_at s j) q.node → ⊥) → (cs : List Child) → ReleasesEach q (by_displacement (node_at s j)) (node_at s j) grown cs → DisplacesEvent q s role height j cs
    displaced_each not_before cs r =
        is_displaced sent not_before grows sends_there.there (r (apply_to (as_substitution sends_there.terms) t) sends_there.there)

  -- An event that the strand has.
  pub has_event : j < height → IsNodeOf q.skeleton.strands (node_at s j)
  has_event lt = (send (apply_to (as_substitution terms) t), event_of_higher q.skeleton.strands s j role height terms (send t) on lt sent)

  -- After the node it releases nothing.
  pub displaced_after : (Before q.skeleton (node_at s j) q.node → ⊥) → (j < height) × Before q.skeleton q.node (node_at s j) → DisplacesEvent q s role height j []
  displaced_after not_before after =
      displaced_each q.skeleton (record { how = inl (after.0, refl) }) not_before [] (nothing_released q (by_displacement (node_at s j)) (node_at s j) q.skeleton after.1)

-- ---- added

module _ (q : GuardedTest) (role : Role) (j : ℕ) (t : Term) (sent : item_at role.trace j ≡ Some (send t)) (grown : Skeleton)
    (adds : AddsStrand role (suc j) (fresh_terms (length q.skeleton.variables) (prefix_variables role (suc j))) q.skeleton grown) where
  abbrev place : Node
  place = node_at (length q.skeleton.strands) j

  pub added_sends : Sends grown place t
  added_sends = record {
    terms = adds.terms;
    there = event_of_higher grown.strands (length q.skeleton.strands) j role (suc j) adds.terms (send t)
        (ap (λ (ss : List SkeletonStrand). item_at ss (length q.skeleton.strands)) adds.strands ∙ item_last q.skeleton.strands (instance role (suc j) adds.terms)) (omega arith) sent;
  }

  keeps : (n : ℕ) (x : SkeletonStrand) → item_at q.skeleton.strands n ≡ Some x → item_at grown.strands n ≡ Some x
  keeps n x at = ap (λ (ss : List SkeletonStrand). item_at ss n) adds.strands ∙ item_still q.skeleton.strands (instance role (suc j) adds.terms ∷ []) n x at

  pub added_pair : length q.skeleton.strands ≢ q.node.strand → IsTest q.skeleton q.node q.critical → IsOrderPair grown (record { earlier = place; later = q.node })
  added_pair other test = record {
    sent = apply_to (as_substitution added_sends.terms) t;
    received = test.message;
    transmission = added_sends.there;
    reception = event_stays q.skeleton.strands grown.strands q.node (recv test.message) (keeps q.node.strand) test.reception;
    between_strands = other;
  }

  abbrev At : List Step → List Child → Type 0
  At = ReleasesAt q (by_added_strand (length q.skeleton.strands)) place grown

  abbrev message_there : Term
  message_there = apply_to (as_substitution added_sends.terms) t

  module _ (same : grown.variables ≡ q.skeleton.variables ++ declarations_among role (prefix_variables role (suc j))) (cs : List Child) where
    adds_at : (path : List Step) (ds : List Child) → At path ds → AddsAt q role j path ds
    adds_at path ds h = record { grown = grown; adds = adds; variables = same; releases = h }

    pub added_each : ReleasesEach q (by_added_strand (length q.skeleton.strands)) place grown cs → AddsEvent q role j cs
    added_each r =
        is_added sent (each_other At (AddsAt q role j) adds_at (positions t) cs
        (subst (λ ps. EachGives At ps cs) (positions_under (as_substitution added_sends.terms) t) (r message_there added_sends.there)))

    pub added_first : StartsReleasing q (by_added_strand (length q.skeleton.strands)) place grown cs → StartsEvent q role j cs
    added_first r = record {
      message = t;
      sent = sent;
      start = starts_other At (AddsAt q role j) adds_at (subst (λ ps. StartsGiving At At ps cs) (positions_under (as_substitution added_sends.terms) t) (r message_there added_sends.there));
    }

-- There is no node beyond the strands.
pub strand_there : (strands : List SkeletonStrand) (n : Node) (e : Event Term) → term_event_at strands n ≡ Some e → n.strand < length strands
strand_there strands n e at = by_strand (item_at strands n.strand) refl
  where
    by_strand : (o : Option SkeletonStrand) → item_at strands n.strand ≡ o → n.strand < length strands
    by_strand None none = let fails : item_at (skeleton_trace_or_none None) n.index ≡ Some e = ap (λ (p : Option SkeletonStrand). item_at (skeleton_trace_or_none p) n.index) (sym none) ∙ at in absurd (cc)
    by_strand (Some x) is = item_below strands n.strand x is

-- ---- events of roles

-- A strand of the program that is no instance is a listener.
pub listens : (s : StrandShape) (d : SkeletonStrand) → strand_of_shape s ≡ d → ((i : Bor InstanceData) → s ≡ Instance i → ⊥) → (t : Term) × (d ≡ listener t)
listens (Instance i) d is other = absurd (other i refl)
listens (Listener t) d is other = (t.now, (sym is))

-- The events of a role of the program are those of its trace.
module _ (es trace : List (Event Term)) (same : es ≡ trace) (i : ℕ) (reached : i < length trace) where
  pub is_within : i < length es
  is_within = let as_long : length es ≡ length trace = ap length same in omega (arith, as_long, reached)

  pub event_there : (e read : Event Term) → read ≡ get_or es i read → read ≡ e → item_at trace i ≡ Some e
  event_there e read is same_event = ap (λ (xs : List (Event Term)). item_at xs i) (sym same) ∙ item_of_read es i read is_within is ∙ ap (λ (x : Event Term). Some x) same_event

module _ (q : GuardedTest) (role : Role) (j : ℕ) (t : Term) (sent : item_at role.trace j ≡ Some (send t)) (grown : Skeleton)
    (adds : AddsStrand role (suc j) (fresh_terms (length q.skeleton.variables) (prefix_variables role (suc j))) q.skeleton grown) (n : ℕ) (number : n ≡ length q.skeleton.strands) where
  pub added_pair_at : IsTest q.skeleton q.node q.critical → IsOrderPair grown (record { earlier = record { strand = n; index = j }; later = q.node })
  added_pair_at test =
      let below : q.node.strand < length q.skeleton.strands = strand_there q.skeleton.strands q.node (recv test.message) test.reception in
      subst (λ (m : ℕ). IsOrderPair grown (record { earlier = record { strand = m; index = j }; later = q.node })) (sym number)
      (added_pair q role j t sent grown adds (λ e. absurd (omega (arith, below, e))) test)

  module _ (same : grown.variables ≡ q.skeleton.variables ++ declarations_among role (prefix_variables role (suc j))) (cs : List Child) where
    pub added_at : ReleasesEach q (by_added_strand n) (record { strand = n; index = j }) grown cs → AddsEvent q role j cs
    added_at r = added_each q role j t sent grown adds same cs (subst (λ (m : ℕ). ReleasesEach q (by_added_strand m) (record { strand = m; index = j }) grown cs) number r)

    pub first_added_at : StartsReleasing q (by_added_strand n) (record { strand = n; index = j }) grown cs → StartsEvent q role j cs
    first_added_at r = added_first q role j t sent grown adds same cs (subst (λ (m : ℕ). StartsReleasing q (by_added_strand m) (record { strand = m; index = j }) grown cs) number r)

-- What is left without a pair of an order.
use Rattle.std.proofs.Common.{if◌then◌else◌, ◌≡◌, ◌≢◌, ◌↔◌, ◌⊎◌, inl, inr, suc, ◌<◌, ◌≤◌, List, [], ◌∷◌, Bool, true, false, length, refl, sym, ap, ◌∙◌, subst, arith}
use Rattle.std.specs.Prelude.{not, Some}
use Rattle.std.specs.List.{filter}
use Rattle.std.proofs.lemmas.Bool.{and_from, and_parts, false_from_ne_true, cases_eq}
use Rattle.cp_lists.specs.Lists.{IsIn, here, there, one_step, more_steps}
use Rattle.cp_lists.proofs.Members.{into_filter, from_filter}
use Rattle.cp_lists.proofs.Reached.{steps_append}
use Rattle.cp_model.specs.Term.{Term}
use Rattle.cp_model.specs.declared.strand.Event.TheVariants.{Send as send, Receive as recv}
use Rattle.cp_model.specs.Same.{same_node}
use Rattle.cp_model.specs.declared.node.Node.{Node}
use Rattle.cp_model.specs.declared.node.OrderPair.{OrderPair}
use Rattle.cp_model.specs.Order.{ReachesAlong}
use Rattle.cp_model.specs.OrderTests.{any_pair}
use Rattle.cp_model.specs.Skeleton.{term_event_at, Skeleton, OrderStep, along_strand_of, along_pair, Before, IsOrderPair}
use Rattle.cp_model.specs.Derivable.{DerivableAt}
use Rattle.cp_model.proofs.SameTests.{node_is, is_node}
use Rattle.cp_model.proofs.CarriedParts.{not_both}
use Rattle.cp_model.proofs.LawOrder.{before_leads, leads_before, before_wider}
use Rattle.cp_model.proofs.BoundedSearch.{some_in, in_some}
use Rattle.cp_skel.specs.Ordered.{IsOrdered, ordered_by}
use Rattle.cp_skel.specs.Sound.{IsSound}
use Rattle.cp_skel.proofs.CarriedHomomorphisms.{reordered_stays_skeleton}
use Rattle.cp_skel.proofs.SoundSkeletons.{sound_ordered}
use Rattle.cp_collapse.proofs.ItemsWithProperty.{not_is, is_not}
use Rattle.cp_normal.specs.Findings.{IsAddedPair}
use Rattle.cp_normal.specs.OwnPairs.{AllLead}
use Rattle.cp_normal.proofs.NormalSkeletons.{closes_none}
use Rattle.cp_general.specs.Fit.{IsFit}
use Rattle.cp_general.specs.Steps.{IsPairOfOrder, IsCoveringPair, IsLowerPair, Weakens}
use Rattle.cp_general.specs.ListedPairs.{AreRisingPairs, ListsOrder, is_same_pair, is_other_pair}
use Rattle.cp_general.specs.ProgramSteps.{NeverDrops, MayDrop, LeavesFitOrder}
use Rattle.cp_general.proofs.Alike.{assume_the_same, derivable, normal, was_added, fit_alike}
use Rattle.cp_general.proofs.Deleted.{deletes_none_still}
use Rattle.cp_general.specs.CoveringPairs.{is_covered}
use Rattle.cp_general.proofs.Covered.{covered_between, between_covered}
use Rattle.cp_general.proofs.Ways.{along, rises, ends}

-- ---- the test of pairs

pub same_pair_is : (p q : OrderPair) → is_same_pair p q ≡ true → p ≡ q
same_pair_is p q e =
    let h = and_parts (same_node p.earlier q.earlier) (same_node p.later q.later) e in
    let first = node_is p.earlier q.earlier h.0 in
    let last = node_is p.later q.later h.1 in
    λ i. record { earlier = first i; later = last i }

pub same_pair_itself : (p : OrderPair) → is_same_pair p p ≡ true
same_pair_itself p = and_from (same_node p.earlier p.earlier) (same_node p.later p.later) (is_node p.earlier p.earlier refl) (is_node p.later p.later refl)

not_is_true : false ≡ true → ⊥
not_is_true e = cc

other_pair : (p q : OrderPair) → q ≢ p → is_other_pair p q ≡ true
other_pair p q h = not_is {b = is_same_pair p q} (λ e. h (sym (same_pair_is p q e)))

pair_other : (p q : OrderPair) → is_other_pair p q ≡ true → q ≢ p
pair_other p q h e = is_not {b = is_same_pair p q} h (subst (λ r. is_same_pair p r ≡ true) (sym e) (same_pair_itself p))

pub among : (p : OrderPair) (ps : List OrderPair) → (any_pair (is_same_pair p) ps ≡ true) ↔ IsIn p ps
among p ps = (
  λ e. let r = some_in (is_same_pair p) ps e in subst (λ q. IsIn q ps) (sym (same_pair_is p r.0 r.2)) r.1,
  λ m. in_some (is_same_pair p) ps p m (same_pair_itself p),
)

-- ---- a list without some pairs

filter_no_longer : (f : OrderPair → Bool) (ps : List OrderPair) → length (filter f ps) ≤ length ps
filter_no_longer f [] = omega arith
filter_no_longer f (p ∷ ps) = of (f p) (filter_no_longer f ps)
  where
    of : (b : Bool) → length (filter f ps) ≤ length ps → length (if b then p ∷ filter f ps else filter f ps) ≤ suc (length ps)
    of true l = omega (arith, l)
    of false l = omega (arith, l)

filter_shorter : (f : OrderPair → Bool) (p : OrderPair) (ps : List OrderPair) → IsIn p ps → f p ≡ false → length (filter f ps) < length ps
filter_shorter f p [] m e = elim m [ ]
filter_shorter f p (q ∷ ps) here e = of (f p) e (filter_no_longer f ps)
  where
    of : (b : Bool) → b ≡ false → length (filter f ps) ≤ length ps → length (if b then p ∷ filter f ps else filter f ps) < suc (length ps)
    of true h l = absurd (cc)
    of false h l = omega (arith, l)
filter_shorter f p (q ∷ ps) (there m) e = of (f q) (filter_shorter f p ps m e)
  where
    of : (b : Bool) → length (filter f ps) < length ps → length (if b then q ∷ filter f ps else filter f ps) < suc (length ps)
    of true l = omega (arith, l)
    of false l = omega (arith, l)

filter_rises : (f : OrderPair → Bool) (ps : List OrderPair) → AreRisingPairs ps → AreRisingPairs (filter f ps)
filter_rises f [] r = tt
filter_rises f (p ∷ ps) r = of (f p) (λ q m. r.0 q (from_filter f ps m).0) (filter_rises f ps r.1)
  where
    of : (b : Bool) → ((q : OrderPair) → IsIn q (filter f ps) → IsLowerPair p q) → AreRisingPairs (filter f ps) → AreRisingPairs (if b then p ∷ filter f ps else filter f ps)
    of true h s = (h, s)
    of false h s = s

-- ---- nodes

same_node_or_not : (x y : Node) → (x ≡ y) ⊎ (x ≢ y)
same_node_or_not x y = of (cases_eq x.strand y.strand) (cases_eq x.index y.index)
  where
    of : (x.strand ≡ y.strand) ⊎ (x.strand ≢ y.strand) → (x.index ≡ y.index) ⊎ (x.index ≢ y.index) → (x ≡ y) ⊎ (x ≢ y)
    of (inl s) (inl t) = inl (λ i. record { strand = s i; index = t i })
    of (inl s) (inr h) = inr (λ e. h (ap (λ (z : Node). z.index) e))
    of (inr h) t = inr (λ e. h (ap (λ (z : Node). z.strand) e))

pair_again : (k : Skeleton) (ps : List OrderPair) (q : OrderPair) → IsOrderPair k q → IsOrderPair (ordered_by k ps) q
pair_again k ps q o = record { sent = o.sent; received = o.received; transmission = o.transmission; reception = o.reception; between_strands = o.between_strands }

-- ---- other pairs that are in the order

module _ (k : Skeleton) (ps : List OrderPair) (each : (q : OrderPair) → IsIn q ps → Before k q.earlier q.later) where
  step_back : (x y : Node) → OrderStep (ordered_by k ps) x y → Before k x y
  step_back x y (along_strand_of e) = one_step (along_strand_of e)
  step_back x y (along_pair {p = q} m) = each q m

  pub way_back : (x y : Node) → Before (ordered_by k ps) x y → Before k x y
  way_back x y (one_step s) = step_back x y s
  way_back x z (more_steps {y = y} s r) = steps_append (step_back x y s) (way_back y z r)

-- ---- without a covering pair its first node is not before the second

module _ (k : Skeleton) (ps : List OrderPair) (p : OrderPair) (covering : IsCoveringPair k p) (was : (q : OrderPair) → IsIn q ps → Before k q.earlier q.later × (q ≢ p)) where
  in_order : (x y : Node) → Before (ordered_by k ps) x y → Before k x y
  in_order = way_back k ps (λ q m. (was q m).0)

  pub not_before : (x y : Node) → x ≡ p.earlier → y ≡ p.later → Before (ordered_by k ps) x y → ⊥
  not_before x y e f (one_step (along_strand_of w)) = covering.of_order.pair.between_strands (ap (λ (z : Node). z.strand) (sym e) ∙ ap (λ (z : Node). z.strand) f)
  not_before x y e f (one_step (along_pair {p = q} m)) = (was q m).1 (λ i. record { earlier = e i; later = f i })
  not_before x y e f (more_steps {y = z} s r) = covering.none_between z (subst (λ (n : Node). Before k n z) e (in_order x z (one_step s))) (subst (λ (n : Node). Before k z n) f (in_order z y r))

-- ---- without a pair that may be dropped

module _ (k : Skeleton) (sound : IsSound k) (lists : ListsOrder k k.pairs) (p : OrderPair) (may : MayDrop p k) where
  ordered : IsOrdered k
  ordered = sound_ordered k sound

  abbrev pub kept : List OrderPair
  kept = filter (is_other_pair p) k.pairs

  abbrev pub less : Skeleton
  less = ordered_by k kept

  abbrev pub Keeps : Type 0
  Keeps = AllLead kept k.from_problem.pairs

  was : (q : OrderPair) → IsIn q kept → IsIn q k.pairs × (q ≢ p)
  was q m = let r = from_filter (is_other_pair p) k.pairs m in (r.0, pair_other p q r.1)

  still : (q : OrderPair) → IsIn q k.pairs → q ≢ p → IsIn q kept
  still q m h = into_filter (is_other_pair p) k.pairs m (other_pair p q h)

  back : (x y : Node) → Before less x y → Before k x y
  back x y b = before_wider less k refl (λ q m. (was q m).0) b

  less_ordered : IsOrdered less
  less_ordered = record {
    order_pairs = λ q m. pair_again k kept q (ordered.order_pairs q (was q m).0);
    no_cycle = λ n b. ordered.no_cycle n (back n n b);
  }

  -- from a transmission to a reception the order stays, but for the pair
  sent_still : (m n : Node) (s t : Term) → term_event_at k.strands m ≡ Some (send s) → term_event_at k.strands n ≡ Some (recv t) → record { earlier = m; later = n } ≢ p → Before k m n → Before less m n
  sent_still m n s t e f h b = of (cases_eq m.strand n.strand)
    where
      of : (m.strand ≡ n.strand) ⊎ (m.strand ≢ n.strand) → Before less m n
      of (inl same) = along less less_ordered m n same (rises k ordered m n same b) (recv t, f)
      of (inr apart) =
          let q : OrderPair = record { earlier = m; later = n } in
          let of_order : IsPairOfOrder k q = record { pair = record { sent = s; received = t; transmission = e; reception = f; between_strands = apart }; ordered = b } in
          one_step (along_pair (still q ((lists.each q).1 of_order) h))

  less_each : (q : OrderPair) → IsIn q kept ↔ IsPairOfOrder less q
  less_each q = (
    λ m. record { pair = less_ordered.order_pairs q m; ordered = one_step (along_pair m) },
    λ h.
        let o = h.pair in
        still q ((lists.each q).1 (record { pair = record { sent = o.sent; received = o.received; transmission = o.transmission; reception = o.reception; between_strands = o.between_strands }; ordered = back q.earlier q.later h.ordered }))
        (λ e. not_before k kept p may.covering (λ r n. let w = was r n in (one_step (along_pair w.0), w.1)) q.earlier q.later (ap (λ (r : OrderPair). r.earlier) e) (ap (λ (r : OrderPair). r.later) e) h.ordered),
  )

  less_lists : ListsOrder less kept
  less_lists = record { each = less_each; rising = filter_rises (is_other_pair p) k.pairs lists.rising }

  fewer : length kept < length k.pairs
  fewer = filter_shorter (is_other_pair p) p k.pairs ((lists.each p).1 may.covering.of_order) (false_from_ne_true (is_other_pair p p) (λ e. pair_other p p e refl))

  -- ---- what the problem states

  still_before : Keeps → (q : OrderPair) → IsIn q k.from_problem.pairs → Before less q.earlier q.later
  still_before keeps q m = of (leads_before less less_ordered.order_pairs q.earlier q.later (ends k ordered q.earlier q.later (sound.ordered q m)) (keeps q m))
    where
      of : (q.earlier ≡ q.later) ⊎ Before less q.earlier q.later → Before less q.earlier q.later
      of (inl e) = absurd (ordered.no_cycle q.earlier (subst (λ (z : Node). Before k q.earlier z) (sym e) (sound.ordered q m)))
      of (inr b) = b

  pub less_sound : Keeps → IsSound less
  less_sound keeps = record {
    protocol = sound.protocol;
    declared = sound.declared;
    skeleton = reordered_stays_skeleton sound.protocol k less sound.skeleton (record { strands = refl; assumptions = refl; from_problem = refl }) less_ordered;
    in_range = sound.in_range;
    assumed = record { non = sound.assumed.non; penetrator_non = sound.assumed.penetrator_non; unique = sound.assumed.unique };
    ordered = still_before keeps;
  }

  less_drops : Keeps → Weakens p k less
  less_drops keeps = record {
    covering = may.covering;
    not_own = may.not_own;
    not_added = may.not_added;
    same = refl;
    pairs = λ q. (λ m. let w = was q m in ((lists.each q).0 w.0, w.1), λ h. still q ((lists.each q).1 h.0) h.1);
    stated = still_before keeps;
  }

  -- ---- what is fit

  abbrev pub received : Term
  received = may.covering.of_order.pair.received

  added_of_order : (q : OrderPair) → IsAddedPair k q → Before k q.earlier q.later → IsPairOfOrder k q
  added_of_order q a b =
      let o = sound.skeleton.origins a.0.entry a.0.listed in
      record {
        pair = record {
          sent = o.sent;
          received = a.0.received;
          transmission = subst (λ (z : Node). term_event_at k.strands z ≡ Some (send o.sent)) (sym a.0.from_origin) o.transmission;
          reception = a.0.reception;
          between_strands = a.1;
        };
        ordered = b;
      }

  added_still : IsFit k → (q : OrderPair) → IsAddedPair less q → Before less q.earlier q.later
  added_still f q h =
      let a : IsAddedPair k q = was_added k k.variables kept k.assumptions k.from_problem (assume_the_same k.assumptions) q h in
      one_step (along_pair (still q ((lists.each q).1 (added_of_order q a (f.normal.ordered q a))) (λ e. may.not_added (subst (IsAddedPair k) e a))))

  realised_still : IsFit k → DerivableAt less p.later received → (n : Node) (t : Term) → term_event_at k.strands n ≡ Some (recv t) → DerivableAt less n t
  realised_still f d n t e = of (same_node_or_not n p.later)
    where
      of : (n ≡ p.later) ⊎ (n ≢ p.later) → DerivableAt less n t
      of (inl s) =
          let at : term_event_at k.strands n ≡ Some (recv received) = subst (λ (z : Node). term_event_at k.strands z ≡ Some (recv received)) (sym s) may.covering.of_order.pair.reception in
          let same : received ≡ t = cc in
          subst (λ (z : Node). DerivableAt less z t) (sym s) (subst (DerivableAt less p.later) same d)
      of (inr h) =
          derivable k k.variables kept k.assumptions k.from_problem (assume_the_same k.assumptions) n
          (λ m s sent b. sent_still m n s t sent e (λ q. h (ap (λ (r : OrderPair). r.later) q)) b) t (f.realised n t e)

  less_fit : IsFit k → DerivableAt less p.later received → IsFit less
  less_fit f d = record {
    normal =
        normal k k.variables kept k.assumptions k.from_problem (assume_the_same k.assumptions) f.normal (closes_none less (added_still f) less_ordered.no_cycle) (added_still f);
    realised = realised_still f d;
  }

  pub leaves_fit : IsFit k → Keeps → DerivableAt less p.later received → LeavesFitOrder p k less
  leaves_fit f keeps d = record { drops = less_drops keeps; fit = less_fit f d; lists = less_lists; fewer = fewer; none = deletes_none_still k kept ordered back }

  -- ---- what is not

  module _ (hs : List OrderPair) (drops : Weakens p k (ordered_by k hs)) where
    within : (x y : Node) → Before (ordered_by k hs) x y → Before less x y
    within x y b = before_wider (ordered_by k hs) less refl (λ q m. let r = (drops.pairs q).0 m in still q ((lists.each q).1 r.0) r.1) b

    must_keep : Keeps
    must_keep q m = before_leads less q.earlier q.later (within q.earlier q.later (drops.stated q m))

    must_derive : IsFit (ordered_by k hs) → DerivableAt less p.later received
    must_derive f =
        derivable (ordered_by k hs) k.variables kept k.assumptions k.from_problem (assume_the_same k.assumptions) p.later (λ m s sent b. within m p.later b) received
        (f.realised p.later received may.covering.of_order.pair.reception)

  pub never_keeps : (Keeps → ⊥) → NeverDrops p k
  never_keeps fails h drops f = subst (λ z. Weakens p k z → ⊥) (sym drops.same) (λ d. fails (must_keep h.pairs d)) drops

  pub never_derives : (DerivableAt less p.later received → ⊥) → NeverDrops p k
  never_derives fails h drops f = subst (λ z. Weakens p k z → IsFit z → ⊥) (sym drops.same) (λ d g. fails (must_derive h.pairs d g)) drops f

  -- the same of a list that is the pairs that are kept, and of a skeleton that is what is left
  pub keeps_of : (order own : List OrderPair) → order ≡ kept → own ≡ k.from_problem.pairs → AllLead order own → Keeps
  keeps_of order own o w all q m = subst (λ (ps : List OrderPair). ReachesAlong ps q.earlier q.later) o (all q (subst (IsIn q) (sym w) m))

  pub of_keeps : (order own : List OrderPair) → order ≡ kept → own ≡ k.from_problem.pairs → Keeps → AllLead order own
  of_keeps order own o w keeps q m = subst (λ (ps : List OrderPair). ReachesAlong ps q.earlier q.later) (sym o) (keeps q (subst (IsIn q) w m))

  pub sound_of : (order : List OrderPair) → order ≡ kept → Keeps → IsSound (ordered_by k order)
  sound_of order o keeps = subst (λ ps. IsSound (ordered_by k ps)) (sym o) (less_sound keeps)

  pub leaves_of : (h : Skeleton) → h ≡ less → IsFit k → Keeps → DerivableAt h p.later received → LeavesFitOrder p k h
  leaves_of h same f keeps d = subst (LeavesFitOrder p k) (sym same) (leaves_fit f keeps (subst (λ z. DerivableAt z p.later received) same d))

  pub never_of : (h : Skeleton) → h ≡ less → (DerivableAt h p.later received → ⊥) → NeverDrops p k
  never_of h same fails = never_derives (λ d. fails (subst (λ z. DerivableAt z p.later received) (sym same) d))

-- ---- nothing is fit without a pair of one that is not

pub fit_before : (k : Skeleton) (p : OrderPair) (h : Skeleton) → ((n : Node) → Before k n n → ⊥) → Weakens p k h → IsFit h → IsFit k
fit_before k p h no_cycle drops f =
    subst (λ z. Weakens p k z → IsFit z → IsFit k) (sym drops.same)
    (λ d g. fit_alike (ordered_by k h.pairs) k refl refl (way_back k h.pairs (λ q m. ((d.pairs q).0 m).0.ordered)) no_cycle g) drops f

-- ---- which pairs may be dropped

pub may_not_own : (p : OrderPair) (k : Skeleton) (own : List OrderPair) (b : Bool) → own ≡ k.from_problem.pairs → b ≡ any_pair (is_same_pair p) own → b ≡ true → (false ≡ true) ↔ MayDrop p k
may_not_own p k own b same e t = (λ f. absurd (not_is_true f), λ m. absurd (m.not_own (subst (IsIn p) same ((among p own).0 (sym e ∙ t)))))

pub may_not_added : (p : OrderPair) (k : Skeleton) (added : List OrderPair) (b : Bool) → ((q : OrderPair) → IsIn q added ↔ IsAddedPair k q) → b ≡ any_pair (is_same_pair p) added → b ≡ true → (false ≡ true) ↔ MayDrop p k
may_not_added p k added b are e t = (λ f. absurd (not_is_true f), λ m. absurd (m.not_added ((are p).0 ((among p added).0 (sym e ∙ t)))))

module _ (p : OrderPair) (k : Skeleton) (ordered : IsOrdered k) (lists : ListsOrder k k.pairs) (listed : IsIn p k.pairs) where
  uncovered : (covered : Bool) → covered ≡ is_covered k.pairs p → not covered ≡ true → (n : Node) → Before k p.earlier n → Before k n p.later → ⊥
  uncovered covered e t n a b = is_not {b = covered} t (e ∙ between_covered k ordered k.pairs lists.each p listed n a b)

  covers : (covered : Bool) → covered ≡ is_covered k.pairs p → IsCoveringPair k p → not covered ≡ true
  covers covered e c = not_is {b = covered} (λ t. let r = covered_between k ordered k.pairs lists.each p listed (sym e ∙ t) in c.none_between r.node r.after_first r.before_last)

  pub may_if : (own added pairs : List OrderPair) (a b covered : Bool) → own ≡ k.from_problem.pairs → a ≡ any_pair (is_same_pair p) own → a ≡ false → ((q : OrderPair) → IsIn q added ↔ IsAddedPair k q)
      → b ≡ any_pair (is_same_pair p) added → b ≡ false → pairs ≡ k.pairs → covered ≡ is_covered pairs p → (not covered ≡ true) ↔ MayDrop p k
  may_if own added pairs a b covered same ea fa are eb fb ps ec =
      let found : covered ≡ is_covered k.pairs p = ec ∙ ap (λ (qs : List OrderPair). is_covered qs p) ps in (
        λ t. record {
          covering = record { of_order = (lists.each p).0 listed; none_between = uncovered covered found t };
          not_own = λ m. not_both fa (ea ∙ (among p own).1 (subst (IsIn p) (sym same) m));
          not_added = λ m. not_both fb (eb ∙ (among p added).1 ((are p).1 m));
        },
        λ m. covers covered found m.covering,
      )

pub never_may : (p : OrderPair) (k : Skeleton) (b : Bool) → (b ≡ true) ↔ MayDrop p k → b ≡ false → NeverDrops p k
never_may p k b h f x d fit = not_both f (h.1 (record { covering = d.covering; not_own = d.not_own; not_added = d.not_added }))

pub own_never : (p : OrderPair) (k : Skeleton) (own : List OrderPair) (b : Bool) → own ≡ k.from_problem.pairs → b ≡ any_pair (is_same_pair p) own → b ≡ true → NeverDrops p k
own_never p k own b same e t h d fit = d.not_own (subst (IsIn p) same ((among p own).0 (sym e ∙ t)))

pub added_never : (p : OrderPair) (k : Skeleton) (added : List OrderPair) (b : Bool) → ((q : OrderPair) → IsIn q added ↔ IsAddedPair k q) → b ≡ any_pair (is_same_pair p) added → b ≡ true → NeverDrops p k
added_never p k added b are e t h d fit = d.not_added ((are p).0 ((among p added).0 (sym e ∙ t)))

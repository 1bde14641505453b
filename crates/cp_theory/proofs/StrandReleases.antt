-- Where a regular strand releases the critical term, some skeleton of the list stands apart: it is contracted, or the strand is
-- an image, whose event is before n or displaced, or it is added.
use Rattle.std.proofs.Common.{◌≡◌, ℕ, ◌<◌, List, Some, Bool, refl, sym, ap, ◌∙◌, subst, ◌⊎◌, inl, inr, subst₂, suc, ◌≤◌, length, Option, None, ⊎_elim, arith, eq-or-lt_of_le}
use Rattle.cp_lists.specs.Lists.{item_at}
use Rattle.cp_lists.proofs.Items.{take_of_item, item_below, item_before}
use Rattle.cp_lists.proofs.Mapped.{map_same}
use Rattle.cp_model.specs.Message.{Key, Message}
use Rattle.cp_model.specs.Term.{Term, Assignment, value_of, after, apply_to, AgreeOnTerms}
use Rattle.cp_model.specs.Bindings.{Binding, as_substitution}
use Rattle.cp_model.specs.Identity.{unchanged}
use Rattle.cp_model.specs.Strand.{event_map, Role, Protocol, prefix_of, variables_of_prefix}
use Rattle.cp_model.specs.declared.strand.Event.{Event}
use Rattle.cp_model.specs.declared.strand.Event.TheVariants.{Send as send}
use Rattle.cp_model.specs.Bundle.{node_at, event_at, Bundle, Precedes, IsBundle}
use Rattle.cp_model.specs.declared.node.Node.{Node}
use Rattle.cp_model.specs.Skeleton.{instance, term_event_at, FromProblem, Skeleton, Before, IsSkeleton, SkeletonStrand, listener, skeleton_trace_or_none}
use Rattle.cp_model.specs.Standing.{Standing, image_of, StandsIn, StandsApart, StandsOnRegular}
use Rattle.cp_model.specs.Derivable.{IsOnInstance}
use Rattle.cp_model.specs.Tree.{Pattern}
use Rattle.cp_model.proofs.LawTerms.{value_after, term_unchanged}
use Rattle.cp_model.proofs.LawAgreement.{agree_value}
use Rattle.cp_model.proofs.LawPrefixes.{in_trace}
use Rattle.cp_model.proofs.LawStandings.{event_of_higher, bundle_climb, skeleton_climb, event_on}
use Rattle.cp_model.specs.declared.step.Step.{Step}
use Rattle.cp_model.specs.Positions.{term_at}
use Rattle.cp_theory.specs.AuthenticationTest.{IsOutside, IsReleased}
use Rattle.cp_theory.specs.Normal.{skeleton_under}
use Rattle.cp_theory.proofs.Images.{image_event, image_at}
use Rattle.cp_theory.specs.Inside.{IsInside, TellsProtected}
use Rattle.cp_theory.specs.Guards.{Guards}
use Rattle.cp_theory.proofs.Positions.{IsOpenAt, OpenPosition, open_position, inside_by_values, brought_inside_not_open}
use Rattle.cp_theory.specs.Covering.{put_before, CoversRelease, IsContracted, trial_at, IsCovering, IsDisplaced}
use Rattle.cp_theory.specs.NoneLeftOut.{GoesOn}
use Rattle.cp_theory.proofs.GrownStandings.{strand_stands, HasGrown, HasGrownAt, grown_stands, grown_acyclic}
use Rattle.cp_theory.proofs.Reached.{Reached, reached_under, goes_down}
use Rattle.cp_theory.proofs.Trials.{AreUsed, IsReleasing, tried_goes_on}
use Rattle.cp_theory.proofs.Places.{term_at_under, position_variables, sent_of, role_sends, node_before}
use native.Mathlib.Decide.{ℕ_discrete}
use Rattle.std.proofs.lemmas.Bool.{cases_lt}
use Rattle.cp_lists.proofs.Least.{NoneBelow, least_or_none}
use Rattle.cp_lists.proofs.Reached.{steps_append}
use Rattle.cp_model.proofs.LawOrigins.{never_before_itself}
use Rattle.cp_model.proofs.StrandParts.{same_instance}
use Rattle.cp_model.specs.PrefixVariables.{added_variables, terms_of}
use Rattle.cp_model.specs.GivenAssumptions.{AddsGiven}
use Rattle.cp_model.specs.Extensions.{Extends}
use Rattle.cp_theory.specs.Fresh.{fresh_terms}
use Rattle.cp_theory.proofs.Raised.{raised_at}
use Rattle.cp_theory.proofs.Grown.{added_at}

-- A skeleton is reached from itself, and so is one that has grown out of it.
pub reached_itself : (k : Skeleton) (b : Bundle) (h : Standing) → StandsIn k b h → StandsApart k h → Reached k b h unchanged k h
reached_itself k b h stands apart = record {
  stands = stands;
  apart = apart;
  nodes = λ a st at. refl;
  values = λ x i. refl;
  problem_strands = refl;
  problem_values = sym (map_same (apply_to unchanged) term_unchanged k.from_problem.values);
}

pub reached_grown : (protocol : Protocol) (k e : Skeleton) (b : Bundle) (h g : Standing) (m n : Node) → IsSkeleton protocol k → StandsIn k b h → (has : HasGrown k e b h g) → Precedes b (image_of e g m) (image_of e g n) →
    Reached k b h unchanged (put_before m n e) g
reached_grown protocol k e b h g m n sk stands has precedes = record {
  stands = grown_stands protocol k e b h g m n sk stands has precedes;
  apart = has.apart;
  nodes = has.nodes;
  values = has.values;
  problem_strands = ap (λ (f : FromProblem). f.strands) has.from_problem;
  problem_values = ap (λ (f : FromProblem). f.values) has.from_problem ∙ sym (map_same (apply_to unchanged) term_unchanged k.from_problem.values);
}

pub grown_itself : (k : Skeleton) (b : Bundle) (h : Standing) → StandsIn k b h → StandsApart k h → HasGrown k k b h h
grown_itself k b h stands apart = record {
  values = λ x i. refl;
  nodes = λ a st at. refl;
  strands = strand_stands k b h stands;
  images = λ y there. refl;
  pairs = refl;
  non = λ v i. inl i;
  penetrator_non = λ v i. inl i;
  unique = λ u i. inl i;
  apart = apart;
  from_problem = refl;
}

-- Role strand a of the skeleton goes to this strand of the bundle.
record GoesThere (k : Skeleton) (h : Standing) (strand a : ℕ) : Type 0 where
  role : Role
  height : ℕ
  terms : List Binding
  at : item_at k.strands a ≡ Some (instance role height terms)
  to : (h.nodes a).strand ≡ strand

not_a_listener : (k : Skeleton) (h : Standing) (strand a : ℕ) (t : Term) → item_at k.strands a ≡ Some (listener t) → GoesThere k h strand a → ⊥
not_a_listener k h strand a t at g = let both : Some (listener t) ≡ Some (instance g.role g.height g.terms) = sym at ∙ g.at in cc

not_none : (k : Skeleton) (h : Standing) (strand a : ℕ) → item_at k.strands a ≡ None → GoesThere k h strand a → ⊥
not_none k h strand a at g = let both : None ≡ Some (instance g.role g.height g.terms) = sym at ∙ g.at in cc

dec_instance : (k : Skeleton) (h : Standing) (strand a : ℕ) (role : Role) (height : ℕ) (terms : List Binding) → item_at k.strands a ≡ Some (instance role height terms) → Dec ((h.nodes a).strand ≡ strand) → Dec (GoesThere k h strand a)
dec_instance k h strand a role height terms at (yes e) = yes (record { role = role; height = height; terms = terms; at = at; to = e })
dec_instance k h strand a role height terms at (no n) = no (λ g. n g.to)

dec_strand : (k : Skeleton) (h : Standing) (strand a : ℕ) (o : Option SkeletonStrand) → item_at k.strands a ≡ o → Dec (GoesThere k h strand a)
dec_strand k h strand a None at = no (not_none k h strand a at)
dec_strand k h strand a (Some (listener t)) at = no (not_a_listener k h strand a t at)
dec_strand k h strand a (Some (instance role height terms)) at = dec_instance k h strand a role height terms at (ℕ_discrete (h.nodes a).strand strand)

-- A test under patterns that guard it, covered by skeletons, where the skeleton stands apart in a bundle; and a test of what the
-- patterns protect there.
pub record Situation (protocol : Protocol) (k : Skeleton) (n : Node) (c : Term) (ps : List Pattern) (ks : List Skeleton) (b : Bundle) (h : Standing) (test : Message → Key → Bool) : Type 0 where
  pub bundle : IsBundle protocol b
  pub skeleton : IsSkeleton protocol k
  pub stands : StandsIn k b h
  pub apart : StandsApart k h
  pub received : Event Term
  pub reception : term_event_at k.strands n ≡ Some received
  pub guards : Guards ps k n c
  pub covering : IsCovering protocol k n c ps ks
  pub tells : TellsProtected ps h.values test

module _ (protocol : Protocol) (k : Skeleton) (n : Node) (c : Term) (ps : List Pattern) (ks : List Skeleton) (b : Bundle) (h : Standing) (test : Message → Key → Bool)
    (here : Situation protocol k n c ps ks b h test) (released : IsReleased b test (value_of h.values c) (image_of k h n)) where
  abbrev strand : ℕ
  strand = released.node.strand

  abbrev index : ℕ
  index = released.node.index

  abbrev critical : Message
  critical = value_of h.values c

  used : (s j : ℕ) (path : List Step) → AreUsed (trial_at protocol k ps c s j path)
  used s j path = record { by_patterns = here.guards.used_by_patterns; by_critical = here.guards.used_by_critical }

  -- ---- contracted

  contracted_at : (m : Node) (t : Term) → IsOnInstance k m → term_event_at k.strands m ≡ Some (send t) → Before k m n → (position : OpenPosition test h.values critical t) →
      IsInside ps unchanged t position.path ⊎ ((position.term ≡ c) ⊎ ((g : Assignment) → value_of g position.term ≡ value_of g c → IsContracted protocol ks k g)) → GoesOn ks k b h
  contracted_at m t on at before position (inl inside) = absurd (brought_inside_not_open ps h.values h.values test here.tells t position.path (inside_by_values ps unchanged h.values t position.path inside) position.unprotected)
  contracted_at m t on at before position (inr (inl same)) =
      let inside : IsInside ps unchanged t position.path = here.guards.inside m t on at before position.path (position.at ∙ ap Some same) in
      absurd (brought_inside_not_open ps h.values h.values test here.tells t position.path (inside_by_values ps unchanged h.values t position.path inside) position.unprotected)
  contracted_at m t on at before position (inr (inr made)) =
      let r = made h.values position.same in
      goes_down protocol ks k b h r.substitution (skeleton_under r.substitution k) (record { nodes = h.nodes; values = r.fits.values }) here.bundle
      (reached_under k b h unchanged k h r.substitution (reached_itself k b h here.stands here.apart) r.fits) r.down

  contracted_sent : (m : Node) (t : Term) → IsOnInstance k m → term_event_at k.strands m ≡ Some (send t) → Before k m n → IsOutside test critical (value_of h.values t) → GoesOn ks k b h
  contracted_sent m t on at before outside =
      let position = open_position test h.values critical t outside in
      contracted_at m t on at before position (here.covering.contracted m t position.term position.path on at before position.at)

  pub contracted : (a : ℕ) (on : IsOnInstance k (node_at a index)) (e : Event Term) → term_event_at k.strands (node_at a index) ≡ Some e → Before k (node_at a index) n → (h.nodes a).strand ≡ strand → GoesOn ks k b h
  contracted a on e at before to =
      let ev = image_event b h a on.role on.height on.terms index e (here.stands.instances a on.role on.height on.terms on.on_instance) (event_on k (node_at a index) (instance on.role on.height on.terms) e on.on_instance at) in
      let there : event_at b.strands (node_at strand index) ≡ Some (event_map (value_of h.values) e) = subst (λ (i : ℕ). event_at b.strands (node_at i index) ≡ Some (event_map (value_of h.values) e)) to ev in
      let both : Some (event_map (value_of h.values) e) ≡ Some (send released.sent) = sym there ∙ released.transmission in
      let same : event_map (value_of h.values) e ≡ send released.sent = cc in
      let s = sent_of (value_of h.values) e released.sent same in
      contracted_sent (node_at a index) s.0 on (at ∙ ap Some s.1) before (subst (IsOutside test critical) (sym s.2) released.outside)

  -- ---- released there

  releasing : (a : ℕ) (path : List Step) → IsOpenAt test released.sent path → IsReleasing (trial_at protocol k ps c a index path) b test critical strand
  releasing a path unprotected = record { event = send released.sent; there = released.transmission; unprotected = unprotected; first = released.first }

  -- A strand that has grown high enough, in a skeleton e that has grown out of k.
  pub put_goes_on : (a : ℕ) (e : Skeleton) (role : Role) (height : ℕ) (values : Assignment) → HasGrownAt k e b h a role height strand values → index < height → (t u : Term) (path : List Step) →
      item_at role.trace index ≡ Some (send t) → term_at t path ≡ Some u → value_of values u ≡ critical → IsOpenAt test released.sent path → CoversRelease (trial_at protocol k ps c a index path) ks n e → GoesOn ks k b h
  put_goes_on a e role height values grows high t u path sent at same unprotected releases =
      let node = node_at a index in
      let g = grows.standing in
      let image : image_of e g node ≡ released.node = image_at e g node (instance role height grows.terms) grows.there ∙ ap (λ (i : ℕ). node_at i index) grows.to in
      let precedes : Precedes b (image_of e g node) (image_of e g n) = subst₂ (Precedes b) (sym image) (sym (grows.grown.images n (here.received, here.reception))) released.earlier in
      let there : term_event_at e.strands node ≡ Some (send (apply_to (as_substitution grows.terms) t)) = event_of_higher e.strands a index role height grows.terms (send t) grows.there high sent in
      let in_prefix = in_trace (prefix_of role height) index (send t) in
      let value_there : value_of g.values (apply_to (as_substitution grows.terms) u) ≡ critical =
      sym (value_after g.values (as_substitution grows.terms) u)
      ∙ agree_value (after g.values (as_substitution grows.terms)) values u (λ x i. grows.equal x (in_prefix x (take_of_item height role.trace index (send t) high sent) (position_variables t path u at x i)))
      ∙ same in
      let value_critical : critical ≡ value_of g.values c = agree_value h.values g.values c (λ x i. grows.grown.values x (here.guards.used_by_critical x i)) in
      let tried = releases (grown_acyclic protocol k e b h g node n here.skeleton here.stands grows.grown precedes here.bundle) (apply_to (as_substitution grows.terms) t) (apply_to (as_substitution grows.terms) u) there
      (term_at_under (as_substitution grows.terms) t path u at) g.values (value_there ∙ value_critical) in
      let reached = reached_grown protocol k e b h g node n here.skeleton here.stands grows.grown precedes in
      tried_goes_on (trial_at protocol k ps c a index path) ks b h here.bundle test here.tells (used a index path) strand (releasing a path unprotected) tried.tried (record { nodes = g.nodes; values = tried.fits.values })
      (reached_under k b h unchanged (put_before node n e) g tried.substitution reached tried.fits) grows.to

  -- ---- displaced

  module _ (a : ℕ) (role : Role) (before : ℕ) (old : List Binding) (was : item_at k.strands a ≡ Some (instance role before old)) (to : (h.nodes a).strand ≡ strand) (st : StandsOnRegular b h a role before old)
      (below : index < st.to_height) (t u : Term) (path : List Step) (sent : item_at role.trace index ≡ Some (send t)) (at : term_at t path ≡ Some u) (same : value_of st.to_values u ≡ critical)
      (unprotected : IsOpenAt test released.sent path) where
    displaced_high : (d : IsDisplaced (trial_at protocol k ps c a index path) ks n role before) → index < before → d.grown ≡ k → GoesOn ks k b h
    displaced_high d high is =
        let grows : HasGrownAt k d.grown b h a role before strand st.to_values = record {
          standing = h;
          grown = subst (λ (e : Skeleton). HasGrown k e b h h) (sym is) (grown_itself k b h here.stands here.apart);
          terms = old;
          there = ap (λ (e : Skeleton). item_at e.strands a) is ∙ was;
          equal = st.equal_values;
          to = to;
        } in
        put_goes_on a d.grown role before st.to_values grows high t u path sent at same unprotected d.releases

    displaced_raised : (d : IsDisplaced (trial_at protocol k ps c a index path) ks n role before) → Extends a (suc index) (fresh_terms d.grows.count (added_variables role before (suc index))) k d.grown → GoesOn ks k b h
    displaced_raised d ext =
        let count = d.grows.count in
        let both : Some (instance ext.role ext.before ext.old_terms) ≡ Some (instance role before old) = sym ext.was_instance ∙ was in
        let on : item_at d.grown.strands a ≡ Some (instance role (suc index) ext.terms) =
        same_instance (λ (r : Role) (m : ℕ) (ts : List Binding). item_at d.grown.strands a ≡ Some (instance r (suc index) ext.terms)) both ext.on_instance in
        let keeps : AgreeOnTerms (variables_of_prefix role before) (as_substitution old) (as_substitution ext.terms) = same_instance (λ (r : Role) (m : ℕ) (ts : List Binding). AgreeOnTerms (variables_of_prefix r m) (as_substitution ts) (as_substitution ext.terms)) both ext.keeps in
        let gives : terms_of (as_substitution ext.terms) (added_variables role before (suc index)) ≡ fresh_terms count (added_variables role before (suc index)) =
        same_instance (λ (r : Role) (m : ℕ) (ts : List Binding). terms_of (as_substitution ext.terms) (added_variables r m (suc index)) ≡ fresh_terms count (added_variables role before (suc index))) both ext.gives in
        let adds : AddsGiven role (suc index) ext.terms a k.assumptions d.grown.assumptions =
        same_instance (λ (r : Role) (m : ℕ) (ts : List Binding). AddsGiven r (suc index) ext.terms a k.assumptions d.grown.assumptions) both ext.assumptions in
        let at_least : suc index ≤ st.to_height = omega (arith, below) in
        let raised = raised_at protocol k d.grown b h here.bundle here.stands here.apart a role before (suc index) old ext.terms was on keeps count gives d.grows.closed d.grows.below ext.others st at_least ext.pairs ext.from_problem adds in
        let grows : HasGrownAt k d.grown b h a role (suc index) strand st.to_values = subst (λ (i : ℕ). HasGrownAt k d.grown b h a role (suc index) i st.to_values) to raised in
        put_goes_on a d.grown role (suc index) st.to_values grows (omega arith) t u path sent at same unprotected d.releases

    displaced : IsDisplaced (trial_at protocol k ps c a index path) ks n role before → GoesOn ks k b h
    displaced d = ⊎_elim (λ r. displaced_high d r.0 r.1) (λ r. displaced_raised d r.1) d.grows.how

  -- ---- the strand is an image

  -- On n's own strand the event is before n.
  on_own_strand : GoesThere k h strand n.strand → GoesOn ks k b h
  on_own_strand g =
      let image : image_of k h n ≡ node_at strand n.index = image_at k h n (instance g.role g.height g.terms) g.at ∙ ap (λ (i : ℕ). node_at i n.index) g.to in
      let earlier : Precedes b (node_at strand index) (node_at strand n.index) = subst (Precedes b released.node) image released.earlier in
      ⊎_elim
      (λ l.
      let le : index ≤ n.index = omega (arith, l) in
      let there = item_before (skeleton_trace_or_none (item_at k.strands n.strand)) index n.index here.received here.reception le in
      contracted n.strand (record { role = g.role; height = g.height; terms = g.terms; on_instance = g.at }) there.0 there.1
      (skeleton_climb k n.strand index n.index here.received here.reception l) g.to)
      (λ l. absurd (⊎_elim
      (λ same. never_before_itself protocol b (node_at strand index) here.bundle (subst (λ (i : ℕ). Precedes b (node_at strand index) (node_at strand i)) same earlier))
      (λ less. never_before_itself protocol b (node_at strand n.index) here.bundle (steps_append (bundle_climb b strand n.index index (send released.sent) released.transmission less) earlier))
      (eq-or-lt_of_le l)))
      (cases_lt index n.index)

  on_image : (a : ℕ) → GoesThere k h strand a → Dec (a ≡ n.strand) → GoesOn ks k b h
  on_image a g (yes same) = on_own_strand (subst (GoesThere k h strand) same g)
  on_image a g (no ne) =
      let st = here.stands.instances a g.role g.height g.terms g.at in
      let on = ap (item_at b.strands) (sym g.to) ∙ st.on_regular in
      let sends = role_sends b.strands strand g.role st.to_height st.to_values index released.sent on released.transmission in
      let position = open_position test st.to_values critical sends.term (subst (IsOutside test critical) (sym sends.value) released.outside) in
      let unprotected : IsOpenAt test released.sent position.path = subst (λ (m : Message). IsOpenAt test m position.path) sends.value position.unprotected in
      ⊎_elim
      (λ before. let there = node_before protocol k here.skeleton before in
      contracted a (record { role = g.role; height = g.height; terms = g.terms; on_instance = g.at }) there.0 there.1 before g.to)
      (displaced a g.role g.height g.terms g.at g.to st sends.below sends.term position.term position.path sends.at position.at position.same unprotected)
      (here.covering.displaced a g.role g.height g.terms index sends.term position.term position.path g.at ne sends.at position.at)

  -- ---- added

  added : NoneBelow (GoesThere k h strand) (length k.strands) → GoesOn ks k b h
  added none =
      let sends = role_sends b.strands strand released.role released.height released.values index released.sent released.on_regular released.transmission in
      let position = open_position test released.values critical sends.term (subst (IsOutside test critical) (sym sends.value) released.outside) in
      let unprotected : IsOpenAt test released.sent position.path = subst (λ (m : Message). IsOpenAt test m position.path) sends.value position.unprotected in
      let of_role = here.bundle.of_protocol.of_role strand released.role released.height released.values released.on_regular in
      let d = here.covering.added released.role index sends.term position.term position.path of_role sends.at position.at in
      let below : index < released.height = sends.below in
      let at_least : suc index ≤ released.height = omega (arith, below) in
      let only = λ (a : ℕ) (role : Role) (height : ℕ) (terms : List Binding) (at : item_at k.strands a ≡ Some (instance role height terms)) (to : (h.nodes a).strand ≡ strand).
      none a (item_below k.strands a (instance role height terms) at) (record { role = role; height = height; terms = terms; at = at; to = to }) in
      let grows = added_at protocol k d.grown b h here.bundle here.stands here.apart released.role (suc index) d.count d.adds d.closed d.below strand released.height released.values released.on_regular at_least only in
      put_goes_on (length k.strands) d.grown released.role (suc index) released.values grows (omega arith) sends.term position.term position.path sends.at position.at position.same unprotected
      d.releases

  pub released_goes_on : GoesOn ks k b h
  released_goes_on = ⊎_elim (λ r. on_image r.0 r.2 (ℕ_discrete r.0 n.strand)) added (least_or_none (GoesThere k h strand) (λ a. dec_strand k h strand a (item_at k.strands a) refl) (length k.strands))

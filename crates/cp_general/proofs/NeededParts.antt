-- A part is needed where what is received is not derivable without it.
use Rattle.std.proofs.Common.{◌≡◌, ◌≢◌, ◌↔◌, ◌⊎◌, inl, inr, ℕ, ◌+◌, ◌≤◌, List, [], ◌∷◌, ◌++◌, map, Bool, true, false, length, arith, take, add-one, refl, sym, ap, ◌∙◌, subst, Result, Ok, Err, IfOk}
use Rattle.std.specs.Prelude.{◌==◌, Option, Some, None, option_map}
use Rattle.std.specs.Result.{OnErr}
use Rattle.std.proofs.lemmas.Bool.{false_from_ne_true}
use Rattle.std.proofs.lemmas.Bool.Decides.{nat_tests}
use Rattle.std.proofs.lemmas.List.{take_all}
use Rattle.cp_base.specs.Growing.{Growth, growth, Grows}
use Rattle.cp_lists.specs.Lists.{item_at, IsIn, here}
use Rattle.cp_lists.proofs.Items.{take_to_item}
use Rattle.cp_lists.proofs.Members.{not_in_none, none_in_empty, only_item, in_append, in_append_left, in_append_right, from_map}
use Rattle.cp_model.specs.Term.{AtomTerm, Term, atom_term}
use Rattle.cp_model.specs.Bindings.{Binding}
use Rattle.cp_model.specs.Strand.{Role}
use Rattle.cp_model.specs.Same.{same_node}
use Rattle.cp_model.specs.declared.strand.Event.{Event}
use Rattle.cp_model.specs.declared.strand.Event.TheVariants.{Send as send, Receive as recv}
use Rattle.cp_model.specs.declared.node.Node.{Node}
use Rattle.cp_model.specs.declared.node.OrderPair.{OrderPair}
use Rattle.cp_model.specs.Skeleton.{SkeletonStrand, instance, listener, UniqueAt, Assumptions, Skeleton, term_event_at, Before}
use Rattle.cp_model.specs.Derivable.{IsSecret, IsOnInstance, DerivableAt}
use Rattle.cp_model.proofs.SameTests.{node_is}
use Rattle.cp_model.proofs.CarriedParts.{not_both}
use Rattle.cp_skel.specs.Events.{LocatedEvent, events_of}
use Rattle.cp_skel.specs.Ordered.{ordered_by}
use Rattle.cp_skel.specs.Preceding.{SkeletonNode}
use Rattle.cp_skel.specs.Sound.{IsSound}
use Rattle.cp_skel.specs.Deletion.{node_renumbered, unique_renumbered, as_it_is, IsOriginOn, IsStatedAt, IsForgottenNon, IsForgottenPenetratorNon}
use Rattle.cp_skel.proofs.EventLists.{listed_event}
use Rattle.cp_skel.proofs.NumbersWithout.{node_restored, node_again, restored_other, event_without, event_kept}
use Rattle.cp_skel.proofs.PairsWithout.{in_left}
use Rattle.cp_derive.specs.From.{IsSentBefore}
use Rattle.cp_derive.specs.Given.{Given, IsDerivable}
use Rattle.cp_derive.proofs.FromLaw.{from_at, from_more}
use Rattle.cp_derive.proofs.ListedTransmissions.{transmission_listed, sent_listed}
use Rattle.cp_general.specs.declared.needed.Part.{Part}
use Rattle.cp_general.specs.declared.needed.Part.TheVariants.{Strand as a_strand, Pair as a_pair}
use Rattle.cp_general.specs.Needed.{IsNeeded, loses, IsLedTo, SendsApart, HoldsSent, AddsOnly, IsValueApart, IsAssumedApart, StatesNone, ForgetsNone, AreKept, IsKnownApart}
use Rattle.cp_general.proofs.Deleted.{was_before}
use Rattle.cp_general.proofs.Dropped.{way_back, not_before}
use Rattle.cp_general.proofs.DeletedStrands.{strand_was}

-- ---- what an event sends

pub what_is_sent : (e : Event Term) (m t : Term) → e ≡ send m → e ≡ send t → m ≡ t
what_is_sent e m t a b = let both : send m ≡ send t = sym a ∙ b in cc

pub nothing_sent : (e : Event Term) (m t : Term) → e ≡ recv m → e ≡ send t → ⊥
nothing_sent e m t a b = let both : recv m ≡ send t = sym a ∙ b in cc

-- ---- what is sent apart from the part

-- what is told of an option that is found to be something, or nothing
is_told : {B W : Type 0} (look : B → W) (found : Option B) (m : B) (t : W) → found ≡ Some m → option_map look found ≡ Some t → look m ≡ t
is_told look found m t is told = let whole : Some (look m) ≡ Some t = sym (ap (option_map look) is) ∙ told in cc

is_none : {B W : Type 0} (look : B → W) (found : Option B) (t : W) → found ≡ None → option_map look found ≡ Some t → ⊥
is_none look found t is told = let whole : None ≡ Some t = sym (ap (option_map look) is) ∙ told in cc

-- Unless memory ran out, the list holds what is sent at these events.
abbrev pub HoldsYet : Part → SkeletonNode → List LocatedEvent → Growth Term → Type 0
HoldsYet part at os g = g.ran_out ≡ false → HoldsSent part at os g.items

memory_ran_out : {T : Type 0} (old new : Growth T) → new ≡ growth old.items true → new.ran_out ≡ false → ⊥
memory_ran_out old new failed in_memory = not_both in_memory (ap (λ (g : Growth _). g.ran_out) failed)

module _ {B : Type 0} (look : B → Term) (part : Part) (at : SkeletonNode) (os : List LocatedEvent) (i : ℕ) (o : LocatedEvent) (listed : item_at os i ≡ Some o)
    (found : Option B) (tells : (t : Term) → SendsApart part at o t → option_map look found ≡ Some t) where
  next : take (i + 1) os ≡ take i os ++ o ∷ []
  next = ap (λ m. take m os) (add-one i) ∙ take_to_item os i o listed

  pub passed_apart : (g : Growth Term) → found ≡ None → HoldsYet part at (take i os) g → HoldsYet part at (take (i + 1) os) g
  passed_apart g none holds in_memory =
      subst (λ xs. HoldsSent part at xs g.items) (sym next)
      (λ p t m s. elim (in_append (take i os) (o ∷ []) m) [
        | inl j ↦ holds in_memory p t j s
        | inr j ↦ absurd (is_none look found t none (tells t (subst (λ (x : LocatedEvent). SendsApart part at x t) (only_item j) s)))
      ])

  held_next : (ts : List Term) (m : B) → found ≡ Some m → HoldsSent part at (take i os) ts → HoldsSent part at (take (i + 1) os) (ts ++ look m ∷ [])
  held_next ts m is holds =
      subst (λ xs. HoldsSent part at xs (ts ++ look m ∷ [])) (sym next)
      (λ p t l s. elim (in_append (take i os) (o ∷ []) l) [
        | inl j ↦ in_append_left (look m ∷ []) (holds p t j s)
        | inr j ↦ in_append_right ts (subst (λ x. IsIn t (x ∷ [])) (sym (is_told look found m t is (tells t (subst (λ (x : LocatedEvent). SendsApart part at x t) (only_item j) s)))) here)
      ])

  pub held_apart : {E : Type 0} (made : Result Term E) (old new : Growth Term) (m : B) → found ≡ Some m → IfOk made (λ t. Grows old new (t ∷ [])) → OnErr made (new ≡ growth old.items true) →
      IfOk made (λ t. t ≡ look m) → HoldsYet part at (take i os) old → HoldsYet part at (take (i + 1) os) new
  held_apart (Ok t) old new m is grown none copy holds in_memory =
      let more = grown.whole in_memory in
      subst (HoldsSent part at (take (i + 1) os)) (sym (more.1 ∙ ap (λ (x : Term). old.items ++ x ∷ []) copy)) (held_next old.items m is (holds more.0))
  held_apart (Err e) old new m is grown none copy holds in_memory = absurd (memory_ran_out old new none in_memory)

pub all_apart : (part : Part) (at : SkeletonNode) (os : List LocatedEvent) (i : ℕ) (g : Growth Term) (ts : List Term) → length os ≤ i → HoldsYet part at (take i os) g → growth ts false ≡ g → HoldsSent part at os ts
all_apart part at os i g ts past holds is =
    subst (HoldsSent part at os) (sym (ap (λ (x : Growth Term). x.items) is))
    (subst (λ xs. HoldsSent part at xs g.items) (take_all i os past) (holds (sym (ap (λ (x : Growth Term). x.ran_out) is))))

-- ---- values of assumptions

pub added_to : {E : Type 0} (added : Term → Type 0) (made : Result Term E) (first old new : Growth Term) (x : Term) → IfOk made (λ t. Grows old new (t ∷ [])) → OnErr made (new ≡ growth old.items true) →
    IfOk made (λ t. t ≡ x) → added x → AddsOnly added first old → AddsOnly added first new
added_to added (Ok y) first old new x grown none copy is so_far t m =
    elim (in_append old.items grown.part.0 (subst (IsIn t) grown.part.3 m)) [
      | inl j ↦ so_far t j
      | inr j ↦ inr (subst added (sym copy ∙ sym (only_item (subst (IsIn t) (sym grown.part.2) (in_append_left grown.part.1 j)))) is)
    ]
added_to added (Err e) first old new x grown none copy is so_far t m = so_far t (subst (IsIn t) (ap (λ (g : Growth Term). g.items) none) m)

pub all_assumed : (p q r : Term → Type 0) (first second third last : Growth Term) (ts : List Term) → first.items ≡ [] → AddsOnly p first second → AddsOnly q second third → AddsOnly r third last → growth ts false ≡ last →
    (t : Term) → IsIn t ts → p t ⊎ (q t ⊎ r t)
all_assumed p q r first second third last ts none one two three is t m =
    elim (three t (subst (IsIn t) (ap (λ (g : Growth Term). g.items) is) m)) [
      | inr x ↦ inr (inr x)
      | inl i ↦ elim (two t i) [
        | inr x ↦ inr (inl x)
        | inl j ↦ elim (one t j) [ inl l ↦ absurd (none_in_empty none l) | inr x ↦ inl x ]
      ]
    ]

-- the same where the lists are those of assumptions
pub assumed_in : (part : Part) (a : Assumptions) (non penetrator_non : List AtomTerm) (unique : List UniqueAt) (ts : List Term) → non ≡ a.non_originating → penetrator_non ≡ a.penetrator_non_originating → unique ≡ a.uniquely_originating →
    ((t : Term) → IsIn t ts → IsIn t (map atom_term non) ⊎ (IsIn t (map atom_term penetrator_non) ⊎ IsValueApart part unique t)) → (t : Term) → IsIn t ts → IsAssumedApart part a t
assumed_in part a non penetrator_non unique ts first second third all t m =
    elim (all t m) [
      | inl i ↦ inl (subst (λ xs. IsIn t (map atom_term xs)) first i)
      | inr more ↦ inr (elim more [ inl i ↦ inl (subst (λ xs. IsIn t (map atom_term xs)) second i) | inr v ↦ inr (subst (λ us. IsValueApart part us t) third v) ])
    ]

same_atom : (a b : AtomTerm) → atom_term a ≡ atom_term b → a ≡ b
same_atom a b e = cc

of_atom : (xs : List AtomTerm) (v : AtomTerm) → IsIn (atom_term v) (map atom_term xs) → IsIn v xs
of_atom xs v m = let r = from_map atom_term xs m in subst (λ x. IsIn x xs) (same_atom r.0 v r.2) r.1

-- ---- assumptions that stay

-- The strand is no instance of a role that states such atoms.
pub none_by_role : (strand : SkeletonStrand) (seen own role : Role) (height other : ℕ) (terms others : List Binding) → seen ≡ own → strand ≡ instance own other others → strand ≡ instance role height terms → StatesNone seen → StatesNone role
none_by_role strand seen own role height other terms others is one two none = let same : own ≡ role = cc in subst StatesNone (is ∙ same) none

pub no_instance : (strand : SkeletonStrand) (message : Term) (role : Role) (height : ℕ) (terms : List Binding) → strand ≡ listener message → strand ≡ instance role height terms → ⊥
no_instance strand message role height terms one two = cc

-- The atom is forgotten with the part.
abbrev ForgottenNon : Part → Skeleton → AtomTerm → Type 0
ForgottenNon (a_strand d) k v = IsForgottenNon k d v
ForgottenNon (a_pair p) k v = ⊥

abbrev ForgottenPenetratorNon : Part → Skeleton → AtomTerm → Type 0
ForgottenPenetratorNon (a_strand d) k v = IsForgottenPenetratorNon k d v
ForgottenPenetratorNon (a_pair p) k v = ⊥

-- These are assumptions of the skeleton, of which none is forgotten with the part but unique values.
record StayListed (part : Part) (k : Skeleton) (a : Assumptions) : Type 0 where
  non : (v : AtomTerm) → IsIn v a.non_originating → IsIn v k.assumptions.non_originating × (ForgottenNon part k v → ⊥)
  penetrator_non : (v : AtomTerm) → IsIn v a.penetrator_non_originating → IsIn v k.assumptions.penetrator_non_originating × (ForgottenPenetratorNon part k v → ⊥)
  unique : (u : UniqueAt) → IsIn u a.uniquely_originating → IsIn u k.assumptions.uniquely_originating

not_equal : (a b : ℕ) → (a == b) ≡ false → a ≢ b
not_equal a b f e = grind (arith, nat_tests)

equal_not : (a b : ℕ) → a ≢ b → (a == b) ≡ false
equal_not a b h = grind (arith, nat_tests)

kept_if : (part : Part) (k : Skeleton) (a : Assumptions) → StayListed part k a → AreKept part k a
kept_if (a_strand d) k a stay v assumed h del =
    elim assumed [
      | inl m ↦
          let r = stay.non v (of_atom a.non_originating v m) in
          inl (in_left (IsForgottenNon k d) as_it_is k.assumptions.non_originating h.assumptions.non_originating v del.assumptions.non r.0 r.1)
      | inr more ↦ elim more [
        | inl m ↦
            let r = stay.penetrator_non v (of_atom a.penetrator_non_originating v m) in
            inr (inl (in_left (IsForgottenPenetratorNon k d) as_it_is k.assumptions.penetrator_non_originating h.assumptions.penetrator_non_originating v del.assumptions.penetrator_non r.0 r.1))
        | inr u ↦ inr (inr (record {
          entry = unique_renumbered d u.entry;
          listed = in_left (IsOriginOn d) (unique_renumbered d) k.assumptions.uniquely_originating h.assumptions.uniquely_originating u.entry del.assumptions.unique
              (stay.unique u.entry u.listed) (not_equal u.entry.origin.strand d u.apart);
          same = same_atom u.entry.value v u.same;
        }))
      ]
    ]
kept_if (a_pair p) k a stay v assumed h drops =
    subst (λ (z : Skeleton). IsSecret z v) (sym drops.same)
    (elim assumed [
      | inl m ↦ inl (stay.non v (of_atom a.non_originating v m)).0
      | inr more ↦ elim more [
        | inl m ↦ inr (inl (stay.penetrator_non v (of_atom a.penetrator_non_originating v m)).0)
        | inr u ↦ inr (inr (record { entry = u.entry; listed = stay.unique u.entry u.listed; same = same_atom u.entry.value v u.same }))
      ]
    ])

-- what the problem itself states
own_stays : (part : Part) (k : Skeleton) → IsSound k → StayListed part k k.from_problem.assumptions
own_stays (a_strand d) k sound =
    record { non = λ v i. (sound.assumed.non v i, λ f. f.not_own i); penetrator_non = λ v i. (sound.assumed.penetrator_non v i, λ f. f.not_own i); unique = sound.assumed.unique }
own_stays (a_pair p) k sound = record { non = λ v i. (sound.assumed.non v i, λ f. f); penetrator_non = λ v i. (sound.assumed.penetrator_non v i, λ f. f); unique = sound.assumed.unique }

pub own_kept : (part : Part) (k : Skeleton) (a : Assumptions) → IsSound k → a ≡ k.from_problem.assumptions → AreKept part k a
own_kept part k a sound same = subst (AreKept part k) (sym same) (kept_if part k k.from_problem.assumptions (own_stays part k sound))

-- all, where none is forgotten
none_stated : (d : ℕ) (k : Skeleton) (stated : Role → List AtomTerm) (v : AtomTerm) → ((strand : SkeletonStrand) → item_at k.strands d ≡ Some strand → (role : Role) (height : ℕ) (terms : List Binding) → strand ≡ instance role height terms → stated role ≡ []) → IsStatedAt stated k.strands d v → ⊥
none_stated d k stated v none s = let g = s.gives in not_in_none (subst (IsIn g.given.atom) (none s.strand s.there_is g.role g.height g.terms g.is_instance) g.given.listed)

all_stay : (part : Part) (k : Skeleton) → ForgetsNone part k → StayListed part k k.assumptions
all_stay (a_strand d) k none = record {
  non = λ v i. (i, λ f. none_stated d k (λ (role : Role). role.non_originating) v (λ strand at role height terms is. (none strand at role height terms is).non) f.gave);
  penetrator_non = λ v i. (i, λ f. none_stated d k (λ (role : Role). role.penetrator_non_originating) v (λ strand at role height terms is. (none strand at role height terms is).penetrator_non) f.gave);
  unique = λ u i. i;
}
all_stay (a_pair p) k none = record { non = λ v i. (i, λ f. f); penetrator_non = λ v i. (i, λ f. f); unique = λ u i. i }

pub all_kept : (part : Part) (k : Skeleton) (a : Assumptions) → a ≡ k.assumptions → ForgetsNone part k → AreKept part k a
all_kept part k a same none = subst (AreKept part k) (sym same) (kept_if part k k.assumptions (all_stay part k none))

-- ---- what is known

pub known_if : (part : Part) (at : SkeletonNode) (k : Skeleton) (n : Node) (os : List LocatedEvent) (a : Assumptions) (sent secrets : List Term) (g : Given) → at ≡ record { skeleton = k; node = n } → os ≡ events_of k → HoldsSent part at os sent →
    ((t : Term) → IsIn t secrets → IsAssumedApart part a t) → AreKept part k a → g ≡ record { sent = sent; secrets = secrets } → IsKnownApart part (record { skeleton = k; node = n }) g
known_if part at k n os a sent secrets g there all holds only kept is =
    let here_sent : HoldsSent part (record { skeleton = k; node = n }) (events_of k) sent = subst (λ xs. HoldsSent part (record { skeleton = k; node = n }) xs sent) all (subst (λ x. HoldsSent part x os sent) there holds) in
    subst (IsKnownApart part (record { skeleton = k; node = n })) (sym is) (record { sent = here_sent; secrets = λ v i. kept v (only (atom_term v) i) })

-- what is derivable somewhere is so from what is given, if that is all that is sent before and nothing more is secret
derived_too : (h : Skeleton) (n : Node) (g : Given) → ((v : AtomTerm) → IsIn (atom_term v) g.secrets → IsSecret h v) → ((t : Term) → IsSentBefore h n t → IsIn t g.sent) → (t : Term) → DerivableAt h n t → IsDerivable g t
derived_too h n g secrets sent t d = from_more (IsSecret h) (λ v. IsIn (atom_term v) g.secrets) (IsSentBefore h n) (λ x. IsIn x g.sent) secrets sent t (from_at h n t d)

module _ (part : Part) (k : Skeleton) (n : Node) (g : Given) (known : IsKnownApart part (record { skeleton = k; node = n }) g) where
  sent_known : (m : Node) (t : Term) → IsOnInstance k m → term_event_at k.strands m ≡ Some (send t) → Before k m n → loses part m ≡ false → IsIn t g.sent
  sent_known m t on sent before apart =
      known.sent (record { node = m; event = send t; by_role = true }) t (sent_listed (events_of k) (record { node = m; message = t }) (transmission_listed k m t on sent))
      (record { sends = record { by_role = refl; sends = refl; before = before }; apart = apart })

-- The message received at the node, to which the part leads, is not derivable from what is known there without the part.
needed_at : (part : Part) (k : Skeleton) (n : Node) (message : Term) (g : Given) → term_event_at k.strands n ≡ Some (recv message) → IsLedTo part n → IsKnownApart part (record { skeleton = k; node = n }) g → (IsDerivable g message → ⊥) → IsNeeded part k
needed_at (a_strand d) k n message g at led_to known underivable h del fit =
    let m : Node = node_renumbered d n in
    let there : term_event_at h.strands m ≡ Some (recv message) = ap (λ ss. term_event_at ss m) del.strands ∙ event_kept k.strands d n led_to ∙ at in
    underivable (derived_too h m g (λ v i. known.secrets v i h del) sent message (fit.realised m message there))
  where
    sent : (t : Term) → IsSentBefore h (node_renumbered d n) t → IsIn t g.sent
    sent t s =
        let x : Node = node_restored d s.from in
        let o = s.on_instance in
        sent_known (a_strand d) k n g known x t
        (record { role = o.role; height = o.height; terms = o.terms; on_instance = strand_was d k h del s.from.strand (instance o.role o.height o.terms) o.on_instance })
        (sym (event_without k.strands d s.from) ∙ sym (ap (λ ss. term_event_at ss s.from) del.strands) ∙ s.transmission)
        (subst (Before k x) (node_again d n led_to) (was_before d k h del.order s.from (node_renumbered d n) s.before)) (equal_not x.strand d (restored_other d s.from.strand))
needed_at (a_pair p) k n message g at led_to known underivable h drops fit =
    let there : term_event_at h.strands n ≡ Some (recv message) = ap (λ (z : Skeleton). term_event_at z.strands n) drops.same ∙ at in
    underivable (derived_too h n g (λ v i. known.secrets v i h drops) sent message (fit.realised n message there))
  where
    was : (q : OrderPair) → IsIn q h.pairs → Before k q.earlier q.later × (q ≢ p)
    was q m = let r = (drops.pairs q).0 m in (r.0.ordered, r.1)

    so_ordered : (x : Node) → Before h x n → Before (ordered_by k h.pairs) x n
    so_ordered x b = subst (λ (z : Skeleton). Before z x n) drops.same b

    sent : (t : Term) → IsSentBefore h n t → IsIn t g.sent
    sent t s =
        let o = s.on_instance in
        sent_known (a_pair p) k n g known s.from t
        (record { role = o.role; height = o.height; terms = o.terms; on_instance = sym (ap (λ (z : Skeleton). item_at z.strands s.from.strand) drops.same) ∙ o.on_instance })
        (sym (ap (λ (z : Skeleton). term_event_at z.strands s.from) drops.same) ∙ s.transmission) (way_back k h.pairs (λ q m. (was q m).0) s.from n (so_ordered s.from s.before))
        (false_from_ne_true (same_node s.from p.earlier) (λ e. not_before k h.pairs p drops.covering was s.from n (node_is s.from p.earlier e) led_to (so_ordered s.from s.before)))

-- the same of an event that is listed
pub there_received : (k : Skeleton) (os : List LocatedEvent) (o : LocatedEvent) (n : Node) (message : Term) → os ≡ events_of k → IsIn o os → n ≡ o.node → o.event ≡ recv message → term_event_at k.strands n ≡ Some (recv message)
there_received k os o n message all listed at receives = ap (term_event_at k.strands) at ∙ listed_event k o (subst (IsIn o) all listed) ∙ ap Some receives

pub needed_if : (part : Part) (k : Skeleton) (n : Node) (message : Term) (g : Given) (b : Bool) → term_event_at k.strands n ≡ Some (recv message) → IsLedTo part n → IsKnownApart part (record { skeleton = k; node = n }) g →
    (b ≡ true) ↔ IsDerivable g message → b ≡ false → IsNeeded part k
needed_if part k n message g b at led_to known tells f = needed_at part k n message g at led_to known (λ d. not_both f (tells.1 d))

-- The search for the predecessors of one node: what a step keeps, and what there is at the end.
use Rattle.std.proofs.Common.{◌≡◌, ◌==◌, ◌↔◌, ◌⊎◌, inl, inr, ℕ, suc, ◌+◌, ◌<◌, ◌≤◌, nat_le, List, [], ◌∷◌, ◌++◌, length, Bool, true, false, not, ◌&&◌, ◌||◌, if◌then◌else◌, refl, sym, ap, ap₂, ◌∙◌, subst, arith}
use Rattle.std.specs.Prelude.{Option, Some, None, IsSome, option_to_list}
use Rattle.std.proofs.lemmas.Bool.Decides.{nat_tests}
use Rattle.std.proofs.lemmas.Bool.{or_left, or_right, and_from, and_parts, not_from_false}
use Rattle.std.proofs.lemmas.List.{append-nil, length-append}
use Rattle.cp_lists.specs.Lists.{IsIn, here, there}
use Rattle.cp_lists.proofs.Members.{only_item, in_append_left, in_append_right, in_append, in_if_here, in_if_behind}
use Rattle.cp_model.specs.declared.node.Node.{Node}
use Rattle.cp_model.specs.declared.node.OrderPair.{OrderPair}
use Rattle.cp_model.specs.Order.{IsAtOrAfter, ReachesAlong, on_strand, over_pair}
use Rattle.cp_model.specs.OrderTests.{any_pair, at_or_after}
use Rattle.cp_order.specs.PredecessorNodes.{Tops, is_within, is_under_tops, AreTops, is_reached, reached, TakesNode, waiting, IsGathered}
use Rattle.cp_model.proofs.BoundedSearch.{after_true, true_after, after_leads, none_in}

-- ---- tests

at_itself : (n : Node) → at_or_after n n ≡ true
at_itself n = true_after n n (refl, omega arith)

lower : (top : Option ℕ) (i j : ℕ) → i ≤ j → is_within top j ≡ true → is_within top i ≡ true
lower None i j l h = absurd (cc)
lower (Some t) i j l h = grind (arith, nat_tests)

below_lower : (tops : Tops) (x y : Node) → IsAtOrAfter x y → is_under_tops tops y ≡ true → is_under_tops tops x ≡ true
below_lower tops x y a h = subst (λ s. is_within (tops s) x.index ≡ true) (sym a.0) (lower (tops y.strand) x.index y.index a.1 h)

either_first : (b c d : Bool) → d ≡ (b || c) → d ≡ true → (b ≡ true) ⊎ ((b ≡ false) × (c ≡ true))
either_first true c d e h = inl refl
either_first false c d e h = inr (refl, sym e ∙ h)

-- ---- what is reached

-- x is the earlier node of a pair that is reached.
abbrev IsReachedBy : Option ℕ → Node → Node → List OrderPair → Type 0
IsReachedBy top n x ps = (p : OrderPair) × IsIn p ps × (is_reached top n p ≡ true) × (p.earlier ≡ x)

further : (top : Option ℕ) (n x : Node) (q : OrderPair) (ps : List OrderPair) → IsReachedBy top n x ps → IsReachedBy top n x (q ∷ ps)
further top n x q ps h = (h.0, there h.1, h.2, h.3)

first_or_further : (top : Option ℕ) (n x : Node) (q : OrderPair) (ps : List OrderPair) (xs : List Node) → (IsIn x xs → IsReachedBy top n x ps) → is_reached top n q ≡ true → IsIn x (q.earlier ∷ xs) → IsReachedBy top n x (q ∷ ps)
first_or_further top n x q ps xs rest e here = (q, here, e, refl)
first_or_further top n x q ps xs rest e (there i) = further top n x q ps (rest i)

by_test : (top : Option ℕ) (n x : Node) (q : OrderPair) (ps : List OrderPair) (xs : List Node) (b : Bool) → (IsIn x xs → IsReachedBy top n x ps) → is_reached top n q ≡ b → IsIn x (if b then q.earlier ∷ xs else xs) → IsReachedBy top n x (q ∷ ps)
by_test top n x q ps xs true rest e i = first_or_further top n x q ps xs rest e i
by_test top n x q ps xs false rest e i = further top n x q ps (rest i)

reached_by : (top : Option ℕ) (n x : Node) (ps : List OrderPair) → IsIn x (reached top n ps) → IsReachedBy top n x ps
reached_by top n x [] m = elim m [ ]
reached_by top n x (q ∷ ps) m = by_test top n x q ps (reached top n ps) (is_reached top n q) (reached_by top n x ps) refl m

listed : (top : Option ℕ) (n : Node) (ps : List OrderPair) (p : OrderPair) → IsIn p ps → is_reached top n p ≡ true → IsIn p.earlier (reached top n ps)
listed top n [] p m e = elim m [ ]
listed top n (q ∷ ps) p here e = in_if_here (is_reached top n p) p.earlier (reached top n ps) e
listed top n (q ∷ ps) p (there m) e = in_if_behind (is_reached top n q) q.earlier p.earlier (reached top n ps) (listed top n ps p m e)

and_not : (b c : Bool) → (b ≡ true → c ≡ true) → (b && not c) ≡ false
and_not true c h = ap not (h refl)
and_not false c h = refl

not_reached : (top : Option ℕ) (n : Node) (p : OrderPair) → is_within top n.index ≡ true → is_reached top n p ≡ false
not_reached top n p h = and_not (at_or_after p.later n) (is_within top p.later.index) (λ e. lower top p.later.index n.index (after_true p.later n e).1 h)

none_reached : (top : Option ℕ) (n : Node) (ps : List OrderPair) → is_within top n.index ≡ true → [] ≡ reached top n ps
none_reached top n [] h = refl
none_reached top n (p ∷ ps) h = none_reached top n ps h ∙ ap (λ b. if b then p.earlier ∷ reached top n ps else reached top n ps) (sym (not_reached top n p h))

-- ---- a node is taken

or_same : (b c : Bool) → (c ≡ true → b ≡ true) → b ≡ (b || c)
or_same true c h = refl
or_same false true h = h refl
or_same false false h = refl

-- a node below the tops changes nothing
pub takes_nothing : (pairs : List OrderPair) (n : Node) (tops : Tops) (work : List Node) → is_under_tops tops n ≡ true → TakesNode pairs n tops tops work work
takes_nothing pairs n tops work h = record {
  raised = λ x. or_same (is_under_tops tops x) (at_or_after x n) (λ e. below_lower tops x n (after_true x n e) h);
  added = sym (append-nil work) ∙ ap (λ more. work ++ more) (none_reached (tops n.strand) n pairs h);
}

module _ (pairs : List OrderPair) (y n : Node) (old new : Tops) (rest more : List Node) (g : IsGathered pairs y old (rest ++ n ∷ [])) (t : TakesNode pairs n old new rest more) where
  n_leads : ReachesAlong pairs n y
  n_leads = g.to_take n (in_append_right rest here)

  n_below : is_under_tops new n ≡ true
  n_below = t.raised n ∙ or_right (is_under_tops old n) (at_or_after n n) (at_itself n)

  still_below : (x : Node) → is_under_tops old x ≡ true → is_under_tops new x ≡ true
  still_below x h = t.raised x ∙ or_left (is_under_tops old x) (at_or_after x n) h

  in_more : (x : Node) → IsIn x rest ⊎ IsIn x (reached (old n.strand) n pairs) → IsIn x more
  in_more x (inl m) = subst (IsIn x) (sym t.added) (in_append_left (reached (old n.strand) n pairs) m)
  in_more x (inr m) = subst (IsIn x) (sym t.added) (in_append_right rest m)

  below_or_more : (x : Node) → (is_under_tops old x ≡ true) ⊎ IsIn x (rest ++ n ∷ []) → (is_under_tops new x ≡ true) ⊎ IsIn x more
  below_or_more x (inl h) = inl (still_below x h)
  below_or_more x (inr m) = elim (in_append rest (n ∷ []) m) as (λ _. (is_under_tops new x ≡ true) ⊎ IsIn x more) [
    | inl i ↦ inr (in_more x (inl i))
    | inr i ↦ inl (subst (λ (z : Node). is_under_tops new z ≡ true) (sym (only_item i)) n_below)
  ]

  leads_below : (x : Node) → (is_under_tops old x ≡ true) ⊎ ((is_under_tops old x ≡ false) × (at_or_after x n ≡ true)) → ReachesAlong pairs x y
  leads_below x (inl h) = g.below x h
  leads_below x (inr h) = after_leads pairs x n y (after_true x n h.1) n_leads

  leads_by : (x : Node) → (p : OrderPair) × IsIn p pairs × (is_reached (old n.strand) n p ≡ true) × (p.earlier ≡ x) → ReachesAlong pairs x y
  leads_by x h =
      let before : at_or_after h.0.later n ≡ true = (and_parts (at_or_after h.0.later n) (not (is_within (old n.strand) h.0.later.index)) h.2).0 in
      subst (λ (z : Node). ReachesAlong pairs z y) h.3 (over_pair h.1 (refl, omega arith) (after_leads pairs h.0.later n y (after_true h.0.later n before) n_leads))

  leads_more : (x : Node) → IsIn x more → ReachesAlong pairs x y
  leads_more x m = elim (in_append rest (reached (old n.strand) n pairs) (subst (IsIn x) t.added m)) as (λ _. ReachesAlong pairs x y) [
    | inl i ↦ g.to_take x (in_append_left (n ∷ []) i)
    | inr i ↦ leads_by x (reached_by (old n.strand) n x pairs i)
  ]

  is_reached_new : (p : OrderPair) → is_under_tops old p.later ≡ false → at_or_after p.later n ≡ true → is_reached (old n.strand) n p ≡ true
  is_reached_new p f e = and_from (at_or_after p.later n) (not (is_within (old n.strand) p.later.index)) e
      (not_from_false (is_within (old n.strand) p.later.index) (subst (λ s. is_within (old s) p.later.index ≡ false) (after_true p.later n e).0 f))

  closed_new : (p : OrderPair) → IsIn p pairs → (is_under_tops old p.later ≡ true) ⊎ ((is_under_tops old p.later ≡ false) × (at_or_after p.later n ≡ true)) → (is_under_tops new p.earlier ≡ true) ⊎ IsIn p.earlier more
  closed_new p m (inl h) = below_or_more p.earlier (g.closed p m h)
  closed_new p m (inr h) = inr (in_more p.earlier (inr (listed (old n.strand) n pairs p m (is_reached_new p h.0 h.1))))

  cases_of : (x : Node) → is_under_tops new x ≡ true → (is_under_tops old x ≡ true) ⊎ ((is_under_tops old x ≡ false) × (at_or_after x n ≡ true))
  cases_of x h = either_first (is_under_tops old x) (at_or_after x n) (is_under_tops new x) (t.raised x) h

  gathered_new : IsGathered pairs y new more
  gathered_new = record {
    below = λ x h. leads_below x (cases_of x h);
    to_take = leads_more;
    target = below_or_more y g.target;
    closed = λ p m h. closed_new p m (cases_of p.later h);
  }

-- ---- how many pairs wait

count_one : (b c : Bool) (w v : ℕ) (x : Node) (xs : List Node) → w + length xs ≡ v →
    (if (b || c) then w else suc w) + length (if (c && not b) then x ∷ xs else xs) ≡ (if b then v else suc v)
count_one true true w v x xs h = h
count_one true false w v x xs h = h
count_one false true w v x xs h = omega (arith, h)
count_one false false w v x xs h = omega (arith, h)

and_alike : (c b d : Bool) → (c ≡ true → b ≡ d) → (c && not b) ≡ (c && not d)
and_alike true b d h = ap not (h refl)
and_alike false b d h = refl

waits : (n : Node) (old new : Tops) → ((x : Node) → is_under_tops new x ≡ (is_under_tops old x || at_or_after x n)) → (ps : List OrderPair) → waiting new ps + length (reached (old n.strand) n ps) ≡ waiting old ps
waits n old new raised [] = refl
waits n old new raised (p ∷ ps) =
    let w = waiting new ps in
    let xs = reached (old n.strand) n ps in
    let alike : is_reached (old n.strand) n p ≡ (at_or_after p.later n && not (is_under_tops old p.later)) =
    and_alike (at_or_after p.later n) (is_within (old n.strand) p.later.index) (is_under_tops old p.later)
    (λ e. ap (λ s. is_within (old s) p.later.index) (sym (after_true p.later n e).0)) in
    ap₂ (λ d r. (if d then w else suc w) + length (if r then p.earlier ∷ xs else xs)) (raised p.later) alike
    ∙ count_one (is_under_tops old p.later) (at_or_after p.later n) w (waiting old ps) p.earlier xs (waits n old new raised ps)

waits_less : (pairs : List OrderPair) (n : Node) (old new : Tops) (rest more : List Node) → TakesNode pairs n old new rest more →
    waiting new pairs + length more < waiting old pairs + length (rest ++ n ∷ [])
waits_less pairs n old new rest more t =
    let added : length more ≡ length rest + length (reached (old n.strand) n pairs) = ap length t.added ∙ length-append rest (reached (old n.strand) n pairs) in
    omega (arith, added, waits n old new t.raised pairs, length-append rest (n ∷ []))

-- ---- the whole search

pub gathered_first : (pairs : List OrderPair) (y : Node) (tops : Tops) (work : List Node) → ((s : ℕ) → tops s ≡ None) → work ≡ y ∷ [] → IsGathered pairs y tops work
gathered_first pairs y tops work e w = record {
  below = λ x h. absurd (not_below x h);
  to_take = λ x i. subst (λ (z : Node). ReachesAlong pairs z y) (sym (only_item (subst (IsIn x) w i))) (on_strand (refl, omega arith));
  target = inr (subst (IsIn y) (sym w) here);
  closed = λ p i h. absurd (not_below p.later h);
}
  where
    none_below : (x : Node) → is_under_tops tops x ≡ false
    none_below x = ap (λ top. is_within top x.index) (e x.strand)

    not_below : (x : Node) → is_under_tops tops x ≡ true → ⊥
    not_below x h = let f : is_under_tops tops x ≡ false = none_below x in cc

module _ (pairs : List OrderPair) (y n : Node) (old new : Tops) (work rest more : List Node) (popped : work ≡ rest ++ n ∷ []) (t : TakesNode pairs n old new rest more) where
  pub gathered_next : IsGathered pairs y old work → IsGathered pairs y new more
  gathered_next g = gathered_new pairs y n old new rest more (subst (IsGathered pairs y old) popped g) t

  pub gathered_less : waiting new pairs + length more < waiting old pairs + length work
  gathered_less = omega (arith, ap length popped, waits_less pairs n old new rest more t)

module _ (pairs : List OrderPair) (y : Node) (tops : Tops) (g : IsGathered pairs y tops []) where
  no_more : {x : Node} {b : Bool} → (b ≡ true) ⊎ IsIn x [] → b ≡ true
  no_more (inl h) = h
  no_more (inr m) = elim m [ ]

  all_below : (x z : Node) → ReachesAlong pairs x z → is_under_tops tops z ≡ true → is_under_tops tops x ≡ true
  all_below x z (on_strand a) h = below_lower tops x z a h
  all_below x z (over_pair {p} m a l) h = below_lower tops x p.earlier a (no_more (g.closed p m (all_below p.later z l h)))

  gathered_whole : AreTops pairs y tops
  gathered_whole x = (g.below x, λ l. all_below x y l (no_more g.target))

pub gathered_all : (pairs : List OrderPair) (y : Node) (tops : Tops) (work : List Node) → work ≡ [] → IsGathered pairs y tops work → AreTops pairs y tops
gathered_all pairs y tops work e g = gathered_whole pairs y tops (subst (IsGathered pairs y tops) e g)

-- ---- the work list

-- What was there was popped off.
pub popped : (old new : List Node) (r : Option Node) (x : Node) → old ≡ new ++ option_to_list r → r ≡ Some x → old ≡ new ++ (x ∷ [])
popped old new r x h is = h ∙ ap (λ o. new ++ option_to_list o) is

-- There was nothing to pop.
pub nothing_left : (xs : List Node) (r : Option Node) → (0 < length xs → IsSome r) → ((x : Node) → r ≡ Some x → ⊥) → xs ≡ []
nothing_left [] r h none = refl
nothing_left (y ∷ ys) (Some x) h none = absurd (none x refl)
nothing_left (y ∷ ys) None h none = let e : false ≡ true = h (omega arith) in absurd (cc)

-- ---- a node at which no pair ends, nor before it on its strand

ends_on_strand : (pairs : List OrderPair) (x y : Node) → ReachesAlong pairs x y → ((p : OrderPair) → IsIn p pairs → at_or_after p.later y ≡ false) → at_or_after x y ≡ true
ends_on_strand pairs x y (on_strand a) none = true_after x y a
ends_on_strand pairs x y (over_pair {p} m a l) none =
    let e : at_or_after p.later y ≡ true = ends_on_strand pairs p.later y l none in
    absurd (let f : at_or_after p.later y ≡ false = none p m in cc)

-- Where no pair ends at a node or before it, what reaches the node is at it or before it on its strand.
pub reached_alone : (pairs : List OrderPair) (x y : Node) (b : Bool) → b ≡ at_or_after x y → any_pair (λ p. at_or_after p.later y) pairs ≡ false → (b ≡ true) ↔ ReachesAlong pairs x y
reached_alone pairs x y b is none = (
  λ h. on_strand (after_true x y (sym is ∙ h)),
  λ r. is ∙ ends_on_strand pairs x y r (λ p m. none_in (λ q. at_or_after q.later y) pairs p none m),
)

pub alone : (pairs : List OrderPair) (y : Node) (old new : Tops) → ((s : ℕ) → old s ≡ None) → ((s : ℕ) → new s ≡ (if s == y.strand then Some y.index else old s)) → any_pair (λ p. at_or_after p.later y) pairs ≡ false → AreTops pairs y new
alone pairs y old new empty put none x = (
  λ h. on_strand (after_true x y (sym (under x) ∙ h)),
  λ r. under x ∙ ends_on_strand pairs x y r (λ p m. none_in (λ q. at_or_after q.later y) pairs p none m),
)
  where
    by : (z : Node) (b : Bool) → is_within (if b then Some y.index else old z.strand) z.index ≡ (b && nat_le z.index y.index)
    by z true = refl
    by z false = ap (λ top. is_within top z.index) (empty z.strand)

    under : (z : Node) → is_under_tops new z ≡ at_or_after z y
    under z = ap (λ top. is_within top z.index) (put z.strand) ∙ by z (z.strand == y.strand)

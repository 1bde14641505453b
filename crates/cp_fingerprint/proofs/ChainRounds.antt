-- Weights that are raised along one pair after another.
use Rattle.std.proofs.Common.{◌≡◌, ◌≢◌, ◌⊎◌, inl, inr, ℕ, zero, suc, ◌+◌, ◌-◌, ◌<◌, ◌≤◌, ◌^◌, ◌||◌, Bool, true, false, List, [], ◌∷◌, ◌++◌, length, get_or, set, length-set, take, drop, refl, sym, ap, ◌∙◌, subst, add-one, arith, ⊎_elim}
use Rattle.std.proofs.Math.Seq.{drop-cons}
use Rattle.std.proofs.lemmas.Bool.{cases_eq}
use Rattle.cp_lists.specs.Lists.{IsIn, here}
use Rattle.cp_lists.proofs.Members.{in_cases, in_pushed, not_in_none, only_item}
use Rattle.cp_model.specs.declared.node.OrderPair.{OrderPair}
use Rattle.cp_fingerprint.specs.SharedValues.{kept}
use Rattle.cp_fingerprint.specs.ChainTable.{place_on, place_in, weight_on, weight_in, EndWithin, RisesAlong, Bounds, IsBelow, room, IsRisen, Raises, Settles}

pub risen_more : (starts : List ℕ) (pairs : List OrderPair) (old mid new : List ℕ) → IsRisen starts pairs old mid → IsRisen starts pairs mid new → IsRisen starts pairs old new
risen_more starts pairs old mid new g h = record { count = h.count ∙ g.count; below = λ bound bounds b. h.below bound bounds (g.below bound bounds b) }

-- ---- one weight in another's place

get_set : (ws : List ℕ) (i n p : ℕ) → i < length ws → (i ≡ p) ⊎ (i ≢ p) → ((i ≡ p) × (get_or (set ws i n) p 0 ≡ n)) ⊎ (get_or (set ws i n) p 0 ≡ get_or ws p 0)
get_set [] i n p l c = absurd (omega (arith, l))
get_set (w ∷ ws) zero n zero l c = inl (refl, refl)
get_set (w ∷ ws) zero n (suc p) l c = inr refl
get_set (w ∷ ws) (suc i) n zero l c = inr refl
get_set (w ∷ ws) (suc i) n (suc p) l c = ⊎_elim (λ h. inl (ap suc h.0, h.1)) inr (get_set ws i n p (omega (arith, l)) (cases_eq i p))

set_room : (ws : List ℕ) (i n : ℕ) → i < length ws → get_or ws i 0 < n → n < 2 ^ 64 → room (set ws i n) < room ws
set_room [] i n l less small = absurd (omega (arith, l))
set_room (w ∷ ws) zero n l less small = omega (arith, less, small)
set_room (w ∷ ws) (suc i) n l less small = let h = set_room ws i n (omega (arith, l)) less small in omega (arith, h)

-- ---- weights below a bound

-- So is what they make of the places behind them on a strand.
pub weight_below : (ws : List ℕ) (bound : ℕ → ℕ) (start n : ℕ) → IsBelow ws bound → ((i : ℕ) → i < n → kept (bound (place_on start i) + 1) ≤ bound (place_on start (suc i))) → (i : ℕ) → i ≤ n → weight_on ws start i ≤ bound (place_on start i)
weight_below ws bound start n below rises zero le = below (place_on start 0)
weight_below ws bound start n below rises (suc i) le =
    let own = below (place_on start (suc i)) in
    let before = weight_below ws bound start n below rises i (omega (arith, le)) in
    let up = rises i (omega (arith, le)) in
    omega (arith, own, before, up)

-- ---- along one pair

module _ (starts : List ℕ) (p : OrderPair) (ws : List ℕ) where
  -- Where the weights rise along it none is raised.
  pub not_raised : RisesAlong starts ws p → Raises starts (p ∷ []) ws ws false
  not_raised le = record {
    risen = record { count = refl; below = λ bound bounds b. b };
    settled = λ e q m. subst (RisesAlong starts ws) (sym (only_item m)) le;
    same = λ e. refl;
    fewer = λ e. absurd (cc);
  }

  module _ (weight place : ℕ) (is : weight ≡ kept (weight_in starts ws p.earlier + 1)) (at : place ≡ place_in starts p.later) (there_is : place < length ws) (less : get_or ws place 0 < weight) where
    abbrev raised : List ℕ
    raised = set ws place weight

    stays_below : (bound : ℕ → ℕ) → ((q : OrderPair) → IsIn q (p ∷ []) → Bounds starts bound q) → IsBelow ws bound → IsBelow raised bound
    stays_below bound bounds below n = by (get_set ws place weight n there_is (cases_eq place n))
      where
        by : ((place ≡ n) × (get_or raised n 0 ≡ weight)) ⊎ (get_or raised n 0 ≡ get_or ws n 0) → get_or raised n 0 ≤ bound n
        by (inl q) =
            let e : get_or raised n 0 ≡ weight = q.1 in
            let own = weight_below ws bound (get_or starts p.earlier.strand 0) p.earlier.index below (bounds p here).along_strand p.earlier.index (omega arith) in
            let up = (bounds p here).along_pair in
            let here_is : bound (place_in starts p.later) ≡ bound n = ap bound (sym at ∙ q.0) in
            omega (arith, e, is, up, own, here_is)
        by (inr e) = let own : get_or ws n 0 ≤ bound n = below n in omega (arith, e, own)

    -- Elsewhere the weight at the place of its later node is raised.
    pub is_raised : Raises starts (p ∷ []) ws raised true
    is_raised = record {
      risen = record { count = length-set ws place weight; below = stays_below };
      settled = λ e. absurd (cc);
      same = λ e. absurd (cc);
      fewer = λ e. set_room ws place weight there_is less (omega (arith, is));
    }

-- ---- along one pair after another

-- Weights were raised along the pairs but for the rest; unless one rose, they stayed the same, and rise along each of these.
pub record RaisesBut (starts : List ℕ) (pairs rest : List OrderPair) (old new : List ℕ) (rose : Bool) : Type 0 where
  pub risen : IsRisen starts pairs old new
  pub settled : rose ≡ false → (p : OrderPair) → IsIn p pairs → IsIn p rest ⊎ RisesAlong starts new p
  pub same : rose ≡ false → new ≡ old
  pub no_more : room new ≤ room old
  pub fewer : rose ≡ true → room new < room old

pub none_raised : (starts : List ℕ) (pairs : List OrderPair) (old : List ℕ) → RaisesBut starts pairs pairs old old false
none_raised starts pairs old = record {
  risen = record { count = refl; below = λ bound bounds b. b };
  settled = λ e p i. inl i;
  same = λ e. refl;
  no_more = omega arith;
  fewer = λ e. absurd (cc);
}

-- The place of a pair's later node is one of the table.
pub place_there : (starts : List ℕ) (pairs rest : List OrderPair) (p : OrderPair) (old new : List ℕ) (rose : Bool) → IsIn p pairs → EndWithin (length old) starts pairs → RaisesBut starts pairs rest old new rose → place_in starts p.later < length new
place_there starts pairs rest p old new rose listed within h = let l = within p listed in let e = h.risen.count in omega (arith, l, e)

neither : (a b : Bool) → (a || b) ≡ false → (a ≡ false) × (b ≡ false)
neither true b e = absurd (cc)
neither false b e = (refl, e)

either : (a b : Bool) → (a || b) ≡ true → (a ≡ true) ⊎ (b ≡ true)
either true b e = inl refl
either false b e = inr e

never_more : (starts : List ℕ) (pairs : List OrderPair) (old new : List ℕ) (rose : Bool) → Raises starts pairs old new rose → room new ≤ room old
never_more starts pairs old new true h = let l = h.fewer refl in omega (arith, l)
never_more starts pairs old new false h = let e : room new ≡ room old = ap room (h.same refl) in omega (arith, e)

-- One of the rest is taken.
pub one_raised : (starts : List ℕ) (pairs rest left : List OrderPair) (p : OrderPair) (old mid new : List ℕ) (rose more : Bool) → ((q : OrderPair) → IsIn q rest → IsIn q left ⊎ (p ≡ q)) → IsIn p pairs →
    RaisesBut starts pairs rest old mid rose → Raises starts (p ∷ []) mid new more → RaisesBut starts pairs left old new (rose || more)
one_raised starts pairs rest left p old mid new rose more others listed h r = record {
  risen = record {
    count = r.risen.count ∙ h.risen.count;
    below = λ bound bounds b. r.risen.below bound (λ q m. subst (Bounds starts bound) (sym (only_item m)) (bounds p listed)) (h.risen.below bound bounds b);
  };
  settled = λ e q m.
      let n = neither rose more e in
      ⊎_elim (λ there_is. ⊎_elim inl (λ s. inr (subst (RisesAlong starts new) s (r.settled n.1 p here))) (others q there_is)) (λ rises. inr (subst (λ (ws : List ℕ). RisesAlong starts ws q) (sym (r.same n.1)) rises)) (h.settled n.0 q m);
  same = λ e. let n = neither rose more e in r.same n.1 ∙ h.same n.0;
  no_more = let l = h.no_more in let m = never_more starts (p ∷ []) mid new more r in omega (arith, l, m);
  fewer = λ e.
      let l = h.no_more in
      let m = never_more starts (p ∷ []) mid new more r in
      ⊎_elim (λ t. let less = h.fewer t in omega (arith, less, m)) (λ t. let less = r.fewer t in omega (arith, less, l)) (either rose more e);
}

pub all_raised : (starts : List ℕ) (pairs rest : List OrderPair) (old new : List ℕ) (rose : Bool) → rest ≡ [] → RaisesBut starts pairs rest old new rose → Raises starts pairs old new rose
all_raised starts pairs rest old new rose none h = record {
  risen = h.risen;
  settled = λ e p m. ⊎_elim (λ left. absurd (not_in_none (subst (IsIn p) none left))) (λ r. r) (h.settled e p m);
  same = h.same;
  fewer = h.fewer;
}

-- ---- which of the rest is taken

-- What is read past the end.
abbrev pub no_pair : OrderPair
no_pair = record { earlier = record { strand = 0; index = 0 }; later = record { strand = 0; index = 0 } }

pub first_or_rest : (ps : List OrderPair) (i : ℕ) (d q : OrderPair) → i < length ps → IsIn q (drop i ps) → IsIn q (drop (i + 1) ps) ⊎ (get_or ps i d ≡ q)
first_or_rest ps i d q l m =
    let e : drop i ps ≡ get_or ps i d ∷ drop (i + 1) ps = drop-cons ps i d l ∙ ap (λ (n : ℕ). get_or ps i d ∷ drop n ps) (sym (add-one i)) in
    ⊎_elim inr inl (in_cases (subst (IsIn q) e m))

last_taken : (ps : List OrderPair) (i : ℕ) (d : OrderPair) → i < length ps → take (suc i) ps ≡ take i ps ++ get_or ps i d ∷ []
last_taken [] i d l = absurd (omega (arith, l))
last_taken (p ∷ ps) zero d l = refl
last_taken (p ∷ ps) (suc i) d l = ap (λ (qs : List OrderPair). p ∷ qs) (last_taken ps i d (omega (arith, l)))

pub last_or_rest : (ps : List OrderPair) (n : ℕ) (d q : OrderPair) → 0 < n → n ≤ length ps → IsIn q (take n ps) → IsIn q (take (n - 1) ps) ⊎ (get_or ps (n - 1) d ≡ q)
last_or_rest ps n d q some le m =
    let e : suc (n - 1) ≡ n = omega (arith, some) in
    in_pushed (take (n - 1) ps) (get_or ps (n - 1) d) q (subst (IsIn q) (ap (λ (j : ℕ). take j ps) (sym e) ∙ last_taken ps (n - 1) d (omega (arith, some, le))) m)

-- ---- one round after another

pub settled_by : (starts : List ℕ) (pairs : List OrderPair) (old mid new : List ℕ) (rose : Bool) → rose ≡ false → IsRisen starts pairs old mid → Raises starts pairs mid new rose → Settles starts pairs old new
settled_by starts pairs old mid new rose none h r = record { risen = risen_more starts pairs old mid new h r.risen; settled = r.settled none }

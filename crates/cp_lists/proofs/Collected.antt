-- What a list holds that is collected from the calls of a closure that may fail.
use Rattle.std.proofs.Common.{refl, ◌≡◌, sym, subst, ap, ◌∙◌, [], ◌∷◌, map, IfOk, ℕ, suc, ◌+◌, ◌<◌, length, length-append, ◌≤◌, true, List, get_or, Bor, Iter, arith}
use Rattle.std.specs.Prelude.{◌++◌, IfSome}
use Rattle.std.specs.Iterator.Runs.{EachRunFrom, SomeRun, WholeRun, IsMapRun, IsTryCollectRun, ItemsMapTo, YieldsRefsInOrder}
use Rattle.std.specs.Iterator.Adapters.{map_steps, map_source, map_callee}
use Rattle.std.specs.Option.{option_map, IsSomeAnd, IsSomeRelated, unwrap_or}
use Rattle.std.specs.declared.option.Option.{Option}
use Rattle.std.specs.declared.option.Option.TheVariants.{Some, None}
use Rattle.std.specs.declared.result.Result.{Result}
use Rattle.std.specs.declared.result.Result.TheVariants.{Ok, Err}
use Rattle.std.specs.declared.iter.Map.{Map}
use Rattle.std.specs.declared.vec.Vec.{Vec}
use Rattle.std.specs.Vec.{vec_len, vec_capacity}
use Rattle.std.specs.Slice.Iter.{iter_steps, iter_rest}
use Rattle.std.specs.Fn.{Called}
use denote.Param.Members.{Mut}
use Rattle.std.specs.Result.{MatchResult, IsOkAnd}
use Rattle.std.proofs.iter.Yields.{fronts}
use Rattle.std.proofs.lemmas.Iterator.{IsCollectResult, maps, items_from_collect, YieldsList-from_map, YieldsList-from_slice}
use Rattle.std.proofs.lemmas.Result.{IfOk-weaker}

-- Lists of one length that are equal place by place.
same_lists : {Y X W : Type 0} (look : Y → W) (h : X → W) (ys : List Y) (xs : List X)
    → length ys ≡ length xs → ((k : ℕ) (d : Y) (e : X) → k < length ys → look (get_or ys k d) ≡ h (get_or xs k e)) → map look ys ≡ map h xs
same_lists look h [] [] long at = refl
same_lists look h [] (x ∷ xs) long at = absurd (omega arith)
same_lists look h (y ∷ ys) [] long at = absurd (omega arith)
same_lists look h (y ∷ ys) (x ∷ xs) long at =
    let rest : map look ys ≡ map h xs = same_lists look h ys xs (omega arith) (λ k d e l. at (suc k) d e (omega arith)) in
    λ i. at 0 y x (omega arith) i ∷ rest i

module _ {S A V E F B W : Type 0} (source : S → Option A → S → Type 0) (g : Mut F (A × Unit {0}) (Result V E)) (f : F) (now : A → B) (look : V → W) (h : B → W) (all : List B)
    (calls : (x : A) (y : Result V E) (q : F) → Called g f (x, tt) y q → (q ≡ f) × IfOk y (λ v. look v ≡ h (now x))) where
  -- One place: what the call gave there.
  at_place : (o : Option (Result V E)) (p : Option A) (y : V) (e : B)
      → IsSomeRelated (λ x y. Ok y ≡ x) o y → IfSome o (λ r. IsSomeAnd p (λ x. Called g f (x, tt) r f)) → option_map now p ≡ Some e → look y ≡ h e
  at_place None p y e given called reads = absurd given
  at_place (Some r) None y e given called reads = absurd called
  at_place (Some r) (Some x) y e given called reads =
      let from : look y ≡ h (now x) = subst (λ (r : Result V E). IfOk r (λ v. look v ≡ h (now x))) (sym given) (calls x r f called).1 in
      from ∙ ap h (ap (λ o. unwrap_or o e) reads)

  module _ {C : Type 0} (items_of : C → List V) (collects : List V → C → Type 0) (extends : C → List V → C → Type 0)
      (lists : (xs : List V) (v : C) → collects xs v → items_of v ≡ xs)
      (more : (xs : List V) (v : C) (x : V) (w : C) → collects xs v → extends v (x ∷ []) w → collects (xs ++ (x ∷ [])) w) where
    pub collected : (m : Map S F) (s : S) (r : Result C E)
        → IfOk r (λ v. WholeRun (map_steps source g) m (λ p. IsTryCollectRun p (λ s r. r ≡ s) collects extends v))
        → EachRunFrom (map_steps source g) m (λ p. SomeRun source s (λ q. IsMapRun p q g f))
        → EachRunFrom source s (λ q. ItemsMapTo q now all)
        → IfOk r (λ v. map look (items_of v) ≡ map h all)
    collected m s (Err e) runs maps items = tt
    collected m s (Ok v) runs maps items =
        let p : _ = runs.0 in
        let mapped : _ = maps p p.seen runs.1 in
        let q : _ = mapped.0 in
        let behind : _ = mapped.2 in
        let whole : q.whole ≡ true = behind.0 ∙ runs.2 in
        let told : _ = items q q.seen mapped.1 in
        let gave : _ = runs.3 more in
        ap (map look) (lists gave.0 v gave.1) ∙ same_lists look h gave.0 all (gave.2 ∙ behind.1 ∙ told.1 whole)
        (λ k d e l. at_place (p.at k) (q.at k) (get_or gave.0 k d) (get_or all k e) (gave.3 k d (omega arith))
        ((behind.2 (λ a r f' c. (calls a.0 r f' c).0)).1 k) (told.2 k e (omega arith)))

-- What a vector says that it was collected from these items, and that items were appended to it.
module _ {V Z : Type 0} where
  abbrev IsOf : List V → Vec V Z → Type 0
  IsOf xs v = (v.items ≡ xs) × (vec_len v ≡ length xs)

  abbrev Extends : Vec V Z → List V → Vec V Z → Type 0
  Extends v xs w = (w.items ≡ v.items ++ xs) × (vec_len w ≡ vec_len v + length xs) × (vec_capacity v ≤ vec_capacity w)

-- From a slice into a vector: what the clauses of `iter`, `map` and `try_collect` say.
pub collected_from_slice : {B V E F W Z : Type 0} {g : Mut F (Bor B × Unit {0}) (Result V E)} {f : F} {m : Map (Iter B) F} {s : Iter B}
    (look : V → W) (h : B → W) (all : List B) (r : Result (Vec V Z) E)
    → ((x : Bor B) (y : Result V E) (q : F) → Called g f (x, tt) y q → (q ≡ f) × IfOk y (λ v. look v ≡ h x.now))
    → IfOk r (λ v. WholeRun (map_steps iter_steps g) m (λ p. IsTryCollectRun p (λ s r. r ≡ s) IsOf Extends v))
    → EachRunFrom (map_steps iter_steps g) m (λ p. SomeRun iter_steps s (λ q. IsMapRun p q g f))
    → YieldsRefsInOrder {A = B} iter_steps iter_rest → iter_rest s ≡ all
    → IfOk r (λ v. map look v.items ≡ map h all)
collected_from_slice {g = g} {f} look h all r calls runs maps items rest =
    collected iter_steps g f (λ x. x.now) look h all calls (λ v. v.items) IsOf Extends (λ xs v e. e.0)
    (λ xs v x w a b. (b.0 ∙ ap (λ l. l ++ x ∷ []) a.0, b.1 ∙ ap (λ n. n + 1) a.1 ∙ sym (length-append xs (x ∷ [])))) _ _ r runs maps
    (λ q seen from. subst (λ l. ItemsMapTo q (λ y. y.now) l) (ap iter_rest from ∙ rest) (items q seen))

-- A list under the function that changes nothing.
map_same : {A : Type 0} (xs : List A) → map (λ x. x) xs ≡ xs
map_same [] = refl
map_same (x ∷ xs) = ap (λ l. x ∷ l) (map_same xs)

-- The same where contracts see the items as they are.
pub collected_plain : {B V E F Z : Type 0} {g : Mut F (Bor B × Unit {0}) (Result V E)} {f : F} {m : Map (Iter B) F} {s : Iter B}
    (h : B → V) (all : List B) (r : Result (Vec V Z) E)
    → ((x : Bor B) (y : Result V E) (q : F) → Called g f (x, tt) y q → (q ≡ f) × IfOk y (λ v. v ≡ h x.now))
    → IfOk r (λ v. WholeRun (map_steps iter_steps g) m (λ p. IsTryCollectRun p (λ s r. r ≡ s) IsOf Extends v))
    → EachRunFrom (map_steps iter_steps g) m (λ p. SomeRun iter_steps s (λ q. IsMapRun p q g f))
    → YieldsRefsInOrder {A = B} iter_steps iter_rest → iter_rest s ≡ all
    → IfOk r (λ v. v.items ≡ map h all)
collected_plain h all (Err e) calls runs maps items rest = tt
collected_plain h all (Ok v) calls runs maps items rest = sym (map_same v.items) ∙ collected_from_slice (λ v. v) h all (Ok v) calls runs maps items rest

pub copied_from_slice : {B E F Z : Type 0} {g : Mut F (Bor B × Unit {0}) (Result B E)} {f : F} {m : Map (Iter B) F} {s : Iter B}
    (all : List B) (r : Result (Vec B Z) E)
    → ((x : Bor B) (y : Result B E) (q : F) → Called g f (x, tt) y q → (q ≡ f) × IfOk y (λ v. v ≡ x.now))
    → IfOk r (λ v. WholeRun (map_steps iter_steps g) m (λ p. IsTryCollectRun p (λ s r. r ≡ s) IsOf Extends v))
    → EachRunFrom (map_steps iter_steps g) m (λ p. SomeRun iter_steps s (λ q. IsMapRun p q g f))
    → YieldsRefsInOrder {A = B} iter_steps iter_rest → iter_rest s ≡ all
    → IfOk r (λ v. v.items ≡ all)
copied_from_slice all r calls runs maps items rest =
    IfOk-weaker r _ _ (λ v e. e ∙ map_same all) (collected_plain (λ x. x) all r calls runs maps items rest)

-- The same where an item is made of what is seen of the slice's.
map_seen : {B C V : Type 0} (make : C → V) (see : B → C) (all : List B) → map (λ x. make (see x)) all ≡ map make (map see all)
map_seen make see [] = refl
map_seen make see (x ∷ xs) = ap (λ ws. make (see x) ∷ ws) (map_seen make see xs)

pub made_from_slice : {B C V E F Z : Type 0} {g : Mut F (Bor B × Unit {0}) (Result V E)} {f : F} {m : Map (Iter B) F} {s : Iter B}
    (make : C → V) (see : B → C) (all : List B) (r : Result (Vec V Z) E)
    → ((x : Bor B) (y : Result V E) (q : F) → Called g f (x, tt) y q → (q ≡ f) × IfOk y (λ v. v ≡ make (see x.now)))
    → IfOk r (λ v. WholeRun (map_steps iter_steps g) m (λ p. IsTryCollectRun p (λ s r. r ≡ s) IsOf Extends v))
    → EachRunFrom (map_steps iter_steps g) m (λ p. SomeRun iter_steps s (λ q. IsMapRun p q g f))
    → YieldsRefsInOrder {A = B} iter_steps iter_rest → iter_rest s ≡ all
    → IfOk r (λ v. v.items ≡ map make (map see all))
made_from_slice make see all r calls runs maps items rest =
    IfOk-weaker r _ _ (λ v e. sym (map_same v.items) ∙ e ∙ map_seen make see all) (collected_from_slice (λ v. v) (λ x. make (see x)) all r calls runs maps items rest)

-- Items of a slice, from a closure that cannot fail.
pub all_from_slice : {B C V E F Z : Type 0} {g : Mut F (Bor B × Unit {0}) V} {f : F} (s : Map (Iter B) F) (make : C → V) (see : B → C) (all : List B) (r : Result (Vec V Z) E)
    → IsCollectResult (maps fronts g) s r → iter_rest (map_source s) ≡ all → map_callee s ≡ f → ((x : Bor B) (y : V) (q : F) → Called g f (x, tt) y q → (q ≡ f) × (y ≡ make (see x.now)))
    → IfOk r (λ v. v.items ≡ map make (map see all))
all_from_slice {g = g} s make see all r ran source closure calls =
    IfOk-weaker r _ _ (λ v e. e ∙ map_seen make see all) (items_from_collect r ran (YieldsList-from_map g (λ x. make (see x)) (YieldsList-from_slice all source) closure calls))

-- The value of a call under a function.
pub ok_mapped : {T U E : Type 0} {P : T → Type 0} {Q : U → Type 0} {post : T → U → Type 0} (r : Result T E) (s : Result U E)
    → IfOk r P → MatchResult r (λ x. IsOkAnd s (post x)) (λ e. s ≡ Err e) → ((x : T) → P x → (y : U) → post x y → Q y) → IfOk s Q
ok_mapped (Ok x) (Ok y) p h f = f x p y h
ok_mapped (Ok x) (Err e) p h f = absurd h
ok_mapped (Err e) (Ok y) p h f = absurd (cc)
ok_mapped (Err e) (Err d) p h f = tt

-- The same, the step first.
pub if_mapped : {T U E : Type 0} {P : T → Type 0} {R : T → U → Type 0} {Q : U → Type 0} (r : Result T E) (s : Result U E) → ((x : T) (y : U) → P x → R x y → Q y) → IfOk r P → MatchResult r (λ x. IsOkAnd s (R x)) (λ e. s ≡ Err e) → IfOk s Q
if_mapped r s step h cases = ok_mapped r s h cases (λ x p y q. step x y p q)

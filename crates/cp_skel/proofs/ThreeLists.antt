-- Assumptions that are made of three lists, each of which may fail to be made.
use Rattle.std.proofs.Common.{◌≡◌, List, IfOk, MatchResult}
use Rattle.std.specs.Result.{IsOkAnd}
use Rattle.std.specs.declared.result.Result.{Result}
use Rattle.std.specs.declared.result.Result.TheVariants.{Ok, Err}
use Rattle.cp_model.specs.Term.{AtomTerm}
use Rattle.cp_model.specs.Skeleton.{UniqueAt, Assumptions}
use Rattle.cp_skel.specs.JoinedAssumptions.{joined_assumptions}

-- Assumptions with three lists behind them, which are those of others.
pub joined_lists : (own more : Assumptions) (ns ps : List AtomTerm) (us : List UniqueAt) → ns ≡ more.non_originating → ps ≡ more.penetrator_non_originating → us ≡ more.uniquely_originating →
    joined_assumptions own (record { non_originating = ns; penetrator_non_originating = ps; uniquely_originating = us }) ≡ joined_assumptions own more
joined_lists own more ns ps us non penetrator_non unique = λ i. joined_assumptions own (record { non_originating = non i; penetrator_non_originating = penetrator_non i; uniquely_originating = unique i })

-- What two facts say of one value.
pub both_said : {V E : Type 0} {P Q : V → Type 0} (x : Result V E) → IfOk x P → IsOkAnd x Q → (v : V) × P v × Q v
both_said (Ok v) p q = (v, p, q)
both_said (Err e) p q = absurd q

-- What is said of each of the lists is said of the assumptions.
pub of_lists : {K L M A E F G H : Type 0} {P : K → Type 0} {Q : L → Type 0} {R : M → Type 0} {X : A → K → Type 0} {Y : A → L → Type 0} {Z : A → M → Type 0} {W : A → Type 0}
    (x : Result K E) (y : Result L F) (z : Result M G) (r : Result A H) →
    IfOk x P → IfOk y Q → IfOk z R →
    IfOk r (λ a. IsOkAnd x (X a)) → IfOk r (λ a. IsOkAnd y (Y a)) → IfOk r (λ a. IsOkAnd z (Z a)) →
    ((u : K) (v : L) (w : M) (a : A) → P u → Q v → R w → X a u → Y a v → Z a w → W a) → IfOk r W
of_lists x y z (Err e) p q s h i j f = tt
of_lists (Ok u) (Ok v) (Ok w) (Ok a) p q s h i j f = f u v w a p q s h i j
of_lists (Err e) y z (Ok a) p q s h i j f = absurd h
of_lists (Ok u) (Err e) z (Ok a) p q s h i j f = absurd i
of_lists (Ok u) (Ok v) (Err e) (Ok a) p q s h i j f = absurd j

-- The same where the third list is there.
pub of_two : {K L A E F H : Type 0} {P : K → Type 0} {Q : L → Type 0} {X : A → K → Type 0} {Y : A → L → Type 0} {Z W : A → Type 0}
    (x : Result K E) (y : Result L F) (r : Result A H) →
    IfOk x P → IfOk y Q →
    IfOk r (λ a. IsOkAnd x (X a)) → IfOk r (λ a. IsOkAnd y (Y a)) → IfOk r Z →
    ((u : K) (v : L) (a : A) → P u → Q v → X a u → Y a v → Z a → W a) → IfOk r W
of_two x y (Err e) p q h i j f = tt
of_two (Ok u) (Ok v) (Ok a) p q h i j f = f u v a p q h i j
of_two (Err e) y (Ok a) p q h i j f = absurd h
of_two (Ok u) (Err e) (Ok a) p q h i j f = absurd i

-- What is said of the whole by what was made of a part is said of it by the part.
pub by_part : {K L A E H : Type 0} {M : K → L → Type 0} {X : A → L → Type 0} {Y : A → K → Type 0}
    (x : Result K E) (y : Result L E) (r : Result A H) →
    MatchResult x (λ u. IsOkAnd y (M u)) (λ e. y ≡ Err e) → IfOk r (λ a. IsOkAnd y (X a)) →
    ((u : K) (v : L) (a : A) → M u v → X a v → Y a u) → IfOk r (λ a. IsOkAnd x (Y a))
by_part x y (Err e) made h step = tt
by_part (Ok u) (Ok v) (Ok a) made h step = step u v a made h
by_part (Ok u) (Err e) (Ok a) made h step = absurd h
by_part (Err e) (Ok v) (Ok a) made h step = absurd (cc)
by_part (Err e) (Err d) (Ok a) made h step = absurd h

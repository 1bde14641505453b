-- Nodes to which pairs lead, and which are before others on their strands.
use Rattle.std.proofs.Common.{◌≡◌, List, [], ◌∷◌, ◌++◌, Bool, true, false, ◌&&◌, ◌||◌, cond, map, refl, sym, ap, ◌∙◌}
use Rattle.std.specs.List.{filter, list_any}
use Rattle.cp_model.specs.Same.{same_node}
use Rattle.cp_model.specs.declared.node.Node.{Node}
use Rattle.cp_model.specs.declared.node.OrderPair.{OrderPair}
use Rattle.cp_general.specs.CoveringPairs.{led_to, predecessors_of, lasts_of, is_earlier_on_strand, is_below_one, some_is_below, is_covered}

pub some_led : (ps : List OrderPair) (x : Node) (ys : List Node) → some_is_below (led_to ps x) ys ≡ list_any (λ p. same_node p.earlier x && is_below_one p.later ys) ps
some_led [] x ys = refl
some_led (p ∷ ps) x ys = by_test (same_node p.earlier x) (some_led ps x ys)
  where
    by_test : (b : Bool) → some_is_below (led_to ps x) ys ≡ list_any (λ q. same_node q.earlier x && is_below_one q.later ys) ps
        → some_is_below (map (λ q. q.later) (cond b (p ∷ filter (λ q. same_node q.earlier x) ps) (filter (λ q. same_node q.earlier x) ps))) ys
        ≡ ((b && is_below_one p.later ys) || list_any (λ q. same_node q.earlier x && is_below_one q.later ys) ps)
    by_test true rest = ap (λ (r : Bool). is_below_one p.later ys || r) rest
    by_test false rest = rest

or_joined : (a b c : Bool) → (a || (b || c)) ≡ ((a || b) || c)
or_joined true b c = refl
or_joined false b c = refl

or_none : (b : Bool) → (b || false) ≡ b
or_none true = refl
or_none false = refl

below_pushed : (xs : List Node) (x : Node) (ys : List Node) → some_is_below (xs ++ x ∷ []) ys ≡ (some_is_below xs ys || is_below_one x ys)
below_pushed [] x ys = or_none (is_below_one x ys)
below_pushed (z ∷ xs) x ys = ap (λ (r : Bool). is_below_one z ys || r) (below_pushed xs x ys) ∙ or_joined (is_below_one z ys) (some_is_below xs ys) (is_below_one x ys)

-- the nodes from which pairs lead to one, and that
some_below : (ps : List OrderPair) (y x : Node) → is_below_one x (predecessors_of ps y) ≡ list_any (λ p. same_node p.later y && is_earlier_on_strand x p.earlier) ps
some_below [] y x = refl
some_below (p ∷ ps) y x = by_test (same_node p.later y) (some_below ps y x)
  where
    by_test : (b : Bool) → is_below_one x (predecessors_of ps y) ≡ list_any (λ q. same_node q.later y && is_earlier_on_strand x q.earlier) ps
        → is_below_one x (map (λ q. q.earlier) (cond b (p ∷ filter (λ q. same_node q.later y) ps) (filter (λ q. same_node q.later y) ps)))
        ≡ ((b && is_earlier_on_strand x p.earlier) || list_any (λ q. same_node q.later y && is_earlier_on_strand x q.earlier) ps)
    by_test true rest = ap (λ (r : Bool). is_earlier_on_strand x p.earlier || r) rest
    by_test false rest = rest

one_pushed : (x : Node) (ys : List Node) (y : Node) → is_below_one x (ys ++ y ∷ []) ≡ (is_below_one x ys || is_earlier_on_strand x y)
one_pushed x [] y = or_none (is_earlier_on_strand x y)
one_pushed x (z ∷ ys) y = ap (λ (r : Bool). is_earlier_on_strand x z || r) (one_pushed x ys y) ∙ or_joined (is_earlier_on_strand x z) (is_below_one x ys) (is_earlier_on_strand x y)

-- A node is before one of these as two tests say; and so a pair is covered.
pub below_last : (ps : List OrderPair) (x y : Node) → is_below_one x (lasts_of ps y) ≡ (list_any (λ p. same_node p.later y && is_earlier_on_strand x p.earlier) ps || is_earlier_on_strand x y)
below_last ps x y = one_pushed x (predecessors_of ps y) y ∙ ap (λ (r : Bool). r || is_earlier_on_strand x y) (some_below ps y x)

pub covered_by : (pairs : List OrderPair) (p : OrderPair) → is_covered pairs p ≡ (some_is_below (led_to pairs p.earlier) (lasts_of pairs p.later) || is_below_one p.earlier (lasts_of pairs p.later))
covered_by pairs p = below_pushed (led_to pairs p.earlier) p.earlier (lasts_of pairs p.later)

-- Two tests, the second of which is asked only where the first says no.
pub first_says : (a b c : Bool) → c ≡ (a || b) → a ≡ true → true ≡ c
first_says a b c is t = sym (is ∙ ap (λ (x : Bool). x || b) t)

pub second_says : (a b c : Bool) → c ≡ (a || b) → a ≡ false → b ≡ c
second_says a b c is f = sym (is ∙ ap (λ (x : Bool). x || b) f)

-- The same where the second is asked before.
or_true : (a : Bool) → (a || true) ≡ true
or_true true = refl
or_true false = refl

pub last_says : (a b c : Bool) → c ≡ (a || b) → b ≡ true → true ≡ c
last_says a b c is t = sym (is ∙ ap (λ (x : Bool). a || x) t ∙ or_true a)

pub others_say : (a b c : Bool) → c ≡ (a || b) → b ≡ false → a ≡ c
others_say a b c is f = sym (is ∙ ap (λ (x : Bool). a || x) f ∙ or_none a)

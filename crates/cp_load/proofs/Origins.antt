-- Tests that are exact, and loops over events.
use Rattle.std.proofs.Common.{◌≡◌, ℕ, suc, ◌+◌, List, [], ◌∷◌, refl, sym, ap, ◌∙◌, arith, Bool, true, false, Option, Some, None, if◌then◌else◌}
use Rattle.cp_model.specs.Term.{Term, IsCarriedByTerm}
use Rattle.cp_model.specs.declared.strand.Event.{Event}
use Rattle.cp_model.specs.Strand.{payload, OriginatesInTerms}
use Rattle.cp_model.specs.declared.strand.Event.TheVariants.{Send as send, Receive as recv}
use Rattle.cp_model.specs.declared.variable.Declaration.{Declaration}
use Rattle.cp_model.specs.Same.{carries, origin_in, one_later}
use Rattle.cp_model.proofs.SameTests.{carried, is_carried}
use Rattle.cp_load.specs.Originations.{place_if_sent}

exact : (r t : Bool) (P : Type 0) → (r ≡ true → P) → (P → r ≡ true) → (t ≡ true → P) → (P → t ≡ true) → r ≡ t
exact true true P f g h i = refl
exact true false P f g h i = sym (i (f refl))
exact false true P f g h i = g (h refl)
exact false false P f g h i = refl

pub exact-carries : (r : Bool) (whole part : Term) → (r ≡ true → IsCarriedByTerm part whole) → (IsCarriedByTerm part whole → r ≡ true) → r ≡ carries whole part
exact-carries r whole part f g = exact r (carries whole part) (IsCarriedByTerm part whole) f g (carried whole part) (is_carried part whole)

-- ---- origins

-- the origin of a value, the first of the events having number n
abbrev pub origin_from : Term → ℕ → List (Event Term) → Option ℕ
origin_from v n [] = None
origin_from v n (e ∷ es) = if carries (payload e) v then place_if_sent e n else origin_from v (suc n) es

plus : ℕ → Option ℕ → Option ℕ
plus n None = None
plus n (Some m) = Some (n + m)

plus_later : (n : ℕ) (o : Option ℕ) → plus n (one_later o) ≡ plus (suc n) o
unfolding plus
plus_later n None = refl
plus_later n (Some m) = ap Some (let h : n + suc m ≡ suc n + m = omega arith in h)

plus_zero : (o : Option ℕ) → o ≡ plus 0 o
unfolding plus
plus_zero None = refl
plus_zero (Some m) = ap Some (let h : m ≡ 0 + m = omega arith in h)

cond_ap : {A B : Type 0} (f : A → B) (b : Bool) (x y : A) → f (if b then x else y) ≡ (if b then f x else f y)
cond_ap f true x y = refl
cond_ap f false x y = refl

origin_plus : (v : Term) (n : ℕ) (es : List (Event Term)) → origin_from v n es ≡ plus n (origin_in es v)
unfolding plus
origin_plus v n [] = refl
origin_plus v n (send m ∷ es) =
    ap (λ o. if carries m v then Some n else o) (origin_plus v (suc n) es ∙ sym (plus_later n (origin_in es v)))
    ∙ ap (λ k. if carries m v then Some k else plus n (one_later (origin_in es v))) (let h : n ≡ n + 0 = omega arith in h)
    ∙ sym (cond_ap (plus n) (carries m v) (Some 0) (one_later (origin_in es v)))
origin_plus v n (recv m ∷ es) =
    ap (λ o. if carries m v then None else o) (origin_plus v (suc n) es ∙ sym (plus_later n (origin_in es v)))
    ∙ sym (cond_ap (plus n) (carries m v) None (one_later (origin_in es v)))

pub origin-first : (v : Term) (es : List (Event Term)) → origin_in es v ≡ origin_from v 0 es
origin-first v es = plus_zero (origin_in es v) ∙ sym (origin_plus v 0 es)

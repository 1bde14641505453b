-- Role strands of a skeleton that embeds in another share values there at least as much.
use Rattle.std.proofs.Common.{◌≡◌, ℕ, suc, ◌+◌, ◌-◌, ◌*◌, ◌/◌, ◌^◌, ◌<◌, ◌≤◌, Bool, true, false, if◌then◌else◌, min, List, [], ◌∷◌, map, refl, sym, ap, ◌∙◌, subst, subst₂, arith, le_refl, ◌⊎◌, inl, inr}
use Rattle.std.specs.Prelude.{Some}
use Rattle.std.proofs.lemmas.Bool.{cases_lt}
use Rattle.std.proofs.Math.Nat.{min-eq_left, min-eq_right, min-le_right, mul-le-mul_left, mul-le-mul}
use Rattle.cp_lists.specs.Lists.{item_at, IsIn}
use Rattle.cp_lists.proofs.Items.{map_of_item}
use Rattle.cp_model.specs.Term.{Term, Substitution, tag_term, atom_term, pair_term, enc_term, text_variable, datum_variable, name_variable, key_term, symmetric_term, asymmetric_term, skey_variable, ltk_term, akey_variable, pubk_term, apply_to, composed, AgreeOnTerms, variable_term}
use Rattle.cp_model.specs.Bindings.{Binding, as_substitution}
use Rattle.cp_model.specs.declared.variable.Variable.{Variable}
use Rattle.cp_model.specs.Strand.{Role, variables_of_trace, variables_of_prefix}
use Rattle.cp_model.specs.declared.strand.Event.{Event}
use Rattle.cp_model.specs.declared.variable.Declaration.{Declaration}
use Rattle.cp_model.specs.Skeleton.{SkeletonStrand, instance, listener, Skeleton}
use Rattle.cp_model.specs.Homomorphism.{SkeletonMap, IsEmbedding, Embeds}
use Rattle.cp_model.specs.Same.{same_term, has_variable}
use Rattle.cp_model.proofs.LawTerms.{term_composed}
use Rattle.cp_model.proofs.LawPrefixes.{variables_of_higher}
use Rattle.cp_model.proofs.SameTests.{variable_in, in_has_variable}
use Rattle.cp_term.proofs.SameTerms.{same_Decides}
use Rattle.cp_fingerprint.specs.SharedValues.{place_weight, text_number, value_slots, declared_variable, declared_slots, strand_slots, strung, slots_of, listened, heard_weight, kept, weight_from, named_from, value_weight, part_of, share_from, steepened, steep_share, turned, light_share, added_from, bucket_key_of, light_share_of}
use Rattle.cp_fingerprint.specs.Slots.{Slot}
use Rattle.cp_fingerprint.proofs.Listened.{heard_more, heard_within}
use Rattle.cp_fingerprint.proofs.StrandSums.{sum_of, sum_append, sum_map, total_map, GoesToMore, GoApart, no_more_in_all}

-- ---- numbers that are kept within a bound

min_of_kept : (m a b : ℕ) → min (min a m + b) m ≡ min (a + b) m
min_of_kept m a b = by (cases_lt a m)
  where
    by : (a < m) ⊎ (m ≤ a) → min (min a m + b) m ≡ min (a + b) m
    by (inl l) = let le : a ≤ m = omega (arith, l) in ap (λ (n : ℕ). min (n + b) m) (min-eq_left le)
    by (inr l) =
        let one : m ≤ m + b = omega arith in
        let other : m ≤ a + b = omega (arith, l) in
        ap (λ (n : ℕ). min (n + b) m) (min-eq_right l) ∙ (min-eq_right one ∙ sym (min-eq_right other))

min_no_more : (m a b : ℕ) → a ≤ b → min a m ≤ min b m
min_no_more m a b le = by (cases_lt b m)
  where
    by : (b < m) ⊎ (m ≤ b) → min a m ≤ min b m
    by (inl l) =
        let one : min a m ≡ a = min-eq_left (let h : a ≤ m = omega (arith, l, le) in h) in
        let other : min b m ≡ b = min-eq_left (let h : b ≤ m = omega (arith, l) in h) in
        omega (arith, le, one, other)
    by (inr l) =
        let one : min a m ≤ m = min-le_right a m in
        let other : min b m ≡ m = min-eq_right l in
        omega (arith, one, other)

module _ (m : ℕ) where
  -- A sum that is kept within the bound as it grows.
  abbrev bounded_from : {A : Type 0} → (A → ℕ) → ℕ → List A → ℕ
  bounded_from w n [] = n
  bounded_from w n (x ∷ xs) = bounded_from w (min (n + w x) m) xs

  bounded_is : {A : Type 0} (w : A → ℕ) (n : ℕ) (xs : List A) → min (bounded_from w n xs) m ≡ min (n + sum_of w xs) m
  bounded_is w n [] = let e : n ≡ n + 0 = omega arith in ap (λ (k : ℕ). min k m) e
  bounded_is w n (x ∷ xs) =
      let e : (n + w x) + sum_of w xs ≡ n + (w x + sum_of w xs) = omega arith in
      bounded_is w (min (n + w x) m) xs ∙ (min_of_kept m (n + w x) (sum_of w xs) ∙ ap (λ (k : ℕ). min k m) e)

  bounded_within : {A : Type 0} (w : A → ℕ) (n : ℕ) (xs : List A) → n ≤ m → bounded_from w n xs ≤ m
  bounded_within w n [] l = l
  bounded_within w n (x ∷ xs) l = bounded_within w (min (n + w x) m) xs (min-le_right (n + w x) m)

  bounded_sum : {A : Type 0} (w : A → ℕ) (xs : List A) → bounded_from w 0 xs ≡ min (sum_of w xs) m
  bounded_sum w xs =
      let l : 0 ≤ m = omega arith in
      let e : 0 + sum_of w xs ≡ sum_of w xs = omega arith in
      sym (min-eq_left (bounded_within w 0 xs l)) ∙ (bounded_is w 0 xs ∙ ap (λ (k : ℕ). min k m) e)

-- ---- the numbers are sums that are kept within a bound

abbrev bound : ℕ
bound = 2 ^ 64 - 1

-- The weight of a place, if this value stands there.
abbrev here : Term → Slot → ℕ
here t x = if same_term x.value t then x.weight else 0

weight_is : (n : ℕ) (t : Term) (xs : List Slot) → n ≤ bound → weight_from n t xs ≡ bounded_from bound (here t) n xs
weight_is n t [] l = refl
weight_is n t (x ∷ xs) l = step (λ k h. weight_is k t xs h) (same_term x.value t)
  where
    step : ((k : ℕ) → k ≤ bound → weight_from k t xs ≡ bounded_from bound (here t) k xs) → (c : Bool) →
        weight_from (if c then kept (n + x.weight) else n) t xs ≡ bounded_from bound (here t) (min (n + (if c then x.weight else 0)) bound) xs
    step rest true = rest (kept (n + x.weight)) (min-le_right (n + x.weight) bound)
    step rest false =
        let z : n + 0 ≡ n = omega arith in
        let e : min (n + 0) bound ≡ n = ap (λ (k : ℕ). min k bound) z ∙ min-eq_left l in
        rest n l ∙ ap (λ (k : ℕ). bounded_from bound (here t) k xs) (sym e)

weight_sum : (n : ℕ) (t : Term) (xs : List Slot) → n ≤ bound → weight_from n t xs ≡ kept (n + sum_of (here t) xs)
weight_sum n t xs l = weight_is n t xs l ∙ (sym (min-eq_left (bounded_within bound (here t) n xs l)) ∙ bounded_is bound (here t) n xs)

-- A weight to which the weight of the places is added afterwards.
pub weight_with : (n : ℕ) (t : Term) (xs : List Slot) → n ≤ 2 ^ 64 - 1 → kept (n + weight_from 0 t xs) ≡ weight_from n t xs
weight_with n t xs l =
    let w : ℕ = sum_of (here t) xs in
    let none : 0 ≤ bound = omega arith in
    let alone : weight_from 0 t xs ≡ min (0 + w) bound = weight_sum 0 t xs none in
    let turned : n + weight_from 0 t xs ≡ min (0 + w) bound + n = omega (arith, alone) in
    let together : (0 + w) + n ≡ n + w = omega arith in
    ap (λ (k : ℕ). min k bound) turned ∙ (min_of_kept bound (0 + w) n ∙ (ap (λ (k : ℕ). min k bound) together ∙ sym (weight_sum n t xs l)))

le_trans : {a b c : ℕ} → a ≤ b → b ≤ c → a ≤ c
le_trans {a} {b} {c} l m = omega (arith, l, m)

from_within : (n : ℕ) (t : Term) (xs : List Slot) → n ≤ bound → weight_from n t xs ≤ bound
from_within n t xs l = subst (λ (k : ℕ). k ≤ bound) (sym (weight_is n t xs l)) (bounded_within bound (here t) n xs l)

from_no_less : (n : ℕ) (t : Term) (xs : List Slot) → n ≤ bound → n ≤ weight_from n t xs
from_no_less n t xs l =
    subst (λ (k : ℕ). n ≤ k) (sym (weight_sum n t xs l))
    (subst (λ (k : ℕ). k ≤ kept (n + sum_of (here t) xs)) (min-eq_left l) (min_no_more bound n (n + sum_of (here t) xs) (omega arith)))

pub named_within : (n : ℕ) (t : Term) (xs : List Slot) → n ≤ bound → named_from n t xs ≤ bound
named_within n (atom_term (key_term (symmetric_term (ltk_term c d)))) xs l =
    let name : ℕ → Term = λ k. atom_term (name_variable k) in
    from_within (weight_from (weight_from n (name c) xs) (name d) xs) (name d) xs (from_within (weight_from n (name c) xs) (name d) xs (from_within n (name c) xs l))
named_within n (atom_term (key_term (asymmetric_term flag (pubk_term purpose c)))) xs l = from_within n (atom_term (name_variable c)) xs l
named_within n (tag_term bytes) xs l = l
named_within n (atom_term (text_variable x)) xs l = l
named_within n (atom_term (datum_variable x)) xs l = l
named_within n (atom_term (name_variable x)) xs l = l
named_within n (atom_term (key_term (symmetric_term (skey_variable x)))) xs l = l
named_within n (atom_term (key_term (asymmetric_term flag (akey_variable x)))) xs l = l
named_within n (pair_term t u) xs l = l
named_within n (enc_term t k) xs l = l

named_no_less : (n : ℕ) (t : Term) (xs : List Slot) → n ≤ bound → n ≤ named_from n t xs
named_no_less n (atom_term (key_term (symmetric_term (ltk_term c d)))) xs l =
    let name : ℕ → Term = λ k. atom_term (name_variable k) in
    let one = from_within n (name c) xs l in
    let two = from_within (weight_from n (name c) xs) (name d) xs one in
    le_trans (from_no_less n (name c) xs l) (le_trans (from_no_less (weight_from n (name c) xs) (name d) xs one) (from_no_less (weight_from (weight_from n (name c) xs) (name d) xs) (name d) xs two))
named_no_less n (atom_term (key_term (asymmetric_term flag (pubk_term purpose c)))) xs l = from_no_less n (atom_term (name_variable c)) xs l
named_no_less n (tag_term bytes) xs l = le_refl n
named_no_less n (atom_term (text_variable x)) xs l = le_refl n
named_no_less n (atom_term (datum_variable x)) xs l = le_refl n
named_no_less n (atom_term (name_variable x)) xs l = le_refl n
named_no_less n (atom_term (key_term (symmetric_term (skey_variable x)))) xs l = le_refl n
named_no_less n (atom_term (key_term (asymmetric_term flag (akey_variable x)))) xs l = le_refl n
named_no_less n (pair_term t u) xs l = le_refl n
named_no_less n (enc_term t k) xs l = le_refl n

share_is : (n : ℕ) (es : List (Event Term)) (all xs : List Slot) → share_from n es all xs ≡ bounded_from bound (part_of es all) n xs
share_is n es all [] = refl
share_is n es all (x ∷ xs) = share_is (kept (n + part_of es all x)) es all xs

share_sum : (es : List (Event Term)) (all xs : List Slot) → share_from 0 es all xs ≡ kept (sum_of (part_of es all) xs)
share_sum es all xs = share_is 0 es all xs ∙ bounded_sum bound (part_of es all) xs

share_within : (es : List (Event Term)) (all xs : List Slot) → share_from 0 es all xs ≤ bound
share_within es all xs =
    subst (λ (n : ℕ). n ≤ bound) (sym (share_sum es all xs)) (min-le_right (sum_of (part_of es all) xs) bound)

-- What these places share, steepened.
abbrev steep_of : List (Event Term) → List Slot → List Slot → ℕ
steep_of es all xs = steepened (kept (sum_of (part_of es all) xs))

-- What these places share, light ones counting for more.
abbrev light_of : List (Event Term) → List Slot → List Slot → ℕ
light_of es all xs = kept (sum_of (λ x. part_of es all (turned x)) xs)

light_sum : (es : List (Event Term)) (all xs : List Slot) → light_share es all xs ≡ light_of es all xs
light_sum es all xs = share_sum es all (map turned xs) ∙ ap kept (sum_map (part_of es all) turned xs)

-- Numbers of strands, added up.
module _ (f g : List Slot → ℕ) (same : (xs : List Slot) → f xs ≡ g xs) where
  added_are : (n : ℕ) (ss : List SkeletonStrand) → added_from f n (map strand_slots ss) ≡ bounded_from bound (λ s. g (strand_slots s)) n ss
  added_are n [] = refl
  added_are n (s ∷ ss) = ap (λ (k : ℕ). added_from f (kept (n + k)) (map strand_slots ss)) (same (strand_slots s)) ∙ added_are (kept (n + g (strand_slots s))) ss

  added_sum : (n : ℕ) (ss : List SkeletonStrand) → n ≤ bound → added_from f n (map strand_slots ss) ≡ kept (n + sum_of (λ s. g (strand_slots s)) ss)
  added_sum n ss l =
      added_are n ss
      ∙ (sym (min-eq_left (bounded_within bound (λ s. g (strand_slots s)) n ss l)) ∙ bounded_is bound (λ s. g (strand_slots s)) n ss)

steeps_sum : (n : ℕ) (es : List (Event Term)) (all : List Slot) (ss : List SkeletonStrand) → n ≤ bound →
    added_from (steep_share es all) n (map strand_slots ss) ≡ kept (n + sum_of (λ s. steep_of es all (strand_slots s)) ss)
steeps_sum n es all ss l = added_sum (steep_share es all) (steep_of es all) (λ xs. ap steepened (share_sum es all xs)) n ss l

lights_sum : (es : List (Event Term)) (all : List Slot) (ss : List SkeletonStrand) →
    added_from (light_share es all) 0 (map strand_slots ss) ≡ kept (0 + sum_of (λ s. light_of es all (strand_slots s)) ss)
lights_sum es all ss = added_sum (light_share es all) (light_of es all) (light_sum es all) 0 ss (omega arith)

steepened_no_more : (m n : ℕ) → m ≤ n → steepened (kept m) ≤ steepened (kept n)
steepened_no_more m n l =
    let h : kept m ≤ kept n = min_no_more bound m n l in
    let parts : kept m / 65536 ≤ kept n / 65536 = omega (arith, h) in
    min_no_more bound (kept m * (kept m / 65536)) (kept n * (kept n / 65536)) (mul-le-mul h parts)

-- ---- what an embedding keeps

-- It is an instance of a role.
abbrev pub IsRoleStrand : SkeletonStrand → Type 0
IsRoleStrand st = (role : Role) × ((height : ℕ) × ((terms : List Binding) × (st ≡ instance role height terms)))

sums_of_strands : (w : Slot → ℕ) (ss : List SkeletonStrand) → sum_of w (strung (map strand_slots ss)) ≡ sum_of (λ s. sum_of w (strand_slots s)) ss
sums_of_strands w [] = refl
sums_of_strands w (s ∷ ss) = sum_append w (strand_slots s) (strung (map strand_slots ss)) ∙ ap (λ (n : ℕ). sum_of w (strand_slots s) + n) (sums_of_strands w ss)

module _ (f : SkeletonMap) where
  abbrev moved : Slot → Slot
  moved x = record { weight = x.weight; value = apply_to f.terms x.value }

  module _ (u w : Slot → ℕ) (more : (x : Slot) → u x ≤ w (moved x)) where
    values_more : (i : ℕ) (ts : List Term) → sum_of u (value_slots i ts) ≤ sum_of w (value_slots i (map (apply_to f.terms) ts))
    values_more i [] = omega arith
    values_more i (t ∷ ts) =
        let first = more (record { weight = place_weight 1 i; value = t }) in
        let rest = values_more (suc i) ts in
        omega (arith, first, rest)

    step : (p q : Bool) (x y : Slot) (xs ys : List Slot) → (p ≡ true → q ≡ true) → (p ≡ true → u x ≤ w y) → sum_of u xs ≤ sum_of w ys →
        sum_of u (if p then x ∷ xs else xs) ≤ sum_of w (if q then y ∷ ys else ys)
    step true true x y xs ys on first rest = let h = first refl in omega (arith, h, rest)
    step true false x y xs ys on first rest = absurd (let h : false ≡ true = on refl in cc)
    step false true x y xs ys on first rest = omega (arith, rest)
    step false false x y xs ys on first rest = rest

    module _ (name : ℕ) (xs ys : List Variable) (s t : Substitution) (within : (x : Variable) → IsIn x xs → IsIn x ys) (agree : AgreeOnTerms xs (composed s f.terms) t) where
      one_more : (i : ℕ) (d : Declaration) → IsIn (declared_variable i d) xs →
          u (record { weight = place_weight name i; value = apply_to s (variable_term (declared_variable i d)) })
          ≤ w (record { weight = place_weight name i; value = apply_to t (variable_term (declared_variable i d)) })
      one_more i d p =
          let v = variable_term (declared_variable i d) in
          let e : apply_to f.terms (apply_to s v) ≡ apply_to t v = sym (term_composed s f.terms v) ∙ agree (declared_variable i d) p in
          subst (λ (a : Term). u (record { weight = place_weight name i; value = apply_to s v }) ≤ w (record { weight = place_weight name i; value = a })) e
          (more (record { weight = place_weight name i; value = apply_to s v }))

      declared_more : (i : ℕ) (ds : List Declaration) → sum_of u (declared_slots name xs s i ds) ≤ sum_of w (declared_slots name ys t i ds)
      declared_more i [] = omega arith
      declared_more i (d ∷ ds) =
          let x = declared_variable i d in
          step (has_variable xs x) (has_variable ys x)
          (record { weight = place_weight name i; value = apply_to s (variable_term x) })
          (record { weight = place_weight name i; value = apply_to t (variable_term x) })
          (declared_slots name xs s (suc i) ds) (declared_slots name ys t (suc i) ds)
          (λ e. in_has_variable ys x (within x (variable_in xs x e)))
          (λ e. one_more i d (variable_in xs x e))
          (declared_more (suc i) ds)

    module _ (a b : Skeleton) (emb : IsEmbedding a b f) where
      values_kept : sum_of u (value_slots 0 a.from_problem.values) ≤ sum_of w (value_slots 0 b.from_problem.values)
      values_kept =
          subst (λ (ts : List Term). sum_of u (value_slots 0 a.from_problem.values) ≤ sum_of w (value_slots 0 ts)) emb.same_values (values_more 0 a.from_problem.values)

      apart : GoApart IsRoleStrand a.strands f.strands
      apart i j x y at au p q e =
          emb.injective i j p.0 p.1.0 p.1.1.0 q.0 q.1.0 q.1.1.0 (at ∙ ap (λ (st : SkeletonStrand). Some st) p.1.1.1) (au ∙ ap (λ (st : SkeletonStrand). Some st) q.1.1.1) e

      -- What a number that does not fall makes of the sums of the strands.
      module _ (grown : ℕ → ℕ) (none : grown 0 ≡ 0) (grows : (m n : ℕ) → m ≤ n → grown m ≤ grown n) where
        abbrev own : SkeletonStrand → ℕ
        own s = grown (sum_of u (strand_slots s))

        abbrev theirs : SkeletonStrand → ℕ
        theirs s = grown (sum_of w (strand_slots s))

        strand_more : (i : ℕ) (st : SkeletonStrand) → item_at a.strands i ≡ Some st → GoesToMore own IsRoleStrand (map theirs b.strands) (f.strands i) st
        strand_more i (listener t) at = inl none
        strand_more i (instance role height terms) at =
            let g = emb.homomorphism.instances i role height terms at in
            inr (
              (role, (height, (terms, refl))),
              (
                theirs (instance role g.to_height g.to_terms),
                map_of_item theirs b.strands (f.strands i) (instance role g.to_height g.to_terms) g.on_instance,
                grows (sum_of u (strand_slots (instance role height terms))) (sum_of w (strand_slots (instance role g.to_height g.to_terms)))
                    (declared_more (text_number 1 role.name) (variables_of_prefix role height) (variables_of_prefix role g.to_height) (as_substitution terms) (as_substitution g.to_terms)
                    (variables_of_higher role height g.to_height g.at_least) g.equal_terms 0 role.variables),
              ),
            )

        strands_more : sum_of own a.strands ≤ sum_of theirs b.strands
        strands_more =
            subst (λ (n : ℕ). sum_of own a.strands ≤ n) (total_map theirs b.strands)
            (no_more_in_all own IsRoleStrand a.strands f.strands (map theirs b.strands) strand_more apart)

      all_more : sum_of u (slots_of a) ≤ sum_of w (slots_of b)
      all_more =
          let first = values_kept in
          let strands : sum_of (λ s. sum_of u (strand_slots s)) a.strands ≤ sum_of (λ s. sum_of w (strand_slots s)) b.strands = strands_more (λ n. n) refl (λ m n l. l) in
          let one : sum_of u (slots_of a) ≡ sum_of u (value_slots 0 a.from_problem.values) + sum_of u (strung (map strand_slots a.strands)) = sum_append u (value_slots 0 a.from_problem.values) (strung (map strand_slots a.strands)) in
          let other : sum_of w (slots_of b) ≡ sum_of w (value_slots 0 b.from_problem.values) + sum_of w (strung (map strand_slots b.strands)) = sum_append w (value_slots 0 b.from_problem.values) (strung (map strand_slots b.strands)) in
          let mine : sum_of u (strung (map strand_slots a.strands)) ≡ sum_of (λ s. sum_of u (strand_slots s)) a.strands = sums_of_strands u a.strands in
          let yours : sum_of w (strung (map strand_slots b.strands)) ≡ sum_of (λ s. sum_of w (strand_slots s)) b.strands = sums_of_strands w b.strands in
          omega (arith, first, strands, one, other, mine, yours)

module _ (a b : Skeleton) (f : SkeletonMap) (emb : IsEmbedding a b f) where
  here_more : (t : Term) (x : Slot) → here t x ≤ here (apply_to f.terms t) (moved f x)
  here_more t x = by (same_term x.value t) (same_term (apply_to f.terms x.value) (apply_to f.terms t))
      (λ e. (same_Decides (apply_to f.terms x.value) (apply_to f.terms t)).1 (ap (apply_to f.terms) ((same_Decides x.value t).0 e)))
    where
      by : (p q : Bool) → (p ≡ true → q ≡ true) → (if p then x.weight else 0) ≤ (if q then x.weight else 0)
      by true true on = omega arith
      by true false on = absurd (let h : false ≡ true = on refl in cc)
      by false q on = omega arith

  -- The weight of the places of a value, with first numbers of which the second is no less.
  from_more : (t : Term) (m n : ℕ) → m ≤ n → n ≤ bound → weight_from m t (slots_of a) ≤ weight_from n (apply_to f.terms t) (slots_of b)
  from_more t m n less within =
      let u = apply_to f.terms t in
      let all : sum_of (here t) (slots_of a) ≤ sum_of (here u) (slots_of b) = all_more f (here t) (here u) (here_more t) a b emb in
      let own : m ≤ bound = omega (arith, less, within) in
      subst₂ (λ (i j : ℕ). i ≤ j) (sym (weight_sum m t (slots_of a) own)) (sym (weight_sum n u (slots_of b) within))
      (min_no_more bound (m + sum_of (here t) (slots_of a)) (n + sum_of (here u) (slots_of b)) (let l : m + sum_of (here t) (slots_of a) ≤ n + sum_of (here u) (slots_of b) = omega (arith, less, all) in l))

  -- The same of the names of a key. A variable may become a key, which weighs no less.
  named_more : (t : Term) (m n : ℕ) → m ≤ n → n ≤ bound → named_from m t (slots_of a) ≤ named_from n (apply_to f.terms t) (slots_of b)
  named_more (atom_term (key_term (symmetric_term (ltk_term c d)))) m n less within =
      let name : ℕ → Term = λ k. atom_term (name_variable k) in
      let one = from_more (name c) m n less within in
      let below : weight_from n (name (f.terms.names c)) (slots_of b) ≤ bound = from_within n (name (f.terms.names c)) (slots_of b) within in
      let two = from_more (name d) (weight_from m (name c) (slots_of a)) (weight_from n (name (f.terms.names c)) (slots_of b)) one below in
      from_more (name d) (weight_from (weight_from m (name c) (slots_of a)) (name d) (slots_of a)) (weight_from (weight_from n (name (f.terms.names c)) (slots_of b)) (name (f.terms.names d)) (slots_of b)) two
      (from_within (weight_from n (name (f.terms.names c)) (slots_of b)) (name (f.terms.names d)) (slots_of b) below)
  named_more (atom_term (key_term (asymmetric_term flag (pubk_term purpose c)))) m n less within = from_more (atom_term (name_variable c)) m n less within
  named_more (tag_term bytes) m n less within = less
  named_more (atom_term (text_variable x)) m n less within = less
  named_more (atom_term (datum_variable x)) m n less within = less
  named_more (atom_term (name_variable x)) m n less within = less
  named_more (atom_term (key_term (symmetric_term (skey_variable x)))) m n less within =
      le_trans less (named_no_less n (apply_to f.terms (atom_term (key_term (symmetric_term (skey_variable x))))) (slots_of b) within)
  named_more (atom_term (key_term (asymmetric_term flag (akey_variable x)))) m n less within =
      le_trans less (named_no_less n (apply_to f.terms (atom_term (key_term (asymmetric_term flag (akey_variable x))))) (slots_of b) within)
  named_more (pair_term t u) m n less within = less
  named_more (enc_term t k) m n less within = less

  abbrev weight_here : Term → ℕ
  weight_here = value_weight (listened a.strands) (slots_of a)

  abbrev weight_there : Term → ℕ
  weight_there = value_weight (listened b.strands) (slots_of b)

  weight_more : (t : Term) → weight_here t ≤ weight_there (apply_to f.terms t)
  weight_more t =
      let u = apply_to f.terms t in
      let m = heard_weight (listened a.strands) t in
      let n = heard_weight (listened b.strands) u in
      let within : n ≤ bound = heard_within (variables_of_trace (listened b.strands)) u in
      from_more t (named_from m t (slots_of a)) (named_from n u (slots_of b)) (named_more t m n (heard_more a b f emb t) within) (named_within n u (slots_of b) within)

  abbrev part_here : Slot → ℕ
  part_here = part_of (listened a.strands) (slots_of a)

  abbrev part_there : Slot → ℕ
  part_there = part_of (listened b.strands) (slots_of b)

  part_more : (x : Slot) → part_here x ≤ part_there (moved f x)
  part_more x = min_no_more bound (x.weight * weight_here x.value) (x.weight * weight_there (apply_to f.terms x.value)) (mul-le-mul_left x.weight (weight_more x.value))

  abbrev values_here : ℕ
  values_here = share_from 0 (listened a.strands) (slots_of a) (value_slots 0 a.from_problem.values)

  abbrev values_there : ℕ
  values_there = share_from 0 (listened b.strands) (slots_of b) (value_slots 0 b.from_problem.values)

  abbrev steeps_here : ℕ
  steeps_here = sum_of (λ s. steep_of (listened a.strands) (slots_of a) (strand_slots s)) a.strands

  abbrev steeps_there : ℕ
  steeps_there = sum_of (λ s. steep_of (listened b.strands) (slots_of b) (strand_slots s)) b.strands

  values_share_less : values_here ≤ values_there
  values_share_less =
      subst₂ (λ (m n : ℕ). m ≤ n)
      (sym (share_sum (listened a.strands) (slots_of a) (value_slots 0 a.from_problem.values)))
      (sym (share_sum (listened b.strands) (slots_of b) (value_slots 0 b.from_problem.values)))
      (min_no_more bound (sum_of part_here (value_slots 0 a.from_problem.values)) (sum_of part_there (value_slots 0 b.from_problem.values)) (values_kept f part_here part_there part_more a b emb))

  steeps_less : steeps_here ≤ steeps_there
  steeps_less = strands_more f part_here part_there part_more a b emb (λ n. steepened (kept n)) refl steepened_no_more

  bucket_key_kept : bucket_key_of a ≤ bucket_key_of b
  bucket_key_kept =
      let first = values_share_less in
      let rest = steeps_less in
      subst₂ (λ (m n : ℕ). m ≤ n)
      (sym (steeps_sum values_here (listened a.strands) (slots_of a) a.strands (share_within (listened a.strands) (slots_of a) (value_slots 0 a.from_problem.values))))
      (sym (steeps_sum values_there (listened b.strands) (slots_of b) b.strands (share_within (listened b.strands) (slots_of b) (value_slots 0 b.from_problem.values))))
      (min_no_more bound (values_here + steeps_here) (values_there + steeps_there) (let l : values_here + steeps_here ≤ values_there + steeps_there = omega (arith, first, rest) in l))

  abbrev lights_here : ℕ
  lights_here = sum_of (λ s. light_of (listened a.strands) (slots_of a) (strand_slots s)) a.strands

  abbrev lights_there : ℕ
  lights_there = sum_of (λ s. light_of (listened b.strands) (slots_of b) (strand_slots s)) b.strands

  lights_less : lights_here ≤ lights_there
  lights_less = strands_more f (λ x. part_here (turned x)) (λ x. part_there (turned x)) (λ x. part_more (turned x)) a b emb kept refl (λ m n l. min_no_more bound m n l)

  light_share_kept : light_share_of a ≤ light_share_of b
  light_share_kept =
      let less = lights_less in
      subst₂ (λ (m n : ℕ). m ≤ n) (sym (lights_sum (listened a.strands) (slots_of a) a.strands)) (sym (lights_sum (listened b.strands) (slots_of b) b.strands))
      (min_no_more bound (0 + lights_here) (0 + lights_there) (let l : 0 + lights_here ≤ 0 + lights_there = omega (arith, less) in l))

-- A skeleton that embeds in another shares no more.
pub embedded_shares_less : (a b : Skeleton) → Embeds a b → bucket_key_of a ≤ bucket_key_of b
embedded_shares_less a b h = bucket_key_kept a b h.0 h.1

-- Nor where light places count for more.
pub embedded_shares_lightly_less : (a b : Skeleton) → Embeds a b → light_share_of a ≤ light_share_of b
embedded_shares_lightly_less a b h = light_share_kept a b h.0 h.1

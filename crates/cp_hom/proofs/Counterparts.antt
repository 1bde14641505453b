-- Values, lists, strands and pairs that become others.
use Rattle.std.proofs.Common.{◌≡◌, ◌≢◌, ℕ, ◌<◌, ◌≤◌, ◌+◌, List, ◌∷◌, length, map, drop, get_or, refl, sym, ap, ap₂, ◌∙◌, arith}
use Rattle.std.specs.Prelude.{Option, Bool, true, false, nat_lt, ◌==◌}
use Rattle.std.proofs.lemmas.Bool.Decides.{nat_tests}
use Rattle.std.proofs.lemmas.List.{drop_all}
use Rattle.cp_lists.proofs.Members.{drop_read}
use Rattle.cp_model.specs.Term.{Term, Substitution, apply_to}
use Rattle.cp_model.specs.Skeleton.{SkeletonStrand, instance, Skeleton}
use Rattle.cp_model.specs.declared.node.OrderPair.{OrderPair}
use Rattle.cp_model.specs.declared.node.Node.{Node}
use Rattle.cp_model.specs.Order.{ReachesAlong}
use Rattle.cp_model.specs.Homomorphism.{SkeletonMap, mapped}
use Rattle.cp_hom.proofs.KeptOrder.{both_nodes}
use Rattle.cp_lists.proofs.Items.{item_below}
use Rattle.cp_hom.specs.PartialMaps.{PartialMap, IsExtended, IsOfNoExtension, FindsMaps}
use Rattle.cp_hom.specs.Counterparts.{KeepsProblem, IsKeptBy, IsRoleStrand, MeetsEarlier, KeepsApart}
use Rattle.cp_hom.proofs.Extended.{IsSoFar, finds_like, finds_both, so_far_next, so_far_never, so_far_all}
use Rattle.cp_hom.specs.declared.partials.Partial.{Partial}

-- ---- values

pub value_matched : (s t : Substitution) (m from to : Term) (given : PartialMap) (answer : Option Partial) → from ≡ apply_to s m → to ≡ apply_to t m →
    FindsMaps (λ f. apply_to f.terms from ≡ to) given answer → FindsMaps (λ f. apply_to f.terms (apply_to s m) ≡ apply_to t m) given answer
value_matched s t m from to given answer is_from is_to h =
    finds_like (λ f. apply_to f.terms from ≡ to) (λ f. apply_to f.terms (apply_to s m) ≡ apply_to t m) given answer
    (λ f e. sym (ap (apply_to f.terms) is_from) ∙ e ∙ is_to)
    (λ f e. ap (apply_to f.terms) is_from ∙ e ∙ sym is_to)
    h

-- ---- lists

module _ {A B : Type 0} (g : SkeletonMap → A → B) where
  -- One more of two lists.
  heads : (f : SkeletonMap) (x : A) (y : B) (xs : List A) (ys : List B) → map (g f) (x ∷ xs) ≡ y ∷ ys → g f x ≡ y
  heads f x y xs ys e = cc

  tails : (f : SkeletonMap) (x : A) (y : B) (xs : List A) (ys : List B) → map (g f) (x ∷ xs) ≡ y ∷ ys → map (g f) xs ≡ ys
  tails f x y xs ys e = cc

  pub lists_next : (xs : List A) (ys : List B) (i : ℕ) (x : A) (y : B) (given found next : PartialMap) → i < length xs → length xs ≡ length ys → x ≡ get_or xs i x → y ≡ get_or ys i y →
      IsSoFar (λ f. map (g f) xs ≡ ys) (λ f. map (g f) (drop i xs) ≡ drop i ys) given found → IsExtended (λ f. g f x ≡ y) found next →
      IsSoFar (λ f. map (g f) xs ≡ ys) (λ f. map (g f) (drop (i + 1) xs) ≡ drop (i + 1) ys) given next
  lists_next xs ys i x y given found next l same is_x is_y h k =
      let dx = drop_read xs i x l is_x in
      let dy = drop_read ys i y (omega (arith, l, same)) is_y in
      so_far_next (λ f. map (g f) xs ≡ ys) (λ f. map (g f) (drop i xs) ≡ drop i ys) (λ f. g f x ≡ y) (λ f. map (g f) (drop (i + 1) xs) ≡ drop (i + 1) ys) given found next
      (λ f d e. ap (map (g f)) dx ∙ ap₂ ◌∷◌ d e ∙ sym dy)
      (λ f e. heads f x y (drop (i + 1) xs) (drop (i + 1) ys) (sym (ap (map (g f)) dx) ∙ e ∙ dy))
      (λ f e. tails f x y (drop (i + 1) xs) (drop (i + 1) ys) (sym (ap (map (g f)) dx) ∙ e ∙ dy))
      h k

  pub lists_never : (xs : List A) (ys : List B) (i : ℕ) (x : A) (y : B) (given found : PartialMap) → i < length xs → length xs ≡ length ys → x ≡ get_or xs i x → y ≡ get_or ys i y →
      IsSoFar (λ f. map (g f) xs ≡ ys) (λ f. map (g f) (drop i xs) ≡ drop i ys) given found → IsOfNoExtension (λ f. g f x ≡ y) found → IsOfNoExtension (λ f. map (g f) xs ≡ ys) given
  lists_never xs ys i x y given found l same is_x is_y h k =
      let dx = drop_read xs i x l is_x in
      let dy = drop_read ys i y (omega (arith, l, same)) is_y in
      so_far_never (λ f. map (g f) xs ≡ ys) (λ f. map (g f) (drop i xs) ≡ drop i ys) (λ f. g f x ≡ y) given found
      (λ f e. heads f x y (drop (i + 1) xs) (drop (i + 1) ys) (sym (ap (map (g f)) dx) ∙ e ∙ dy))
      h k

  pub lists_all : (xs : List A) (ys : List B) (i : ℕ) (given found : PartialMap) → length xs ≤ i → length xs ≡ length ys →
      IsSoFar (λ f. map (g f) xs ≡ ys) (λ f. map (g f) (drop i xs) ≡ drop i ys) given found → IsExtended (λ f. map (g f) xs ≡ ys) given found
  lists_all xs ys i given found done same h =
      so_far_all (λ f. map (g f) xs ≡ ys) (λ f. map (g f) (drop i xs) ≡ drop i ys) given found
      (λ f. ap (map (g f)) (drop_all i xs done) ∙ sym (drop_all i ys (omega (arith, done, same)))) h

-- Strands and terms from the problem.
pub problem_kept : (a b : Skeleton) (xs ys : List ℕ) (ts us : List Term) (given found : PartialMap) (answer : Option Partial) →
    xs ≡ a.from_problem.strands → ys ≡ b.from_problem.strands → ts ≡ a.from_problem.values → us ≡ b.from_problem.values →
    IsExtended (λ f. map f.strands xs ≡ ys) given found → FindsMaps (λ f. map (apply_to f.terms) ts ≡ us) found answer → FindsMaps (KeepsProblem a b) given answer
problem_kept a b xs ys ts us given found answer is_xs is_ys is_ts is_us h k =
    finds_both (λ f. map f.strands xs ≡ ys) (λ f. map (apply_to f.terms) ts ≡ us) (KeepsProblem a b) given found answer
    (λ f d e. record {
      strands = sym (ap (map f.strands) is_xs) ∙ d ∙ is_ys;
      values = sym (ap (map (apply_to f.terms)) is_ts) ∙ e ∙ is_us;
    })
    (λ f g. ap (map f.strands) is_xs ∙ g.strands ∙ sym is_ys)
    (λ f g. ap (map (apply_to f.terms)) is_ts ∙ g.values ∙ sym is_us)
    h k

-- ---- strands that are kept apart

-- One number is before the other, or they are one.
by_order : (P : Type 0) (m n : ℕ) → (m < n → P) → (m ≡ n → P) → (n < m → P) → P
by_order P m n less same more = choose (nat_lt m n) refl (m == n) refl
  where
    choose : (b : Bool) → nat_lt m n ≡ b → (c : Bool) → (m == n) ≡ c → P
    choose true e c g = less (grind (arith, nat_tests))
    choose false e true g = same (grind (arith, nat_tests))
    choose false e false g = more (grind (arith, nat_tests))

role_strand_within : (strands : List SkeletonStrand) (s : ℕ) → IsRoleStrand strands s → s < length strands
role_strand_within strands s p = item_below strands s (instance p.role p.height p.terms) p.on_instance

pub apart_all : (strands : List SkeletonStrand) (f : ℕ → ℕ) → ((s : ℕ) → s < length strands → MeetsEarlier strands f s → ⊥) → KeepsApart strands f
apart_all strands f none s t p q e =
    by_order (s ≡ t) s t
    (λ l. absurd (none t (role_strand_within strands t q) (record { role_strand = q; other = s; earlier = l; other_role_strand = p; meets = e })))
    (λ same. same)
    (λ l. absurd (none s (role_strand_within strands s p) (record { role_strand = p; other = t; earlier = l; other_role_strand = q; meets = sym e })))

pub one_meets : (strands : List SkeletonStrand) (f : ℕ → ℕ) (s : ℕ) → MeetsEarlier strands f s → KeepsApart strands f → ⊥
one_meets strands f s m apart =
    let e : m.other ≡ s = apart m.other s m.other_role_strand m.role_strand m.meets in
    let l : m.other < s = m.earlier in
    omega (arith, e, l)

-- ---- pairs that are kept

pub kept_by : (pairs : List OrderPair) (f : SkeletonMap) (p : OrderPair) (x y : Node) → x ≡ mapped f p.earlier → y ≡ mapped f p.later → ReachesAlong pairs x y × (x ≢ y) → IsKeptBy pairs f p
kept_by pairs f p x y e l h = both_nodes pairs x (mapped f p.earlier) y (mapped f p.later) e l h

pub by_kept : (pairs : List OrderPair) (f : SkeletonMap) (p : OrderPair) (x y : Node) → x ≡ mapped f p.earlier → y ≡ mapped f p.later → IsKeptBy pairs f p → ReachesAlong pairs x y × (x ≢ y)
by_kept pairs f p x y e l h = both_nodes pairs (mapped f p.earlier) x (mapped f p.later) y (sym e) (sym l) h

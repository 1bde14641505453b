-- Fingerprints by the places of the roles say the same as those by the names.
use Rattle.std.proofs.Common.{◌≡◌, ◌↔◌, ℕ, zero, suc, ◌≤◌, ◌==◌, Bool, true, false, if◌then◌else◌, nat_le, List, [], ◌∷◌, map, refl, sym, ap, ap₂, ◌∙◌, subst, subst₂, arith, eq-eqb, eqb-true, ◌⊎◌, inl, inr, Option, Some, None}
use Rattle.std.specs.Prelude.{count_by}
use Rattle.std.specs.Cmp.{IsTotalOrder}
use Rattle.std.specs.Ordering.{nat_cmp}
use Rattle.std.proofs.lemmas.Bool.{and_parts, and_from}
use Rattle.std.proofs.lemmas.Cmp.{nat_cmp_total, on_total, then_total}
use Rattle.std.proofs.lemmas.Map.Lookups.{CmpEqualImpliesEq, exact_unsigned, exact_pairs}
use Rattle.cp_lists.specs.Lists.{item_at, IsIn}
use Rattle.cp_lists.proofs.Items.{place_of as at_one}
use Rattle.cp_model.specs.Same.{same_text}
use Rattle.cp_model.proofs.SameTests.{text_is, is_text}
use Rattle.cp_model.specs.Strand.{Role, Protocol}
use Rattle.cp_model.specs.Bindings.{Binding}
use Rattle.cp_model.specs.Skeleton.{SkeletonStrand, instance, listener, Skeleton, IsSkeleton}
use Rattle.cp_fingerprint.specs.Sorted.{sorted_by}
use Rattle.cp_fingerprint.specs.Fingerprints.{heights_of, by_name_and_height, fingerprint_of, is_as_high, HaveNoMore}
use Rattle.cp_fingerprint.specs.RolePlaces.{PlaceHeight, by_place_and_height, HasDistinctNames, AreOfStrands, IsPlaceList, place_of, placed_in, by_places, is_placed_as_high, HaveNoMorePlaces}
use Rattle.cp_fingerprint.specs.declared.heights.RoleHeight.{RoleHeight}
use Rattle.cp_fingerprint.proofs.Listed.{AllOf, one_or_rest}
use Rattle.cp_fingerprint.proofs.NoMore.{one_if, unit, count_is, none_if, same_if, high_parts}
use Rattle.cp_fingerprint.proofs.SortedLists.{one_of, sorted_sum, sorted_ascends, same_items}
use Rattle.cp_fingerprint.proofs.StrandSums.{sum_of, sum_map, sum_same, sum_zero}

-- ---- places of names

-- The roles of the list have distinct names.
abbrev AreDistinct : List Role → Type 0
AreDistinct roles = (i j : ℕ) (r s : Role) → item_at roles i ≡ Some r → item_at roles j ≡ Some s → r.name ≡ s.name → i ≡ j

place_is : (roles : List Role) → AreDistinct roles → (p : ℕ) (role : Role) → item_at roles p ≡ Some role → place_of role.name roles ≡ p
place_is [] distinct p role at = absurd (cc)
place_is (r ∷ rs) distinct zero role at =
    let e : r ≡ role = cc in
    ap (λ (b : Bool). if b then 0 else suc (place_of role.name rs)) (is_text r.name role.name (ap (λ (s : Role). s.name) e))
place_is (r ∷ rs) distinct (suc p) role at = by (place_is rs (λ i j s t a b e. let h : suc i ≡ suc j = distinct (suc i) (suc j) s t a b e in omega (arith, h)) p role at) (same_text r.name role.name) refl
  where
    by : place_of role.name rs ≡ p → (b : Bool) → same_text r.name role.name ≡ b → (if b then 0 else suc (place_of role.name rs)) ≡ suc p
    by h true e = absurd (let d : 0 ≡ suc p = distinct 0 (suc p) r role refl at (text_is r.name role.name e) in omega (arith, d))
    by h false e = ap suc h

-- A role of this name stands at a place of the list.
abbrev HasRole : List Role → List ℕ → Type 0
HasRole roles name = (p : ℕ) × ((role : Role) × ((item_at roles p ≡ Some role) × (role.name ≡ name)))

has_role : (roles : List Role) (name : List ℕ) → HasRole roles name ⊎ (HasRole roles name → ⊥)
has_role [] name = inr (λ h. let at = h.1.1.0 in absurd (cc))
has_role (r ∷ rs) name = by (same_text r.name name) refl (has_role rs name)
  where
    by : (b : Bool) → same_text r.name name ≡ b → HasRole rs name ⊎ (HasRole rs name → ⊥) → HasRole (r ∷ rs) name ⊎ (HasRole (r ∷ rs) name → ⊥)
    by true e rest = inl (0, (r, (refl, text_is r.name name e)))
    by false e (inl h) = inl (suc h.0, (h.1.0, (h.1.1.0, h.1.1.1)))
    by false e (inr none) = inr nowhere
      where
        at_place : (p : ℕ) (role : Role) → item_at (r ∷ rs) p ≡ Some role → role.name ≡ name → ⊥
        at_place zero role at same =
            let first : r ≡ role = cc in
            let b : false ≡ true = sym e ∙ is_text r.name name (ap (λ (s : Role). s.name) first ∙ same) in
            absurd (cc)
        at_place (suc p) role at same = none (p, (role, (at, same)))

        nowhere : HasRole (r ∷ rs) name → ⊥
        nowhere h = at_place h.0 h.1.0 h.1.1.0 h.1.1.1

-- ---- sorted by another order

total_places : IsTotalOrder by_place_and_height
total_places = then_total (on_total (λ x. x.place) nat_cmp_total) (on_total (λ x. x.height) nat_cmp_total)

places_apart : CmpEqualImpliesEq by_place_and_height
places_apart x y h = ap (λ (p : ℕ × ℕ). record { place = p.0; height = p.1 }) (exact_pairs nat_cmp nat_cmp exact_unsigned exact_unsigned (x.place, x.height) (y.place, y.height) h)

module _ (turned : RoleHeight → PlaceHeight) (xs : List RoleHeight) where
  abbrev first : List PlaceHeight
  first = map turned (sorted_by by_name_and_height xs)

  sorted_again : sorted_by by_place_and_height first ≡ sorted_by by_place_and_height (map turned xs)
  sorted_again =
      same_items by_place_and_height total_places places_apart (sorted_by by_place_and_height first) (sorted_by by_place_and_height (map turned xs))
      (sorted_ascends by_place_and_height total_places first) (sorted_ascends by_place_and_height total_places (map turned xs)) same
    where
      same : (z : PlaceHeight) → sum_of (one_of by_place_and_height z) (sorted_by by_place_and_height first) ≡ sum_of (one_of by_place_and_height z) (sorted_by by_place_and_height (map turned xs))
      same z =
          let w : PlaceHeight → ℕ = one_of by_place_and_height z in
          sorted_sum by_place_and_height w first
          ∙ (sum_map w turned (sorted_by by_name_and_height xs)
          ∙ (sorted_sum by_name_and_height (λ x. w (turned x)) xs ∙ (sym (sum_map w turned xs) ∙ sym (sorted_sum by_place_and_height w (map turned xs)))))

-- ---- the places of a skeleton's role strands

module _ (protocol : Protocol) (distinct : HasDistinctNames protocol) where
  abbrev roles : List Role
  roles = protocol.roles

  are_placed : (ss : List SkeletonStrand) (xs : List PlaceHeight) → AreOfStrands protocol ss xs → xs ≡ map (placed_in protocol) (heights_of ss)
  are_placed [] xs of = of
  are_placed (listener t ∷ ss) xs of = are_placed ss xs of
  are_placed (instance role height terms ∷ ss) [] of = absurd of
  are_placed (instance role height terms ∷ ss) (x ∷ xs) of =
      ap₂ (λ (y : PlaceHeight) (ys : List PlaceHeight). y ∷ ys)
      (ap₂ (λ (m n : ℕ). record { place = m; height = n }) (sym (place_is roles distinct x.place role of.0)) of.1) (are_placed ss xs of.2)

  have_roles : (ss : List SkeletonStrand) (xs : List PlaceHeight) → AreOfStrands protocol ss xs → AllOf (λ x. HasRole roles x.name) (heights_of ss)
  have_roles [] xs of = λ x p. elim p [ ]
  have_roles (listener t ∷ ss) xs of = have_roles ss xs of
  have_roles (instance role height terms ∷ ss) [] of = absurd of
  have_roles (instance role height terms ∷ ss) (x ∷ xs) of =
      one_or_rest (λ y. HasRole roles y.name) (record { name = role.name; height = height }) (heights_of ss) (x.place, (role, (of.0, refl))) (have_roles ss xs of.2)

  of_role_strands : (ss : List SkeletonStrand) →
      ((s : ℕ) (role : Role) (height : ℕ) (terms : List Binding) → item_at ss s ≡ Some (instance role height terms) → IsIn role roles) → AreOfStrands protocol ss (map (placed_in protocol) (heights_of ss))
  of_role_strands [] among = refl
  of_role_strands (listener t ∷ ss) among = of_role_strands ss (λ s. among (suc s))
  of_role_strands (instance role height terms ∷ ss) among =
      let found = at_one (among 0 role height terms refl) in
      let at : item_at roles (place_of role.name roles) ≡ Some role = ap (item_at roles) (place_is roles distinct found.0 role found.1) ∙ found.1 in
      (at, refl, of_role_strands ss (λ s. among (suc s)))

  pub are_places : (k : Skeleton) (xs : List PlaceHeight) → IsSkeleton protocol k → IsPlaceList protocol k xs ↔ (xs ≡ by_places protocol (fingerprint_of k))
  are_places k xs sound = (
    λ l. l.sorted ∙ (ap (sorted_by by_place_and_height) (are_placed k.strands l.places l.of_strands) ∙ sym (sorted_again (placed_in protocol) (heights_of k.strands))),
    λ e. record {
      places = map (placed_in protocol) (heights_of k.strands);
      of_strands = of_role_strands k.strands sound.of_role;
      sorted = e ∙ sorted_again (placed_in protocol) (heights_of k.strands);
    },
  )

  -- ---- counts by places

  abbrev unit_at : ℕ → ℕ → RoleHeight → ℕ
  unit_at place height x = one_if (is_placed_as_high place height (placed_in protocol x))

  places_counted : (k : Skeleton) (xs : List PlaceHeight) → IsPlaceList protocol k xs → (place height : ℕ) → count_by (is_placed_as_high place height) xs ≡ sum_of (unit_at place height) (heights_of k.strands)
  places_counted k xs l place height =
      let test : PlaceHeight → Bool = is_placed_as_high place height in
      let w : PlaceHeight → ℕ = λ x. one_if (test x) in
      count_is test xs
      ∙ (ap (sum_of w) l.sorted
      ∙ (sorted_sum by_place_and_height w l.places ∙ (ap (sum_of w) (are_placed k.strands l.places l.of_strands) ∙ sum_map w (placed_in protocol) (heights_of k.strands))))

  names_counted : (k : Skeleton) (name : List ℕ) (height : ℕ) → count_by (is_as_high name height) (fingerprint_of k) ≡ sum_of (unit name height) (heights_of k.strands)
  names_counted k name height = count_is (is_as_high name height) (fingerprint_of k) ∙ sorted_sum by_name_and_height (unit name height) (heights_of k.strands)

  placed_at : (name : List ℕ) → (h : HasRole roles name) → place_of name roles ≡ h.0
  placed_at name h = ap (λ (n : List ℕ). place_of n roles) (sym h.1.1.1) ∙ place_is roles distinct h.0 h.1.0 h.1.1.0

  -- At the place of a role the counts are those of its name.
  module _ (place height : ℕ) (role : Role) (at : item_at roles place ≡ Some role) where
    one_place : (x : RoleHeight) → HasRole roles x.name → unit_at place height x ≡ unit role.name height x
    one_place x h = same_if (is_placed_as_high place height (placed_in protocol x)) (is_as_high role.name height x) on back
      where
        on : is_placed_as_high place height (placed_in protocol x) ≡ true → is_as_high role.name height x ≡ true
        on e =
            let parts = and_parts (place_of x.name roles == place) (nat_le height x.height) e in
            let there_too : h.0 ≡ place = sym (placed_at x.name h) ∙ eqb-true (place_of x.name roles) place parts.0 in
            let both : Some h.1.0 ≡ Some role = sym h.1.1.0 ∙ (ap (item_at roles) there_too ∙ at) in
            let same : h.1.0 ≡ role = cc in
            and_from (same_text x.name role.name) (nat_le height x.height) (is_text x.name role.name (sym h.1.1.1 ∙ ap (λ (r : Role). r.name) same)) parts.1

        back : is_as_high role.name height x ≡ true → is_placed_as_high place height (placed_in protocol x) ≡ true
        back e =
            let parts = and_parts (same_text x.name role.name) (nat_le height x.height) e in
            let here_too : place_of x.name roles ≡ place = ap (λ (n : List ℕ). place_of n roles) (text_is x.name role.name parts.0) ∙ place_is roles distinct place role at in
            and_from (place_of x.name roles == place) (nat_le height x.height) (eq-eqb (place_of x.name roles) place here_too) parts.1

    one_count : (k : Skeleton) (xs : List PlaceHeight) → IsPlaceList protocol k xs → count_by (is_placed_as_high place height) xs ≡ count_by (is_as_high role.name height) (fingerprint_of k)
    one_count k xs l =
        places_counted k xs l place height
        ∙ (sum_same (unit_at place height) (unit role.name height) (heights_of k.strands) (λ x p. one_place x (have_roles k.strands l.places l.of_strands x p)) ∙ sym (names_counted k role.name height))

  module _ (a b : Skeleton) (xs ys : List PlaceHeight) (of_a : IsPlaceList protocol a xs) (of_b : IsPlaceList protocol b ys) where
    by_place : HaveNoMore (fingerprint_of a) (fingerprint_of b) → HaveNoMorePlaces xs ys
    by_place less place height l = at_place (item_at roles place) refl
      where
        at_place : (o : Option Role) → item_at roles place ≡ o → count_by (is_placed_as_high place height) xs ≤ count_by (is_placed_as_high place height) ys
        at_place (Some role) at =
            subst₂ (λ (m n : ℕ). m ≤ n) (sym (one_count place height role at a xs of_a)) (sym (one_count place height role at b ys of_b)) (less role.name height l)
        at_place None at =
            let none : count_by (is_placed_as_high place height) xs ≡ 0 = places_counted a xs of_a place height ∙ sum_zero (unit_at place height) (heights_of a.strands) nowhere in
            omega (arith, none)
          where
            nowhere : (x : RoleHeight) → IsIn x (heights_of a.strands) → unit_at place height x ≡ 0
            nowhere x p = none_if (is_placed_as_high place height (placed_in protocol x)) (λ e.
                let h = have_roles a.strands of_a.places of_a.of_strands x p in
                let there_too : h.0 ≡ place = sym (placed_at x.name h) ∙ eqb-true (place_of x.name roles) place (and_parts (place_of x.name roles == place) (nat_le height x.height) e).0 in
                let both : Some h.1.0 ≡ None = sym h.1.1.0 ∙ (ap (item_at roles) there_too ∙ at) in
                absurd (cc))

    by_name : HaveNoMorePlaces xs ys → HaveNoMore (fingerprint_of a) (fingerprint_of b)
    by_name less name height l = of_name (has_role roles name)
      where
        of_name : HasRole roles name ⊎ (HasRole roles name → ⊥) → count_by (is_as_high name height) (fingerprint_of a) ≤ count_by (is_as_high name height) (fingerprint_of b)
        of_name (inl h) =
            subst (λ (n : List ℕ). count_by (is_as_high n height) (fingerprint_of a) ≤ count_by (is_as_high n height) (fingerprint_of b)) h.1.1.1
            (subst₂ (λ (m n : ℕ). m ≤ n) (one_count h.0 height h.1.0 h.1.1.0 a xs of_a) (one_count h.0 height h.1.0 h.1.1.0 b ys of_b) (less h.0 height l))
        of_name (inr none) =
            let nothing : count_by (is_as_high name height) (fingerprint_of a) ≡ 0 = names_counted a name height ∙ sum_zero (unit name height) (heights_of a.strands) nowhere in
            omega (arith, nothing)
          where
            nowhere : (x : RoleHeight) → IsIn x (heights_of a.strands) → unit name height x ≡ 0
            nowhere x p = none_if (is_as_high name height x) (λ e.
                none (subst (HasRole roles) (high_parts name height x e).0 (have_roles a.strands of_a.places of_a.of_strands x p)))

-- A fingerprint with places for names, in order, is the list of the places and heights.
pub placed_exactly : (protocol : Protocol) (k : Skeleton) (xs : List PlaceHeight) → HasDistinctNames protocol → IsSkeleton protocol k → IsPlaceList protocol k xs ↔ (xs ≡ by_places protocol (fingerprint_of k))
placed_exactly protocol k xs distinct = are_places protocol distinct k xs

-- The lists of places compare as the fingerprints do.
pub places_compare : (protocol : Protocol) (a b : Skeleton) (xs ys : List PlaceHeight) → HasDistinctNames protocol → IsPlaceList protocol a xs → IsPlaceList protocol b ys →
    HaveNoMore (fingerprint_of a) (fingerprint_of b) ↔ HaveNoMorePlaces xs ys
places_compare protocol a b xs ys distinct of_a of_b = (by_place protocol distinct a b xs ys of_a of_b, by_name protocol distinct a b xs ys of_a of_b)

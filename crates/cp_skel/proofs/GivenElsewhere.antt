-- What strands give, and what is forgotten with one of them.
use Rattle.std.proofs.Common.{◌≡◌, ◌≢◌, ◌↔◌, ◌⊎◌, inl, inr, ℕ, zero, suc, ◌+◌, ◌<◌, List, [], ◌∷◌, ◌++◌, take, length, get_or, refl, sym, ap, ◌∙◌, subst, Some, None, arith}
use Rattle.cp_lists.proofs.Fronts.{take_next}
use Rattle.cp_lists.specs.Lists.{item_at, IsIn}
use Rattle.cp_model.specs.Term.{AtomTerm}
use Rattle.cp_model.specs.Bindings.{Binding}
use Rattle.cp_model.specs.Strand.{Role}
use Rattle.cp_model.specs.Skeleton.{SkeletonStrand, instance}
use Rattle.cp_lists.proofs.Members.{in_append, in_append_left, none_in_empty}
use Rattle.cp_lists.proofs.Items.{item_still, item_last, item_of_push, item_of_read}
use Rattle.cp_model.specs.GivenAssumptions.{IsGivenFrom, AddsOnce}
use Rattle.cp_skel.specs.Kinds.{IsInFirstAlone}
use Rattle.cp_skel.specs.Deletion.{LeavesOut, all_left, is_gone, is_left, GivesFrom, IsStatedAt, IsGivenElsewhere, IsForgotten}

-- What an instance gives is added to what was given.
pub adds_given : (stated : Role → List AtomTerm) (strand : SkeletonStrand) (role : Role) (height : ℕ) (terms : List Binding) (xs old more : List AtomTerm) →
    strand ≡ instance role height terms → xs ≡ stated role → AddsOnce (IsGivenFrom xs role height terms) old (old ++ more) →
    (v : AtomTerm) → IsIn v (old ++ more) ↔ (IsIn v old ⊎ GivesFrom stated strand v)
adds_given stated strand role height terms xs old more is same a v = (
  λ h. of (in_append old a.more (subst (IsIn v) a.behind h)),
  back,
)
  where
    of : IsIn v old ⊎ IsIn v a.more → IsIn v old ⊎ GivesFrom stated strand v
    of (inl h) = inl h
    of (inr h) = inr (record { role = role; height = height; terms = terms; is_instance = is; given = subst (λ ys. IsGivenFrom ys role height terms v) same (a.only_given v h) })

    back : IsIn v old ⊎ GivesFrom stated strand v → IsIn v (old ++ more)
    back (inl h) = in_append_left more h
    back (inr g) =
        let e : instance role height terms ≡ instance g.role g.height g.terms = sym is ∙ g.is_instance in
        let r : g.role ≡ role = cc in
        let n : g.height ≡ height = cc in
        let t : g.terms ≡ terms = cc in
        let h : IsGivenFrom (stated role) role height terms v =
        subst (λ u. IsGivenFrom (stated role) role height u v) t
        (subst (λ m. IsGivenFrom (stated role) role m g.terms v) n
        (subst (λ q. IsGivenFrom (stated q) q g.height g.terms v) r g.given)) in
        a.all v (subst (λ ys. IsGivenFrom ys role height terms v) (sym same) h)

module _ (stated : Role → List AtomTerm) (d : ℕ) (v : AtomTerm) where
  -- What is given elsewhere, where a strand stands behind.
  elsewhere_behind : (xs : List SkeletonStrand) (x : SkeletonStrand) → IsGivenElsewhere stated (xs ++ x ∷ []) d v → IsGivenElsewhere stated xs d v ⊎ ((length xs ≢ d) × GivesFrom stated x v)
  elsewhere_behind xs x g = elim (item_of_push xs x g.number g.gives.strand g.gives.there_is) as (λ _. IsGivenElsewhere stated xs d v ⊎ ((length xs ≢ d) × GivesFrom stated x v)) [
    | inl h ↦ inl (record { number = g.number; other = g.other; gives = record { strand = g.gives.strand; there_is = h; gives = g.gives.gives } })
    | inr h ↦ inr (subst (λ n. n ≢ d) h.0 g.other, subst (λ s. GivesFrom stated s v) (sym h.1) g.gives.gives)
  ]

  elsewhere_still : (xs : List SkeletonStrand) (x : SkeletonStrand) → IsGivenElsewhere stated xs d v → IsGivenElsewhere stated (xs ++ x ∷ []) d v
  elsewhere_still xs x g = record {
    number = g.number;
    other = g.other;
    gives = record { strand = g.gives.strand; there_is = item_still xs (x ∷ []) g.number g.gives.strand g.gives.there_is; gives = g.gives.gives };
  }

  elsewhere_last : (xs : List SkeletonStrand) (x : SkeletonStrand) → length xs ≢ d → GivesFrom stated x v → IsGivenElsewhere stated (xs ++ x ∷ []) d v
  elsewhere_last xs x other g = record { number = length xs; other = other; gives = record { strand = x; there_is = item_last xs x; gives = g } }

  not_last : (xs : List SkeletonStrand) (x : SkeletonStrand) → length xs ≡ d → IsGivenElsewhere stated xs d v ⊎ ((length xs ≢ d) × GivesFrom stated x v) → IsGivenElsewhere stated xs d v
  not_last xs x e (inl h) = h
  not_last xs x e (inr h) = absurd (h.0 e)

  -- One more strand of a list is looked at: it is number d, or gives what it gives.
  pub passed_over : (xs : List SkeletonStrand) (x : SkeletonStrand) → length xs ≡ d → IsGivenElsewhere stated xs d v ↔ IsGivenElsewhere stated (xs ++ x ∷ []) d v
  passed_over xs x e = (λ g. elsewhere_still xs x g, λ g. not_last xs x e (elsewhere_behind xs x g))

  pub taken_in : (xs : List SkeletonStrand) (x : SkeletonStrand) → length xs ≢ d → (IsGivenElsewhere stated xs d v ⊎ GivesFrom stated x v) ↔ IsGivenElsewhere stated (xs ++ x ∷ []) d v
  taken_in xs x other = (to, λ g. from (elsewhere_behind xs x g))
    where
      to : IsGivenElsewhere stated xs d v ⊎ GivesFrom stated x v → IsGivenElsewhere stated (xs ++ x ∷ []) d v
      to (inl g) = elsewhere_still xs x g
      to (inr g) = elsewhere_last xs x other g

      from : IsGivenElsewhere stated xs d v ⊎ ((length xs ≢ d) × GivesFrom stated x v) → IsGivenElsewhere stated xs d v ⊎ GivesFrom stated x v
      from (inl g) = inl g
      from (inr g) = inr g.1

-- What is gone may be said in other words.
pub leaves_same : {A : Type 0} (gone other : A → Type 0) (form : A → A) (xs ys : List A) → ((x : A) → gone x ↔ other x) → LeavesOut gone form xs ys → LeavesOut other form xs ys
leaves_same gone other form [] ys same all_left = all_left
leaves_same gone other form (x ∷ xs) ys same (is_gone g l) = is_gone ((same x).0 g) (leaves_same gone other form xs ys same l)
leaves_same gone other form (x ∷ xs) ys same (is_left {ys = zs} g l) = is_left (λ o. g ((same x).1 o)) (leaves_same gone other form xs zs same l)

length_taken : (xs : List SkeletonStrand) (i : ℕ) → i < length xs → length (take i xs) ≡ i
length_taken [] i l = absurd (omega arith)
length_taken (x ∷ xs) zero l = refl
length_taken (x ∷ xs) (suc i) l = ap suc (length_taken xs i (omega arith))

-- A loop over strands that gathers what those that are not number d give, as far as place i.
module _ (stated : Role → List AtomTerm) (d : ℕ) (xs : List SkeletonStrand) (i : ℕ) (x : SkeletonStrand) where
  next : i < length xs → x ≡ get_or xs i x → take i xs ++ x ∷ [] ≡ take (i + 1) xs
  next l e = take_next xs i x (item_of_read xs i x l e)

  pub next_passed : (given : List AtomTerm) → i < length xs → x ≡ get_or xs i x → i ≡ d →
      ((v : AtomTerm) → IsIn v given ↔ IsGivenElsewhere stated (take i xs) d v) → (v : AtomTerm) → IsIn v given ↔ IsGivenElsewhere stated (take (i + 1) xs) d v
  next_passed given l e same inv v =
      let p = passed_over stated d v (take i xs) x (length_taken xs i l ∙ same) in (
        λ h. subst (λ ys. IsGivenElsewhere stated ys d v) (next l e) (p.0 ((inv v).0 h)),
        λ g. (inv v).1 (p.1 (subst (λ ys. IsGivenElsewhere stated ys d v) (sym (next l e)) g)),
      )

  pub next_taken : (given base more new : List AtomTerm) → i < length xs → x ≡ get_or xs i x → i ≢ d → base ≡ given → new ≡ given ++ more →
      ((v : AtomTerm) → IsIn v (base ++ more) ↔ (IsIn v base ⊎ GivesFrom stated x v)) →
      ((v : AtomTerm) → IsIn v given ↔ IsGivenElsewhere stated (take i xs) d v) → (v : AtomTerm) → IsIn v new ↔ IsGivenElsewhere stated (take (i + 1) xs) d v
  next_taken given base more new l e other b n adds inv v =
      let added : IsIn v (given ++ more) ↔ (IsIn v given ⊎ GivesFrom stated x v) = subst (λ ys. IsIn v (ys ++ more) ↔ (IsIn v ys ⊎ GivesFrom stated x v)) b (adds v) in
      let t = taken_in stated d v (take i xs) x (subst (λ k. k ≢ d) (sym (length_taken xs i l)) other) in (
        λ h. subst (λ ys. IsGivenElsewhere stated ys d v) (next l e) (t.0 (to (added.0 (subst (IsIn v) n h)))),
        λ g. subst (IsIn v) (sym n) (added.1 (from (t.1 (subst (λ ys. IsGivenElsewhere stated ys d v) (sym (next l e)) g)))),
      )
    where
      to : IsIn v given ⊎ GivesFrom stated x v → IsGivenElsewhere stated (take i xs) d v ⊎ GivesFrom stated x v
      to (inl h) = inl ((inv v).0 h)
      to (inr g) = inr g

      from : IsGivenElsewhere stated (take i xs) d v ⊎ GivesFrom stated x v → IsIn v given ⊎ GivesFrom stated x v
      from (inl h) = inl ((inv v).1 h)
      from (inr g) = inr g

-- Nothing is given by no strands.
pub none_elsewhere : (stated : Role → List AtomTerm) (d : ℕ) (given : List AtomTerm) → given ≡ [] → (v : AtomTerm) → IsIn v given ↔ IsGivenElsewhere stated [] d v
none_elsewhere stated d given e v =
    (λ h. absurd (none_in_empty e h), λ g. let p : None ≡ Some g.gives.strand = g.gives.there_is in absurd (cc))

-- An atom that is in the list of what strand number d gives alone is forgotten with it.
pub forgotten_alone : (stated : Role → List AtomTerm) (d : ℕ) (xs : List SkeletonStrand) (x : SkeletonStrand) (base more gave elsewhere else own : List AtomTerm) →
    d < length xs → x ≡ get_or xs d x → base ≡ [] → gave ≡ more → else ≡ elsewhere →
    ((v : AtomTerm) → IsIn v (base ++ more) ↔ (IsIn v base ⊎ GivesFrom stated x v)) →
    ((v : AtomTerm) → IsIn v elsewhere ↔ IsGivenElsewhere stated xs d v) →
    (v : AtomTerm) → IsInFirstAlone gave else own v ↔ IsForgotten stated xs own d v
forgotten_alone stated d xs x base more gave elsewhere else own l e none g s given others v = (
  λ a. record {
    gave = record { strand = x; there_is = here; gives = only ((of_given v).0 (subst (IsIn v) g a.in_first)) };
    alone = λ o. a.not_second (subst (IsIn v) (sym s) ((others v).1 o));
    not_own = a.not_third;
  },
  λ f. record {
    in_first = subst (IsIn v) (sym g) ((of_given v).1 (inr (at_d f.gave)));
    not_second = λ h. f.alone ((others v).0 (subst (IsIn v) s h));
    not_third = f.not_own;
  },
)
  where
    here : item_at xs d ≡ Some x
    here = item_of_read xs d x l e

    of_given : (v : AtomTerm) → IsIn v more ↔ (IsIn v [] ⊎ GivesFrom stated x v)
    of_given v = subst (λ ys. IsIn v (ys ++ more) ↔ (IsIn v ys ⊎ GivesFrom stated x v)) none (given v)

    only : IsIn v [] ⊎ GivesFrom stated x v → GivesFrom stated x v
    only (inl h) = elim h [ ]
    only (inr h) = h

    at_d : IsStatedAt stated xs d v → GivesFrom stated x v
    at_d h =
        let p : item_at xs d ≡ Some h.strand = h.there_is in
        let q : item_at xs d ≡ Some x = here in
        let same : h.strand ≡ x = cc in
        subst (λ y. GivesFrom stated y v) same h.gives

-- The same of lists that are equal.
pub kept_of : (stated : Role → List AtomTerm) (d : ℕ) (form : AtomTerm → AtomTerm) (ss strands : List SkeletonStrand) (ts atoms os own left : List AtomTerm) → ss ≡ strands → ts ≡ atoms → os ≡ own →
    LeavesOut (IsForgotten stated ss os d) form ts left → LeavesOut (IsForgotten stated strands own d) form atoms left
kept_of stated d form ss strands ts atoms os own left s a o h =
    subst (λ x. LeavesOut (IsForgotten stated strands x d) form atoms left) o
    (subst (λ x. LeavesOut (IsForgotten stated strands os d) form x left) a
    (subst (λ x. LeavesOut (IsForgotten stated x os d) form ts left) s h))

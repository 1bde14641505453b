-- The items of a skeleton, put together kind by kind.
use Rattle.std.proofs.Common.{◌≡◌, ℕ, ◌+◌, ◌<◌, List, [], ◌∷◌, ◌++◌, ◌⊎◌, inl, inr, sym, subst, arith, eq-or-lt_of_le}
use Rattle.cp_lists.specs.Lists.{IsIn, here, there}
use Rattle.cp_model.specs.Skeleton.{Skeleton}
use Rattle.cp_lists.proofs.Members.{in_append, in_append_left, in_append_right}
use Rattle.cp_hom.specs.Counterparts.{item_count, IsItemOf, AreItemsOf, AddsItems, AddsFirst, AddsAll}
use Rattle.cp_hom.specs.declared.items.Kind.{Kind}
use Rattle.cp_hom.specs.declared.items.Kind.TheVariants.{Strands, NonOriginating, PenetratorNonOriginating, Uniques}
use Rattle.cp_hom.specs.declared.items.Item.{Item}

pub adds_nothing : (k : Skeleton) (old : List Item) → AddsItems k old old
adds_nothing k old = record { kept = λ i p. p; only = λ i p. inl p }

old_or_new : (k : Skeleton) (old more : List Item) (x i : Item) → AddsItems k old more → IsItemOf k x → IsIn i more ⊎ IsIn i (x ∷ []) → IsIn i old ⊎ IsItemOf k i
old_or_new k old more x i h is (inl p) = h.only i p
old_or_new k old more x i h is (inr here) = inr is
old_or_new k old more x i h is (inr (there p)) = elim p [ ]

pub adds_one : (k : Skeleton) (old more new : List Item) (x : Item) → new ≡ more ++ (x ∷ []) → AddsItems k old more → IsItemOf k x → AddsItems k old new
adds_one k old more new x e h is = subst (AddsItems k old) (sym e) (record {
  kept = λ i p. in_append_left (x ∷ []) (h.kept i p);
  only = λ i p. old_or_new k old more x i h is (in_append more (x ∷ []) p);
})

before_or_now : (k : Skeleton) (a b : List Item) (i : Item) → AddsItems k a b → IsIn i b ⊎ IsItemOf k i → IsIn i a ⊎ IsItemOf k i
before_or_now k a b i h (inl p) = h.only i p
before_or_now k a b i h (inr l) = inr l

pub adds_then : (k : Skeleton) (a b c : List Item) → AddsItems k a b → AddsItems k b c → AddsItems k a c
adds_then k a b c h g = record {
  kept = λ i p. g.kept i (h.kept i p);
  only = λ i p. before_or_now k a b i h (g.only i p);
}

pub first_none : (kind : Kind) (k : Skeleton) (old : List Item) → AddsFirst kind 0 k old old
first_none kind k old = record { adds = adds_nothing k old; all = λ i l. absurd (omega (arith, l)) }

module _ (kind : Kind) (n : ℕ) (k : Skeleton) (old more new : List Item) where
  pub first_next : new ≡ more ++ (record { kind = kind; index = n } ∷ []) → n < item_count kind k → AddsFirst kind n k old more → AddsFirst kind (n + 1) k old new
  first_next e l h = record {
    adds = adds_one k old more new (record { kind = kind; index = n }) e h.adds l;
    all = λ i below. subst (IsIn {A = Item} (record { kind = kind; index = i })) (sym e) (this_or_before i (eq-or-lt_of_le (omega (arith, below))));
  }
    where
      this_or_before : (i : ℕ) → (i ≡ n) ⊎ (i < n) → IsIn {A = Item} (record { kind = kind; index = i }) (more ++ (record { kind = kind; index = n } ∷ []))
      this_or_before i (inl same) =
          in_append_right more (subst (λ (m : ℕ). IsIn {A = Item} (record { kind = kind; index = i }) (record { kind = kind; index = m } ∷ [])) same here)
      this_or_before i (inr less) = in_append_left (record { kind = kind; index = n } ∷ []) (h.all i less)

  pub first_then : AddsFirst kind n k old more → AddsItems k more new → AddsFirst kind n k old new
  first_then h g = record { adds = adds_then k old more new h.adds g; all = λ i l. g.kept (record { kind = kind; index = i }) (h.all i l) }

-- All of a kind are put behind items that were put behind others.
pub all_behind : (kind : Kind) (k : Skeleton) (old more new : List Item) → AddsItems k old more → AddsAll kind k more new → AddsAll kind k old new
all_behind kind k old more new h g = record { adds = adds_then k old more new h g.adds; all = g.all }

module _ (k : Skeleton) (a b c d : List Item) (first : AddsAll Strands k [] a) (second : AddsAll NonOriginating k a b) (third : AddsAll PenetratorNonOriginating k b c) (fourth : AddsAll Uniques k c d) where
  by_kind : (kind : Kind) (i : ℕ) → i < item_count kind k → IsIn {A = Item} (record { kind = kind; index = i }) d
  by_kind Strands i l =
      let x : Item = record { kind = Strands; index = i } in
      fourth.adds.kept x (third.adds.kept x (second.adds.kept x (first.all i l)))
  by_kind NonOriginating i l =
      let x : Item = record { kind = NonOriginating; index = i } in
      fourth.adds.kept x (third.adds.kept x (second.all i l))
  by_kind PenetratorNonOriginating i l = fourth.adds.kept (record { kind = PenetratorNonOriginating; index = i }) (third.all i l)
  by_kind Uniques i l = fourth.all i l

  from_nothing : (i : Item) → IsIn i [] ⊎ IsItemOf k i → IsItemOf k i
  from_nothing i (inl p) = elim p [ ]
  from_nothing i (inr l) = l

  pub all_of_them : AreItemsOf k d
  all_of_them = record {
    listed = λ i l. by_kind i.kind i.index l;
    only = λ i p. from_nothing i ((adds_then k [] a d first.adds (adds_then k a b d second.adds (adds_then k b c d third.adds fourth.adds))).only i p);
  }

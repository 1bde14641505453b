-- Items that are placed one after another.
use Rattle.std.proofs.Common.{◌≡◌, ◌⊎◌, inl, inr, ℕ, ◌<◌, ◌≤◌, ◌+◌, List, [], ◌∷◌, ◌++◌, take, sym, subst, arith, eq-or-lt_of_le}
use Rattle.std.specs.Prelude.{Option, Some, None, IfSome}
use Rattle.cp_lists.specs.Lists.{item_at, IsIn, here, there}
use Rattle.cp_lists.proofs.Fronts.{take_next}
use Rattle.cp_lists.proofs.Members.{in_append}
use Rattle.cp_model.specs.Skeleton.{Skeleton}
use Rattle.cp_hom.specs.PartialMaps.{PartialMap, partial_view, IsExtended, FindsMaps}
use Rattle.cp_hom.specs.Counterparts.{TakesItem, item_count}
use Rattle.cp_hom.specs.OpenMaps.{IsPlaced, IsStarted, IsWholeMap}
use Rattle.cp_hom.specs.FirstChoices.{Narrows, PlacesItem, ArePlaced, PlacesKinds}
use Rattle.cp_hom.specs.declared.items.Kind.{Kind}
use Rattle.cp_hom.specs.declared.items.Kind.TheVariants.{Strands, NonOriginating, PenetratorNonOriginating, Uniques}
use Rattle.cp_hom.specs.declared.items.Item.{Item}
use Rattle.cp_hom.specs.declared.partials.Partial.{Partial}

narrows_both : (given found next : PartialMap) → Narrows given found → Narrows found next → Narrows given next
narrows_both given found next h k = record {
  extends = λ f follows. h.extends f (k.extends f follows);
  consistent = λ own. k.consistent (h.consistent own);
}

still_placed : (a b : Skeleton) (found next : PartialMap) (item : Item) → Narrows found next → IsPlaced a b found item → IsPlaced a b next item
still_placed a b found next item k p = (p.0, λ f follows. p.1 f (k.extends f follows))

module _ (a b : Skeleton) (item : Item) (number : ℕ) (given : PartialMap) where
  item_placed : (found : PartialMap) → IsExtended (TakesItem a b item number) given found → PlacesItem a b item given found
  item_placed found h = record { narrows = record { extends = h.extends; consistent = h.consistent }; placed = (number, h.sound) }

  pub placed_if_found : (answer : Option Partial) → FindsMaps (TakesItem a b item number) given answer → IfSome answer (λ p. PlacesItem a b item given (partial_view p))
  placed_if_found None h = tt
  placed_if_found (Some p) h = item_placed (partial_view p) h

module _ (a b : Skeleton) (given found : PartialMap) where
  module _ (kinds : List Kind) (kind : Kind) (n : ℕ) (h : PlacesKinds a b kinds given found × ArePlaced a b found kind n) where
    -- One more item of the kind that comes after others.
    pub next_placed : (next : PartialMap) → PlacesItem a b (record { kind = kind; index = n }) found next → PlacesKinds a b kinds given next × ArePlaced a b next kind (n + 1)
    next_placed next p = (
      record {
        narrows = narrows_both given found next h.0.narrows p.narrows;
        placed = λ other q i l. still_placed a b found next (record { kind = other; index = i }) p.narrows (h.0.placed other q i l);
      },
      λ i l. earlier_or_now i (eq-or-lt_of_le (omega (arith, l))),
    )
      where
        earlier_or_now : (i : ℕ) → (i ≡ n) ⊎ (i < n) → IsPlaced a b next (record { kind = kind; index = i })
        earlier_or_now i (inl same) = subst (λ (j : ℕ). IsPlaced a b next (record { kind = kind; index = j })) (sym same) p.placed
        earlier_or_now i (inr less) = still_placed a b found next (record { kind = kind; index = i }) p.narrows (h.1 i less)

    -- All items of it.
    kind_placed : item_count kind a ≤ n → PlacesKinds a b (kinds ++ (kind ∷ [])) given found
    kind_placed done = record { narrows = h.0.narrows; placed = λ other p. either other (in_append kinds (kind ∷ []) p) }
      where
        either : (other : Kind) → IsIn other kinds ⊎ IsIn other (kind ∷ []) → ArePlaced a b found other (item_count other a)
        either other (inl q) = h.0.placed other q
        either other (inr here) = λ i l. h.1 i (omega (arith, l, done))
        either other (inr (there q)) = elim q [ ]

  pub kinds_next : (kinds : List Kind) (k : ℕ) (kind : Kind) (n : ℕ) → item_at kinds k ≡ Some kind → item_count kind a ≤ n → PlacesKinds a b (take k kinds) given found × ArePlaced a b found kind n →
      PlacesKinds a b (take (k + 1) kinds) given found
  kinds_next kinds k kind n at done h = subst (λ (ks : List Kind). PlacesKinds a b ks given found) (take_next kinds k kind at) (kind_placed (take k kinds) kind n h done)

all_kinds : (kind : Kind) → IsIn kind (Strands ∷ NonOriginating ∷ PenetratorNonOriginating ∷ Uniques ∷ [])
all_kinds Strands = here
all_kinds NonOriginating = there here
all_kinds PenetratorNonOriginating = there (there here)
all_kinds Uniques = there (there (there here))

pub whole_by_kinds : (a b : Skeleton) (given found : PartialMap) → IsStarted a b given → PlacesKinds a b (Strands ∷ NonOriginating ∷ PenetratorNonOriginating ∷ Uniques ∷ []) given found → IsWholeMap a b found
whole_by_kinds a b given found started h = record {
  consistent = h.narrows.consistent started.consistent;
  problem = λ f follows. started.problem f (h.narrows.extends f follows);
  placed = λ item l. h.placed item.kind (all_kinds item.kind) item.index l;
}

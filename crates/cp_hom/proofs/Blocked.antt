-- Images that other role strands have.
use Rattle.std.proofs.Common.{◌≡◌, ℕ, zero, suc, ◌<◌, ◌≤◌, ◌+◌, List, [], ◌∷◌, length, drop, get_or, sym, ◌∙◌, subst, subst₂, arith, inl, inr}
use Rattle.std.specs.Prelude.{Option, Some, None}
use Rattle.std.proofs.lemmas.List.{drop_all}
use Rattle.cp_lists.proofs.Members.{drop_read}
use Rattle.cp_model.specs.Skeleton.{SkeletonStrand, Skeleton}
use Rattle.cp_model.specs.Homomorphism.{SkeletonMap}
use Rattle.cp_hom.specs.PartialMaps.{PartialMap, partial_view, Places, IsExtended, IsOfNoExtension, FindsMaps}
use Rattle.cp_hom.specs.Counterparts.{TakesAs, TakesItem, IsRoleStrand, KeepsApart, HoldsImage, IsTaken, IsBlocked, KeepsPairs, KeepsOrderApart}
use Rattle.cp_hom.specs.declared.items.Kind.{Kind}
use Rattle.cp_hom.specs.declared.items.Kind.TheVariants.{Strands}
use Rattle.cp_hom.specs.declared.items.Item.{Item}
use Rattle.cp_hom.specs.declared.partials.Partial.{Partial}
use Rattle.cp_hom.specs.declared.partials.Placement.{Placement}

pub taken_here : (strands : List SkeletonStrand) (s image : ℕ) (ps : List Placement) (i : ℕ) (p : Placement) → i < length ps → p ≡ get_or ps i p → HoldsImage strands s image p → IsTaken strands s image ps
taken_here strands s image [] i p l is h = absurd (omega (arith, l))
taken_here strands s image (q ∷ ps) zero p l is h = inl (subst (HoldsImage strands s image) is h)
taken_here strands s image (q ∷ ps) (suc i) p l is h = inr (taken_here strands s image ps i p (omega (arith, l)) is h)

one_less : (strands : List SkeletonStrand) (s image : ℕ) (ps : List Placement) (p : Placement) → (HoldsImage strands s image p → ⊥) → IsTaken strands s image (p ∷ ps) → IsTaken strands s image ps
one_less strands s image ps p other (inl h) = absurd (other h)
one_less strands s image ps p other (inr h) = h

pub taken_later : (strands : List SkeletonStrand) (s image : ℕ) (ps : List Placement) (i : ℕ) (p : Placement) → i < length ps → p ≡ get_or ps i p → (HoldsImage strands s image p → ⊥) →
    (IsTaken strands s image ps → IsTaken strands s image (drop i ps)) → IsTaken strands s image ps → IsTaken strands s image (drop (i + 1) ps)
taken_later strands s image ps i p l is other so_far h =
    one_less strands s image (drop (i + 1) ps) p other (subst (IsTaken strands s image) (drop_read ps i p l is) (so_far h))

pub taken_nowhere : (strands : List SkeletonStrand) (s image : ℕ) (ps : List Placement) (i : ℕ) → length ps ≤ i →
    (IsTaken strands s image ps → IsTaken strands s image (drop i ps)) → IsTaken strands s image ps → ⊥
taken_nowhere strands s image ps i done so_far h = subst (IsTaken strands s image) (drop_all i ps done) (so_far h)

-- A map that keeps role strands apart sends no other one there.
taken_apart : (strands : List SkeletonStrand) (f : ℕ → ℕ) (s image : ℕ) (ps : List Placement) → KeepsApart strands f → IsRoleStrand strands s → Places f ps → IsTaken strands s image ps → f s ≡ image → ⊥
taken_apart strands f s image [] apart role placed h e = h
taken_apart strands f s image (p ∷ ps) apart role placed (inl h) e = h.other (apart p.strand s h.role_strand role (placed.0 ∙ h.goes ∙ sym e))
taken_apart strands f s image (p ∷ ps) apart role placed (inr h) e = taken_apart strands f s image ps apart role placed.1 h e

strand_sent : (a b : Skeleton) (kind : Kind) (i image : ℕ) (f : SkeletonMap) → kind ≡ Strands → TakesAs kind a b i image f → f.strands i ≡ image
strand_sent a b kind i image f e t = (subst (λ (k : Kind). TakesAs k a b i image f) e t).goes

pub blocked_never : (a b : Skeleton) (item : Item) (image : ℕ) (given : PartialMap) → IsBlocked a.strands item image given.placements →
    IsOfNoExtension (λ f. KeepsOrderApart a b f × TakesItem a b item image f) given
blocked_never a b item image given h = λ f follows w.
    taken_apart a.strands f.strands item.index image given.placements w.0.apart h.role_strand follows.0 h.taken (strand_sent a b item.kind item.index image f h.strand w.1)

-- Where nothing was found, nothing is found among those of which the condition is true.
pub none_found : (condition fact : SkeletonMap → Type 0) (given copy : PartialMap) (answer : Option Partial) → copy ≡ given → answer ≡ None → FindsMaps fact copy answer → IsOfNoExtension (λ f. condition f × fact f) given
none_found condition fact given copy answer e n h =
    let never : IsOfNoExtension fact given = subst₂ (FindsMaps fact) e n h in
    λ f follows w. never f follows w.1

-- What was found is so of what was copied.
pub found_extends : (fact : SkeletonMap → Type 0) (given copy : PartialMap) (answer : Option Partial) (found : Partial) → copy ≡ given → answer ≡ Some found → FindsMaps fact copy answer → IsExtended fact given (partial_view found)
found_extends fact given copy answer found e n h = subst₂ (FindsMaps fact) e n h

-- What was found places strands so that the order is not kept.
pub broken_never : (a b : Skeleton) (fact : SkeletonMap → Type 0) (given found : PartialMap) → IsExtended fact given found →
    ((f : SkeletonMap) → Places f.strands found.placements → KeepsPairs a.pairs b.pairs f → ⊥) → IsOfNoExtension (λ f. KeepsOrderApart a b f × fact f) given
broken_never a b fact given found h breaks = λ f follows w. breaks f (h.general f follows w.1).0 w.0.pairs

-- Partial maps of skeletons: what is known so far of a map that is looked for.
use Rattle.std.specs.Prelude.{◌≡◌, ℕ, Bool, List, [], ◌∷◌, Option, Some, None, IfSome, MatchOption, ◌==◌, if◌then◌else◌}
use Rattle.cp_model.specs.Homomorphism.{SkeletonMap, number_or}
use Rattle.cp_unify.specs.Bindings.{Binding, as_substitution}
use Rattle.cp_unify.specs.Beside.{Agrees}
use Rattle.cp_hom.specs.declared.partials.Placement.{Placement}
use Rattle.cp_hom.specs.declared.partials.Partial.{Partial}

-- Some strands with their images, and some variables with theirs.
pub record PartialMap : Type 0 where
  pub placements : List Placement
  pub bindings : List Binding

abbrev pub partial_view : Partial → PartialMap
partial_view p = record { placements = p.placements.items; bindings = p.values }

-- The partial map that says nothing.
abbrev pub nothing : PartialMap
nothing = record { placements = []; bindings = [] }

-- The image of a strand, if it is placed; the first where there are several.
abbrev pub image_in : List Placement → ℕ → Option ℕ
image_in [] s = None
image_in (p ∷ ps) s = if p.strand == s then Some p.image else image_in ps s

-- The function sends each placed strand to its image.
abbrev pub Places : (ℕ → ℕ) → List Placement → Type 0
Places f [] = Unit {0}
Places f (p ∷ ps) = (f p.strand ≡ p.image) × Places f ps

-- The map does what the partial map says.
abbrev pub ExtendsPartial : SkeletonMap → PartialMap → Type 0
ExtendsPartial f p = Places f.strands p.placements × Agrees f.terms p.bindings

-- The map that does what the partial map says, and leaves the rest as it is.
abbrev pub map_of : PartialMap → SkeletonMap
map_of p = record { strands = λ s. number_or s (image_in p.placements s); terms = as_substitution p.bindings }

-- The partial map says nothing twice in two ways.
abbrev pub IsConsistent : PartialMap → Type 0
IsConsistent p = ExtendsPartial (map_of p) p

-- Of the maps that follow the given one, those of which the fact is true are those that follow the one that was found; and
-- that is consistent, where the given one is.
pub record IsExtended (fact : SkeletonMap → Type 0) (given found : PartialMap) : Type 0 where
  pub extends : (f : SkeletonMap) → ExtendsPartial f found → ExtendsPartial f given
  pub sound : (f : SkeletonMap) → ExtendsPartial f found → fact f
  pub general : (f : SkeletonMap) → ExtendsPartial f given → fact f → ExtendsPartial f found
  pub consistent : IsConsistent given → IsConsistent found

-- The fact is true of no map that follows the given one.
abbrev pub IsOfNoExtension : (SkeletonMap → Type 0) → PartialMap → Type 0
IsOfNoExtension fact given = (f : SkeletonMap) → ExtendsPartial f given → fact f → ⊥

-- What is found are the maps that follow the given one and of which the fact is true; nothing, where there are none.
abbrev pub FindsMaps : (SkeletonMap → Type 0) → PartialMap → Option Partial → Type 0
FindsMaps fact given answer = MatchOption answer (IsOfNoExtension fact given) (λ q. IsExtended fact given (partial_view q))

-- The same among maps of which a condition is true: nothing may also be found where none of these has the fact.
abbrev pub FindsAmong : (SkeletonMap → Type 0) → (SkeletonMap → Type 0) → PartialMap → Option Partial → Type 0
FindsAmong condition fact given answer = MatchOption answer (IsOfNoExtension (λ f. condition f × fact f) given) (λ q. IsExtended fact given (partial_view q))

-- What is known of a fact beforehand, if anything is: that all maps that follow the given one have it, so that the given one
-- itself is found; or that none has it.
abbrev pub IsKnown : (SkeletonMap → Type 0) → Partial → Option Bool → Type 0
IsKnown fact given known = IfSome known (λ has. FindsMaps fact (partial_view given) (if has then Some given else None))

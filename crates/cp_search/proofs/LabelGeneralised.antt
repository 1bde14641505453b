-- A label that is generalised: what comes of it.
use Rattle.std.proofs.Common.{◌≡◌, ℕ, List, [], ◌∷◌, length, true, false, Option, Some, None, IfSome, IfNone, sym, ap, subst, ◌∙◌, refl}
use Rattle.cp_lists.specs.Lists.{item_at}
use Rattle.cp_lists.proofs.Members.{only_item}
use Rattle.cp_model.specs.Strand.{Protocol}
use Rattle.cp_model.specs.declared.variable.Declaration.{Declaration}
use Rattle.cp_model.specs.Skeleton.{Skeleton, IsSkeleton}
use Rattle.cp_model.specs.PointOfView.{IsPointOfView}
use Rattle.cp_general.specs.Generalisation.{IsMaximallyGeneral, GeneralisesTo, last_step, next_step}
use Rattle.cp_tree.specs.Made.{made_of_generalisation}
use Rattle.cp_tree.specs.Sound.{IsSoundMade, GeneralisesSoundly}
use Rattle.cp_search.specs.declared.made.Made.{Made}
use Rattle.cp_search.specs.MadeLabels.{made_view, AddsMade, AddsGeneral, AreFound}
use Rattle.cp_search.specs.ResolvedLabels.{AreSoundMade}
use Rattle.cp_search.specs.declared.resolved.Resolved.TheVariants as settled
use Rattle.cp_search.specs.GeneralLabels.{ResolvesRealised}
use Rattle.cp_search.proofs.SoundBehind.{sound_behind}

-- No step applies to what a skeleton generalises to.
pub ends_most_general : {k g : Skeleton} → GeneralisesTo k g → IsMaximallyGeneral g
ends_most_general (last_step s most) = most
ends_most_general (next_step s rest) = ends_most_general rest

-- What is true of something is true of what it is.
pub of_some : (o : Option Skeleton) (g : Skeleton) (fact : Skeleton → Type 0) → IfSome o fact → o ≡ Some g → fact g
of_some o g fact h e = subst (λ (x : Option Skeleton). IfSome x fact) e h

-- A label that was made by generalising is its own generalisation.
pub known_own : (i : ℕ) (ms : List Made) (label : Made) → item_at ms i ≡ Some label → AreFound ms → label.general ≡ true → ResolvesRealised i ms ms (settled.Leaf None)
known_own i ms label at found known = (record { label = label; at = at; most_general = (found.each i label at).general known }, refl)

-- So is one of which nothing more general is found.
pub found_own : (i : ℕ) (ms : List Made) (label : Made) → item_at ms i ≡ Some label → (o : Option Skeleton) → IfNone o (IsMaximallyGeneral label.skeleton) → o ≡ None → ResolvesRealised i ms ms (settled.Leaf None)
found_own i ms label at o none e = (record { label = label; at = at; most_general = subst (λ (x : Option Skeleton). IfNone x (IsMaximallyGeneral label.skeleton)) e none }, refl)

-- What is made of the generalisation of a label is sound where all labels before are.
generalisation_sound : (protocol : Protocol) (i : ℕ) (old new : List Made) (label : Made) (g : Skeleton) → item_at old i ≡ Some label → GeneralisesTo label.skeleton g → AddsMade (made_of_generalisation i g) old new
    → ((variables : List Declaration) (k : Skeleton) → IsSkeleton protocol k → IsPointOfView variables k → GeneralisesSoundly protocol k) → label.dead ≡ false → AreSoundMade protocol old → AreSoundMade protocol new
generalisation_sound protocol i old new label g at to a law lives s =
    sound_behind old (a.added ∷ []) new a.behind s
    (λ m listed.
    let same : made_of_generalisation i g ≡ made_view m = sym a.same ∙ ap made_view (sym (only_item listed)) in
    subst (IsSoundMade protocol s.problem) same ((law s.variables s.problem s.skeleton s.own (made_view label) g (s.each i label at) lives to).made i))

-- What is made of another that is found.
pub found_other : (i child : ℕ) (old new : List Made) (label : Made) (g : Skeleton) → item_at old i ≡ Some label → label.general ≡ false → GeneralisesTo label.skeleton g
    → AddsMade (made_of_generalisation i g) old new → AddsGeneral true old new
    → ((protocol : Protocol) (variables : List Declaration) (k : Skeleton) → IsSkeleton protocol k → IsPointOfView variables k → GeneralisesSoundly protocol k) → child ≡ length old → ResolvesRealised i old new (settled.Generalised child)
found_other i child old new label g at unknown to made general law last =
    (record { label = label; at = at; unknown = unknown; skeleton = g; generalises = to; made = made; general = general; sound = λ protocol lives s. generalisation_sound protocol i old new label g at to made (law protocol) lives s }, last)

-- What the program finds of each label as it makes it.
use Rattle.std.specs.Prelude.{◌≡◌, ◌<◌, ℕ, List, [], ◌∷◌, ◌++◌, map, Bool, true, false, Option, Some, None}
use Rattle.cp_lists.specs.Lists.{item_at}
use Rattle.cp_model.specs.Strand.{Protocol}
use Rattle.cp_model.specs.Skeleton.{Skeleton, IsSkeleton}
use Rattle.cp_model.specs.PointOfView.{HasDeclaredVariables}
use Rattle.cp_derive.specs.Unrealised.{ListsUnrealised}
use Rattle.cp_fingerprint.specs.Isomorphic.{IsIsomorphic}
use Rattle.cp_fingerprint.specs.Signatures.{signature_of}
use Rattle.cp_tree.specs.Made as plain
use Rattle.cp_tree.specs.Made.{LabelLink, Reaches, MayPointTo}
use Rattle.cp_search.specs.declared.made.Made.{Made}
use Rattle.cp_shapes.specs.Shapes.{FindsLeast}
use Rattle.cp_general.specs.Generalisation.{IsMaximallyGeneral}

abbrev pub made_view : Made → plain.Made
made_view m = record { parent = m.parent; operation = m.operation; skeleton = m.skeleton; dead = m.dead }

abbrev pub made_link : Made → LabelLink
made_link m = record { parent = m.parent; seen_in = m.seen_in; skeleton = m.skeleton }

-- A link without the table of its skeleton.
abbrev pub untabled : LabelLink → LabelLink
untabled w = record w { skeleton = record w.skeleton { variables = [] } }

abbrev pub made_untabled : Made → LabelLink
made_untabled m = untabled (made_link m)

-- What is found of label i is true, where labels have these links: of one that is dead from the start no unrealised receptions
-- are listed, and it is seen nowhere; any other is seen in the least label to which it may point; and no step of generalising
-- applies to a general one.
pub record IsFound (links : List LabelLink) (i : ℕ) (m : Made) : Type 0 where
  pub signature : m.signature ≡ signature_of m.skeleton
  pub dead_none : m.dead ≡ true → m.unrealised ≡ []
  pub dead_unseen : m.dead ≡ true → m.seen_in ≡ None
  pub listed : m.dead ≡ false → ListsUnrealised m.skeleton m.unrealised
  pub seen : m.dead ≡ false → FindsLeast (MayPointTo links i) m.seen_in
  pub general : m.general ≡ true → IsMaximallyGeneral m.skeleton

-- What is found of a label is true, but for the one in which it is seen.
pub record IsFoundApart (m : Made) : Type 0 where
  pub signature : m.signature ≡ signature_of m.skeleton
  pub dead_none : m.dead ≡ true → m.unrealised ≡ []
  pub listed : m.dead ≡ false → ListsUnrealised m.skeleton m.unrealised
  pub general : m.general ≡ true → IsMaximallyGeneral m.skeleton

-- A label is made from one before it, if from any.
abbrev pub IsMadeLater : List Made → Type 0
IsMadeLater ms = (i p : ℕ) (m : Made) → item_at ms i ≡ Some m → m.parent ≡ Some p → p < i

-- What is found of each label is true.
pub record AreFound (ms : List Made) : Type 0 where
  pub each : (i : ℕ) (m : Made) → item_at ms i ≡ Some m → IsFound (map made_link ms) i m
  pub later : IsMadeLater ms

-- A label that is made from this one, or from none, with this skeleton may be seen in label n: that is isomorphic, and its parent
-- cannot be reached from there.
pub record MayBeSeen (ms : List Made) (parent : Option ℕ) (k : Skeleton) (n : ℕ) : Type 0 where
  pub other : Made
  pub at : item_at ms n ≡ Some other
  pub allowed : (p : ℕ) → parent ≡ Some p → Reaches (map made_link ms) n p → ⊥
  pub isomorphic : IsIsomorphic other.skeleton k

-- A new label behind these is seen in this one: in none if it is dead, and else in the least in which it may be seen.
pub record IsSeenIn (ms : List Made) (m : Made) (seen_in : Option ℕ) : Type 0 where
  pub dead : m.dead ≡ true → seen_in ≡ None
  pub living : m.dead ≡ false → FindsLeast (MayBeSeen ms m.parent m.skeleton) seen_in

-- The label was put behind the others, and what is found of each is true.
pub record AddsFound (m : Made) (old new : List Made) : Type 0 where
  pub behind : new ≡ old ++ m ∷ []
  pub found : AreFound new

-- The same of the label with the one in which it is seen and the key of its record.
pub record AddsFoundIn (m : Made) (old new : List Made) : Type 0 where
  pub seen_in : Option ℕ
  pub waiting : Option ℕ
  pub adds : AddsFound (record m { seen_in = seen_in; waiting = waiting }) old new

-- One label more was made, and what is found of it is true.
pub record AddsMade (m : plain.Made) (old new : List Made) : Type 0 where
  pub added : Made
  pub behind : new ≡ old ++ added ∷ []
  pub same : made_view added ≡ m
  pub found : AreFound new

-- One label more was made, which is a general one or not.
pub record AddsGeneral (general : Bool) (old new : List Made) : Type 0 where
  pub added : Made
  pub behind : new ≡ old ++ added ∷ []
  pub same : added.general ≡ general

-- Labels were made behind others, and what is found of each is true.
pub record AddMade (ms : List plain.Made) (old new : List Made) : Type 0 where
  pub added : List Made
  pub behind : new ≡ old ++ added
  pub same : map made_view added ≡ ms
  pub found : AreFound new

-- Each label is a skeleton over the protocol, with declared variables.
abbrev pub AreOver : Protocol → List Made → Type 0
AreOver protocol ms = (i : ℕ) (m : Made) → item_at ms i ≡ Some m → IsSkeleton protocol m.skeleton × HasDeclaredVariables m.skeleton.variables m.skeleton

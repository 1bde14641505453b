-- What becomes of a label, by the rule.
use Rattle.std.specs.Prelude.{◌≡◌, ◌≤◌, ◌⊎◌, ℕ, List, [], ◌∷◌, length, map, Option, Some, None}
use Rattle.cp_model.specs.Strand.{Protocol}
use Rattle.cp_model.specs.declared.node.Node.{Node}
use Rattle.cp_model.specs.Skeleton.{Skeleton}
use Rattle.cp_model.specs.Tree.{Label}
use Rattle.cp_model.specs.declared.tree.Mark.{Mark}
use Rattle.cp_model.specs.declared.tree.Mark.TheVariants.{Dead as dead}
use Rattle.cp_model.specs.declared.tree.Limits.{Limits}
use Rattle.cp_expansion.specs.Expansion.{Expansion, IsExpansionOf}
use Rattle.cp_general.specs.Generalisation.{IsMaximallyGeneral, GeneralisesTo}
use Rattle.cp_tree.specs.Made.{Made, made_of_child, made_of_generalisation, LabelLink}
use Rattle.cp_tree.specs.declared.rules.Rule.{Rule}
use Rattle.cp_tree.specs.declared.rules.Rule.TheVariants.{Leaf as leaf_with, Realised as realised, Tested as tested}
use Rattle.cp_tree.specs.Rules.{Facts, AreFacts, rule_of}

-- The label that was made so and is a leaf, with its unrealised receptions and its mark.
abbrev pub leaf : Made → List Node → Option Mark → Label
leaf m nodes mark = record { parent = m.parent; operation = m.operation; skeleton = m.skeleton; unrealised = nodes; test = None; escape = []; children = []; mark = mark }

-- An expanded label is dead where it has no children.
abbrev pub mark_by_children : List ℕ → Option Mark
mark_by_children [] = Some dead
mark_by_children (n ∷ ns) = None

-- The label that was made so and is expanded, with its unrealised receptions, its expansion, and the numbers of its children. Its
-- skeleton declares the locals of the patterns too.
abbrev pub expanded : Made → List Node → Expansion → List ℕ → Label
expanded m nodes e children = record { parent = m.parent; operation = m.operation; skeleton = record m.skeleton { variables = e.skeleton.variables }; unrealised = nodes; test = Some e.test; escape = e.patterns; children = children; mark = mark_by_children children }

-- The label that was made so and generalises to another, whose label has this number.
abbrev pub generalised : Made → ℕ → Label
generalised m child = record (leaf m [] None) { children = child ∷ [] }

-- A leaf with this mark, from which nothing is made.
abbrev pub IsLeaf : Made → List Node → Option Mark → Label → List Made → Type 0
IsLeaf m nodes mark l gives = (l ≡ leaf m nodes mark) × (gives ≡ [])

-- A realised label is its own generalisation, and marked among the candidates.
pub record IsOwn (marks : ℕ → Option Mark → Type 0) (i : ℕ) (m : Made) (nodes : List Node) (l : Label) (gives : List Made) : Type 0 where
  pub most_general : IsMaximallyGeneral m.skeleton
  pub mark : Option Mark
  pub marked : marks i mark
  pub is_leaf : IsLeaf m nodes mark l gives

-- Or its generalisation is made from it.
pub record IsGeneralisedLabel (i : ℕ) (m : Made) (l : Label) (gives : List Made) : Type 0 where
  pub skeleton : Skeleton
  pub generalises : GeneralisesTo m.skeleton skeleton
  pub child : ℕ
  pub label : l ≡ generalised m child
  pub made : gives ≡ made_of_generalisation i skeleton ∷ []

-- A tested label is expanded, and the children of its test are made from it.
pub record IsTested (protocol : Protocol) (i : ℕ) (m : Made) (nodes : List Node) (l : Label) (gives : List Made) : Type 0 where
  pub expansion : Expansion
  pub is_expansion : IsExpansionOf protocol m.skeleton expansion
  pub children : List ℕ
  pub count : length children ≡ length expansion.children
  pub label : l ≡ expanded m nodes expansion children
  pub made : gives ≡ map (made_of_child i) expansion.children

-- What each rule makes of label i.
abbrev pub ResolvesBy : Protocol → (ℕ → Option Mark → Type 0) → ℕ → Made → List Node → Rule → Label → List Made → Type 0
ResolvesBy protocol marks i m nodes (leaf_with mark) l gives = IsLeaf m nodes (Some mark) l gives
ResolvesBy protocol marks i m nodes realised l gives = IsOwn marks i m nodes l gives ⊎ IsGeneralisedLabel i m l gives
ResolvesBy protocol marks i m nodes tested l gives = IsTested protocol i m nodes l gives

-- What becomes of label i, which was made so, when `before` of the labels in front of it had been expanded, and which labels are
-- then made from it. No more labels are ever expanded than the limit says.
pub record Resolves (protocol : Protocol) (limits : Limits) (links : List LabelLink) (marks : ℕ → Option Mark → Type 0) (i before : ℕ) (m : Made) (l : Label) (gives : List Made) : Type 0 where
  pub facts : Facts
  pub are_facts : AreFacts links i m facts
  pub within : before ≤ limits.steps
  pub by_rule : ResolvesBy protocol marks i m facts.unrealised (rule_of limits before facts) l gives

-- The rule that says what becomes of a label.
use Rattle.std.specs.Prelude.{◌≡◌, ℕ, nat_lt, List, [], ◌∷◌, length, Bool, true, false, Option, Some, None}
use Rattle.cp_model.specs.declared.node.Node.{Node}
use Rattle.cp_model.specs.declared.tree.Limits.{Limits}
use Rattle.cp_model.specs.declared.tree.Mark.TheVariants.{Dead as dead, Seen as seen, LimitSteps as limit_steps, LimitStrands as limit_strands}
use Rattle.cp_derive.specs.Unrealised.{ListsUnrealised}
use Rattle.cp_shapes.specs.Shapes.{FindsLeast}
use Rattle.cp_tree.specs.Made.{Made, LabelLink, MayPointTo}
use Rattle.cp_tree.specs.declared.rules.Rule.{Rule}
use Rattle.cp_tree.specs.declared.rules.Rule.TheVariants.{Leaf as leaf_with, Realised as realised, Tested as tested}

-- What the rule asks of a label: whether it is dead from the start, the least label to which it may point, its unrealised
-- receptions, and its number of strands, listeners included.
pub record Facts : Type 0 where
  pub dead : Bool
  pub copy : Option ℕ
  pub unrealised : List Node
  pub strands : ℕ

-- By the first that applies; the last two tell whether the label is above the bound, and whether steps are left.
abbrev pub rule_by : Bool → Option ℕ → List Node → (above left : Bool) → Rule
rule_by true copy nodes above left = leaf_with dead
rule_by false (Some n) nodes above left = leaf_with (seen n)
rule_by false None [] above left = realised
rule_by false None (n ∷ ns) true left = leaf_with limit_strands
rule_by false None (n ∷ ns) false true = tested
rule_by false None (n ∷ ns) false false = leaf_with limit_steps

-- What becomes of a label of which this is known, when so many were expanded.
abbrev pub rule_of : Limits → ℕ → Facts → Rule
rule_of limits expanded f = rule_by f.dead f.copy f.unrealised (nat_lt limits.strands f.strands) (nat_lt expanded limits.steps)

-- This is known of label i, which was made so.
pub record AreFacts (links : List LabelLink) (i : ℕ) (m : Made) (f : Facts) : Type 0 where
  pub dead : f.dead ≡ m.dead
  pub dead_none : m.dead ≡ true → f.unrealised ≡ []
  pub listed : m.dead ≡ false → ListsUnrealised m.skeleton f.unrealised
  pub copy : m.dead ≡ false → FindsLeast (MayPointTo links i) f.copy
  pub strands : f.strands ≡ length m.skeleton.strands

-- What narrowing makes of a skeleton next.
use Rattle.std.specs.Prelude.{◌≡◌, ◌⊎◌, List, Some}
use Rattle.cp_model.specs.Skeleton.{Skeleton}
use Rattle.cp_model.specs.declared.node.OrderPair.{OrderPair}
use Rattle.cp_normal.specs.Branches.{IsSettled}
use Rattle.cp_normal.specs.Exact.{IsRefuted}
use Rattle.cp_normal.specs.Findings.{IsContradictory, IsNormalised}
use Rattle.cp_normal.specs.MisplacedValues.{IsFirstMisplaced}
use Rattle.cp_normal.specs.ReceivedAtomLists.{heard_before}
use Rattle.cp_normal.specs.declared.normal.FormPairs.{FormPairs}
use Rattle.cp_normal.specs.declared.normal.FormPairs.TheVariants.{Own, More}
use Rattle.cp_normal.specs.declared.narrowing.Next.{Next}
use Rattle.cp_normal.specs.declared.narrowing.Next.TheVariants.{Ends, Branches, Settles}

-- The pairs of a normal form of k.
abbrev pub form_pairs : Skeleton → FormPairs → List OrderPair
form_pairs k Own = k.pairs
form_pairs k (More pairs) = pairs.items

-- Nothing, if the skeleton is refuted or contradicts itself; branches by its first misplaced value and the atoms received before
-- it; or its normal form, with its normal pairs.
abbrev pub IsNextOf : Skeleton → Next → Type 0
IsNextOf k Ends = IsRefuted k ⊎ (IsSettled k × IsContradictory k)
IsNextOf k (Branches misplaced atoms) = (IsRefuted k → ⊥) × IsFirstMisplaced k misplaced.value misplaced.node × (atoms.items ≡ heard_before k misplaced.node)
IsNextOf k (Settles pairs) = IsSettled k × IsNormalised k (Some (form_pairs k pairs))

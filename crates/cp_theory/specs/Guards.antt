-- Patterns that guard a test.
use Rattle.std.specs.Prelude.{◌≡◌, List, Some}
use Rattle.cp_lists.specs.Lists.{IsIn}
use Rattle.cp_model.specs.Term.{KeyTerm, Term, enc_term, variables_of, variables_of_key}
use Rattle.cp_model.specs.declared.variable.Variable.{Variable}
use Rattle.cp_model.specs.Identity.{unchanged}
use Rattle.cp_model.specs.declared.strand.Event.TheVariants.{Send as send}
use Rattle.cp_model.specs.declared.node.Node.{Node}
use Rattle.cp_model.specs.Skeleton.{term_event_at, Skeleton, Before}
use Rattle.cp_model.specs.Derivable.{IsOnInstance}
use Rattle.cp_model.specs.Tree.{Pattern}
use Rattle.cp_model.specs.Pattern.{IsPattern}
use Rattle.cp_theory.specs.Matches.{IsFreeIn}
use Rattle.cp_theory.specs.Inside.{CarriesInsideAlone}
use Rattle.cp_theory.specs.Critical.{used_variables}

-- The key of the pattern's own, outermost encryption holds no local.
abbrev pub HoldsNoLocalInItsKey : Pattern → Type 0
HoldsNoLocalInItsKey p = (body : Term) (key : KeyTerm) (x : Variable) → p.term ≡ enc_term body key → IsIn x (variables_of_key key) → IsIn x p.locals → ⊥

-- The patterns guard the test of c at n. Each is a pattern, whose own key holds no local; the variables of c, and the
-- others of the patterns, are variables of the skeleton; and each transmission of a role strand before n carries c inside
-- the patterns alone.
pub record Guards (ps : List Pattern) (k : Skeleton) (n : Node) (c : Term) : Type 0 where
  pub patterns : (p : Pattern) → IsIn p ps → IsPattern p
  pub keys : (p : Pattern) → IsIn p ps → HoldsNoLocalInItsKey p
  pub used_by_patterns : (p : Pattern) (x : Variable) → IsIn p ps → IsFreeIn x p → IsIn x (used_variables k)
  pub used_by_critical : (x : Variable) → IsIn x (variables_of c) → IsIn x (used_variables k)
  pub inside : (m : Node) (t : Term) → IsOnInstance k m → term_event_at k.strands m ≡ Some (send t) → Before k m n → CarriesInsideAlone ps unchanged c t

-- What is true of each label that is made, and of each expansion: no standing is missed.
use Rattle.std.specs.Prelude.{◌≡◌, ℕ, map, true, false}
use Rattle.cp_lists.specs.Lists.{IsIn}
use Rattle.cp_model.specs.Strand.{Protocol}
use Rattle.cp_model.specs.Bundle.{Bundle, IsBundle}
use Rattle.cp_model.specs.Skeleton.{Skeleton, IsSkeleton}
use Rattle.cp_model.specs.Derivable.{IsUnrealised}
use Rattle.cp_model.specs.Realisation.{KeepsAssumptions}
use Rattle.cp_model.specs.Standing.{Standing, StandsIn, StandsApart}
use Rattle.cp_model.specs.Homomorphism.{CarriesHomomorphism, Embeds}
use Rattle.cp_model.specs.PointOfView.{HasDeclaredVariables}
use Rattle.cp_model.specs.Stated.{KeepsStated}
use Rattle.cp_theory.specs.NoneLeftOut.{IsComplete}
use Rattle.cp_roots.specs.Roots.{in_report_order}
use Rattle.cp_cohort.specs.declared.child.Child.{Child}
use Rattle.cp_expansion.specs.Expansion.{Expansion, IsExpansionOf}
use Rattle.cp_general.specs.Generalisation.{GeneralisesTo}
use Rattle.cp_tree.specs.Made.{Made, made_of_child, made_of_generalisation}

-- What is made is a skeleton over the protocol, carries a homomorphism from the problem k, and keeps what that states itself;
-- its variables are declared. If it lives its assumptions are true of it; if it is dead from the start it stands apart nowhere.
pub record IsSoundMade (protocol : Protocol) (k : Skeleton) (m : Made) : Type 0 where
  pub skeleton : IsSkeleton protocol m.skeleton
  pub from_problem : CarriesHomomorphism k m.skeleton
  pub stated : KeepsStated k m.skeleton
  pub declared : HasDeclaredVariables m.skeleton.variables m.skeleton
  pub assumptions : m.dead ≡ false → KeepsAssumptions m.skeleton
  pub nowhere : m.dead ≡ true → (b : Bundle) (g : Standing) → IsBundle protocol b → StandsIn m.skeleton b g → StandsApart m.skeleton g → ⊥

-- What is made of each child of the expansion is sound, and together they leave out no standing of what was expanded.
pub record IsSoundExpansion (protocol : Protocol) (k : Skeleton) (m : Made) (e : Expansion) : Type 0 where
  pub children : (i : ℕ) (c : Child) → IsIn c e.children → IsSoundMade protocol k (made_of_child i c)
  pub leaves_none_out : IsComplete protocol m.skeleton (map (λ (c : Child). in_report_order c.skeleton) e.children)

-- Each expansion of what is sound, lives and is unrealised is sound.
abbrev pub ExpandsSoundly : Protocol → Skeleton → Type 0
ExpandsSoundly protocol k = (m : Made) (e : Expansion) → IsSoundMade protocol k m → m.dead ≡ false → IsUnrealised m.skeleton → IsExpansionOf protocol m.skeleton e → IsSoundExpansion protocol k m e

-- What a label generalises to is sound, and embeds in the label.
pub record IsSoundGeneralisation (protocol : Protocol) (k : Skeleton) (m : Made) (g : Skeleton) : Type 0 where
  pub made : (i : ℕ) → IsSoundMade protocol k (made_of_generalisation i g)
  pub embeds : Embeds g m.skeleton

-- Each generalisation of what is sound and lives is sound.
abbrev pub GeneralisesSoundly : Protocol → Skeleton → Type 0
GeneralisesSoundly protocol k = (m : Made) (g : Skeleton) → IsSoundMade protocol k m → m.dead ≡ false → GeneralisesTo m.skeleton g → IsSoundGeneralisation protocol k m g

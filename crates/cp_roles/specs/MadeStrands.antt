-- The strands of a problem, and the variables that are made for them.
use Rattle.std.specs.Prelude.{◌≡◌, ◌++◌, ℕ, List, Option, Some, None}
use Rattle.cp_model.specs.Strand.{Role}
use Rattle.cp_model.specs.declared.variable.Declaration.{Declaration}
use Rattle.cp_model.specs.Skeleton.{SkeletonStrand, instance}
use Rattle.cp_model.specs.Bindings.{bindings_of}
use Rattle.cp_sexpr.specs.Syntax.{Form}
use Rattle.cp_language.specs.Problems.{instance_of_role, Strands}

-- The instance of a role, and the variables made for it.
abbrev pub instance_made : Role → List Declaration → ℕ → ℕ → List Form → SkeletonStrand × List Declaration
instance_made role ds next height maplets =
    (instance role height (bindings_of (instance_of_role role ds next height maplets).terms), (instance_of_role role ds next height maplets).fresh)

-- This strand is made, and the variables made for it stand behind those before.
pub record IsMade (made : SkeletonStrand × List Declaration) (strand : SkeletonStrand) (before after : List Declaration) : Type 0 where
  pub same : strand ≡ made.0
  pub behind : after ≡ before ++ made.1

-- A strand is made where one is stated.
abbrev pub IsMadeIf : Option (SkeletonStrand × List Declaration) → Option SkeletonStrand → List Declaration → List Declaration → Type 0
IsMadeIf None None before after = after ≡ before
IsMadeIf None (Some strand) before after = ⊥
IsMadeIf (Some made) None before after = ⊥
IsMadeIf (Some made) (Some strand) before after = IsMade made strand before after

-- These strands are made, and the variables made for them stand behind those before.
pub record AreMade (made : Strands) (strands : List SkeletonStrand) (before after : List Declaration) : Type 0 where
  pub same : strands ≡ made.strands
  pub behind : after ≡ before ++ made.fresh

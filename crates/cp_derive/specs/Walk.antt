-- The way to the first component that cannot be derived.
use Rattle.std.specs.Prelude.{◌≡◌, List, [], ◌∷◌, ◌++◌, Option, Some, None}
use Rattle.cp_model.specs.Term.{Term, pair_term}
use Rattle.cp_model.specs.declared.step.Step.{Step}
use Rattle.cp_model.specs.declared.step.Step.TheVariants.{Left, Right}
use Rattle.cp_derive.specs.Given.{Given, IsDerivable}

-- The term is no pair.
abbrev pub IsNoPairTerm : Term → Type 0
IsNoPairTerm (pair_term a b) = ⊥
IsNoPairTerm _ = Unit {0}

-- The path leads to c, which cannot be derived, past parts that can.
pub data LeadsToFirst (g : Given) (c : Term) : Term → List Step → Type 0 where
  at_itself : IsNoPairTerm c → (IsDerivable g c → ⊥) → LeadsToFirst g c c []
  to_left : {a b : Term} {path : List Step} → LeadsToFirst g c a path → LeadsToFirst g c (pair_term a b) (Left ∷ path)
  to_right : {a b : Term} {path : List Step} → IsDerivable g a → LeadsToFirst g c b path → LeadsToFirst g c (pair_term a b) (Right ∷ path)

-- It leads on from these steps.
pub record WalksTo (g : Given) (whole : Term) (from to : List Step) (c : Term) : Type 0 where
  pub path : List Step
  pub behind : to ≡ from ++ path
  pub leads : LeadsToFirst g c whole path

-- What was found: nothing, and then the whole can be derived; or the first component that cannot.
abbrev pub FindsComponent : Given → Term → List Step → List Step → Option Term → Type 0
FindsComponent g whole from to None = (to ≡ from) × IsDerivable g whole
FindsComponent g whole from to (Some c) = WalksTo g whole from to c

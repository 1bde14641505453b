-- What is sound, or was made by generalising from what is sound.
use Rattle.std.proofs.Common.{◌≡◌, ◌⊎◌, inl, inr, ℕ, List, true, false, refl, sym, ap, ◌∙◌, subst}
use Rattle.cp_model.specs.Strand.{Protocol}
use Rattle.cp_model.specs.declared.variable.Declaration.{Declaration}
use Rattle.cp_model.specs.Bundle.{Bundle, IsBundle}
use Rattle.cp_model.specs.Skeleton.{Skeleton, IsSkeleton}
use Rattle.cp_model.specs.Standing.{Standing, StandsIn, StandsApart}
use Rattle.cp_model.specs.Derivable.{IsUnrealised}
use Rattle.cp_model.specs.Realisation.{KeepsAssumptions, AllDerivable}
use Rattle.cp_model.specs.PointOfView.{HasDeclaredVariables}
use Rattle.cp_general.specs.Generalisation.{IsMaximallyGeneral, GeneralisesTo}
use Rattle.cp_general.proofs.SoundGeneralisations.{is_fit, is_most_general, is_skeleton, keeps_assumptions, are_declared, same_table}
use Rattle.cp_tree.specs.Made.{Made, made_of_generalisation}
use Rattle.cp_tree.specs.Sound.{IsSoundMade, GeneralisesSoundly}
use Rattle.cp_tree.proofs.GeneralisedOnce.{not_further}
use Rattle.cp_tree.proofs.MarksSay.{not_both}

module _ (protocol : Protocol) (k : Skeleton) where
  -- It was made by generalising from what is sound and lives.
  pub record IsGeneralisedFrom (m : Made) : Type 0 where
    pub so : Made
    pub sound : IsSoundMade protocol k so
    pub lives : so.dead ≡ false
    pub skeleton : Skeleton
    pub generalises : GeneralisesTo so.skeleton skeleton
    pub number : ℕ
    pub is_made : made_of_generalisation number skeleton ≡ m

  abbrev pub IsSoundLabel : Made → Type 0
  IsSoundLabel m = IsSoundMade protocol k m ⊎ IsGeneralisedFrom m

  pub label_skeleton : (m : Made) → IsSoundLabel m → IsSkeleton protocol m.skeleton
  label_skeleton m (inl s) = s.skeleton
  label_skeleton m (inr g) = subst (λ (x : Made). IsSkeleton protocol x.skeleton) g.is_made (is_skeleton protocol g.generalises g.sound.skeleton)

  pub label_declared : (m : Made) → IsSoundLabel m → HasDeclaredVariables m.skeleton.variables m.skeleton
  label_declared m (inl s) = s.declared
  label_declared m (inr g) =
      let table : g.skeleton.variables ≡ g.so.skeleton.variables = same_table g.so.skeleton.variables g.generalises refl in
      subst (λ (x : Made). HasDeclaredVariables x.skeleton.variables x.skeleton) g.is_made
      (subst (λ (ds : List Declaration). HasDeclaredVariables ds g.skeleton) (sym table) (are_declared g.so.skeleton.variables g.generalises g.sound.declared))

  pub label_assumptions : (m : Made) → IsSoundLabel m → m.dead ≡ false → KeepsAssumptions m.skeleton
  label_assumptions m (inl s) d = s.assumptions d
  label_assumptions m (inr g) d = subst (λ (x : Made). KeepsAssumptions x.skeleton) g.is_made (keeps_assumptions protocol g.generalises g.sound.skeleton)

  pub label_nowhere : (m : Made) → IsSoundLabel m → m.dead ≡ true → (b : Bundle) (h : Standing) → IsBundle protocol b → StandsIn m.skeleton b h → StandsApart m.skeleton h → ⊥
  label_nowhere m (inl s) d = s.nowhere d
  label_nowhere m (inr g) d = absurd (let e : false ≡ true = ap (λ (x : Made). x.dead) g.is_made ∙ d in cc)

  -- What was made by generalising is neither unrealised nor generalises further.
  pub where_unrealised : (m : Made) → IsSoundLabel m → IsUnrealised m.skeleton → IsSoundMade protocol k m
  where_unrealised m (inl s) u = s
  where_unrealised m (inr g) u = absurd (not_both m.skeleton u (subst (λ (x : Made). AllDerivable x.skeleton) g.is_made (is_fit g.generalises).realised))

  pub where_further : (m : Made) (h : Skeleton) → IsSoundLabel m → GeneralisesTo m.skeleton h → IsSoundMade protocol k m
  where_further m h (inl s) to = s
  where_further m h (inr g) to = absurd (not_further (subst (λ (x : Made). IsMaximallyGeneral x.skeleton) g.is_made (is_most_general g.generalises)) to)

  -- Where generalising is sound it is sound itself.
  pub itself_sound : GeneralisesSoundly protocol k → (m : Made) → IsSoundLabel m → IsSoundMade protocol k m
  itself_sound generalises m (inl s) = s
  itself_sound generalises m (inr g) = subst (IsSoundMade protocol k) g.is_made ((generalises g.so g.skeleton g.sound g.lives g.generalises).made g.number)

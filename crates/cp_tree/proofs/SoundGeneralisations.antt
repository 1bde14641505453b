-- Each generalisation of a sound label is sound.
use Rattle.std.proofs.Common.{◌≡◌, ℕ, List, true, false, refl, sym, subst}
use Rattle.cp_model.specs.Strand.{Protocol}
use Rattle.cp_model.specs.declared.variable.Declaration.{Declaration}
use Rattle.cp_model.specs.Skeleton.{Skeleton, IsSkeleton}
use Rattle.cp_model.specs.PointOfView.{HasDeclaredVariables, IsPointOfView}
use Rattle.cp_general.specs.Generalisation.{GeneralisesTo}
use Rattle.cp_general.proofs.SoundGeneralisations.{embeds_back, keeps_assumptions, are_declared, same_table, IsSoundFrom, sound_from}
use Rattle.cp_tree.specs.Made.{Made, made_of_generalisation}
use Rattle.cp_tree.specs.Sound.{IsSoundMade, GeneralisesSoundly}

module _ (protocol : Protocol) (variables : List Declaration) (problem : Skeleton) (skeleton : IsSkeleton protocol problem) (own : IsPointOfView variables problem) where
  generalisation_is_sound : (m : Made) (g : Skeleton) → IsSoundMade protocol problem m → GeneralisesTo m.skeleton g → (i : ℕ) → IsSoundMade protocol problem (made_of_generalisation i g)
  generalisation_is_sound m g sound to i =
      let s : IsSoundFrom protocol problem g = sound_from protocol variables problem skeleton own to (record { skeleton = sound.skeleton; carries = sound.from_problem; stated = sound.stated }) in
      record {
        skeleton = s.skeleton;
        from_problem = s.carries;
        stated = s.stated;
        declared = subst (λ (ds : List Declaration). HasDeclaredVariables ds g) (sym (same_table m.skeleton.variables to refl)) (are_declared m.skeleton.variables to sound.declared);
        assumptions = λ lives. keeps_assumptions protocol to sound.skeleton;
        nowhere = λ d. absurd (let e : false ≡ true = d in cc);
      }

  pub generalises_soundly : GeneralisesSoundly protocol problem
  generalises_soundly m g sound lives to = record { made = generalisation_is_sound m g sound to; embeds = embeds_back to }

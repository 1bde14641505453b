-- The first of the positions that is outside.
use Rattle.std.proofs.Common.{◌≡◌, ⊎_elim, ℕ, ◌+◌, ◌<◌, ◌≤◌, List, [], ◌∷◌, ◌++◌, length, get_or, drop, take, sym, ap, ◌∙◌, subst}
use Rattle.std.proofs.lemmas.List.{take-append-drop, take_all, take_more}
use Rattle.cp_lists.specs.Lists.{IsIn}
use Rattle.cp_lists.proofs.Members.{in_append, only_item, drop_read}
use Rattle.cp_model.specs.Same.{same_term}
use Rattle.cp_model.specs.Term.{Term, Substitution}
use Rattle.cp_model.specs.Tree.{Pattern}
use Rattle.cp_model.specs.Positions.{positions_where}
use Rattle.cp_model.specs.declared.step.Step.{Step}
use Rattle.cp_term.proofs.PositionLaws.{part_found}
use Rattle.cp_theory.specs.Inside.{IsInside, CarriesInsideAlone}
use Rattle.cp_pattern.specs.Outside.{IsFirstPositionOutside}

-- These positions are inside.
abbrev pub AreInside : List Pattern → Substitution → Term → List (List Step) → Type 0
AreInside ps s t paths = (q : List Step) → IsIn q paths → IsInside ps s t q

module _ (ps : List Pattern) (s : Substitution) (c t : Term) (paths : List (List Step)) (all : paths ≡ positions_where (same_term c) t) (i : ℕ) (so_far : AreInside ps s t (take i paths)) where
  pub all_inside : length paths ≤ i → CarriesInsideAlone ps s c t
  all_inside end path at = so_far path (subst (IsIn path) (sym (take_all i paths end)) ((part_found c t paths all path).1 at))

  module _ (path : List Step) (below : i < length paths) (read : path ≡ get_or paths i path) where
    pub first_found : (IsInside ps s t path → ⊥) → IsFirstPositionOutside ps s c t path
    first_found not = record {
      before = take i paths;
      behind = drop (i + 1) paths;
      among = sym all ∙ sym (take-append-drop i paths) ∙ ap (λ qs. take i paths ++ qs) (drop_read paths i path below read);
      inside_before = so_far;
      outside = not;
    }

    pub one_more_inside : IsInside ps s t path → AreInside ps s t (take (i + 1) paths)
    one_more_inside yes_inside q l =
        let more : take (i + 1) paths ≡ take i paths ++ (path ∷ []) = take_more paths i path below ∙ ap (λ (p : List Step). take i paths ++ (p ∷ [])) (sym read) in
        ⊎_elim (so_far q) (λ j. subst (IsInside ps s t) (sym (only_item j)) yes_inside) (in_append (take i paths) (path ∷ []) (subst (IsIn q) more l))

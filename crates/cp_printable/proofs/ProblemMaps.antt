-- Maps from problems: they have an image for each strand, and a term of its sort for each variable.
use Rattle.std.proofs.Common.{◌≡◌, ℕ, suc, List, [], ◌∷◌, length, map, sym, ap, ◌∙◌, subst}
use Rattle.std.proofs.lemmas.List.{length-map}
use Rattle.cp_model.specs.Senders.{ArePaired}
use Rattle.cp_model.specs.Term.{variable_term, Substitution, apply_to}
use Rattle.cp_model.specs.declared.variable.Declaration.{Declaration}
use Rattle.cp_model.specs.Skeleton.{Skeleton}
use Rattle.cp_model.specs.Homomorphism.{map_from_problem, CarriesHomomorphism}
use Rattle.cp_model.specs.Problem.{variable_terms}
use Rattle.cp_model.specs.PointOfView.{IsPointOfView}
use Rattle.cp_model.proofs.NumbersFrom.{numbers_length}
use Rattle.cp_language.specs.Problems.{Problem}
use Rattle.cp_report.specs.FittingTrees.{HasSortOf, MapsAll}
use Rattle.cp_report.proofs.PrintedStrands.{variable_sorted, sorted_under}

-- A substitution gives a variable a term of its sort.
terms_of_sorts : (s : Substitution) (n : ℕ) (ds : List Declaration) → ArePaired HasSortOf ds (map (apply_to s) (variable_terms n ds))
terms_of_sorts s n [] = tt
terms_of_sorts s n (d ∷ ds) = (sorted_under s d.sort (variable_term (record { sort = d.sort; number = n })) (variable_sorted d.sort n), terms_of_sorts s (suc n) ds)

pub maps_all : (p : Problem) (k : Skeleton) → IsPointOfView p.variables p.skeleton → CarriesHomomorphism p.skeleton k → MapsAll p k
maps_all p k own carries =
    let f = map_from_problem k in
    let values : map (apply_to f.terms) (variable_terms 0 p.variables) ≡ k.from_problem.values = ap (map (apply_to f.terms)) (sym own.values) ∙ carries.values in
    record {
      strands = ap (λ (ns : List ℕ). length ns) (sym carries.strands) ∙ length-map p.skeleton.from_problem.strands f.strands ∙ ap (λ (ns : List ℕ). length ns) own.strands ∙ numbers_length 0 p.skeleton.strands;
      values = subst (ArePaired HasSortOf p.variables) values (terms_of_sorts f.terms 0 p.variables);
    }

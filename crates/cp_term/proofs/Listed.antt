-- What is in the lists of positions.
use Rattle.std.proofs.Common.{Bool, true, false, List, [], ◌∷◌, ◌≡◌, refl, sym}
use Rattle.cp_lists.specs.Lists.{IsIn, here, there}
use Rattle.cp_lists.proofs.Members.{into_map, from_map}
use Rattle.cp_model.specs.Positions.{here_if, paths_below}
use Rattle.cp_model.specs.declared.step.Step.{Step}

pub in_here : (b : Bool) (path : List Step) → IsIn path (here_if b) → (path ≡ []) × (b ≡ true)
in_here true path here = (refl, refl)
in_here true path (there h) = elim h [ ]
in_here false path h = elim h [ ]

pub is_here : (b : Bool) → b ≡ true → IsIn [] (here_if b)
is_here true e = here
is_here false e = cc

pub is_below : (s : Step) (paths : List (List Step)) (path : List Step) → IsIn path paths → IsIn (s ∷ path) (paths_below s paths)
is_below s paths path h = into_map (λ (p : List Step). s ∷ p) h

pub in_below : (s : Step) (paths : List (List Step)) (path : List Step) → IsIn path (paths_below s paths) → (q : List Step) × (path ≡ s ∷ q) × IsIn q paths
in_below s paths path h = let r = from_map (λ (p : List Step). s ∷ p) paths h in (r.0, sym r.2, r.1)

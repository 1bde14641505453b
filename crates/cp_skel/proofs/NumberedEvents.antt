-- The events of a strand, each with its place.
use Rattle.std.proofs.Common.{◌≡◌, ℕ, ◌+◌, suc, Bool, List, [], ◌∷◌, map, refl, ap, ◌∙◌, arith}
use Rattle.std.specs.List.{enumerate_from}
use Rattle.cp_model.specs.Term.{Term}
use Rattle.cp_model.specs.Bundle.{node_at}
use Rattle.cp_model.specs.declared.strand.Event.{Event}
use Rattle.cp_skel.specs.Events.{LocatedEvent, located_events_on}

pub numbered : (s k : ℕ) (r : Bool) (es : List (Event Term)) → map (λ (p : ℕ × Event Term). record { node = node_at s p.0; event = p.1; by_role = r }) (enumerate_from k es) ≡ located_events_on s k r es
numbered s k r [] = refl
numbered s k r (e ∷ es) =
    let next : k + 1 ≡ suc k = omega arith in
    ap (λ (os : List LocatedEvent). record { node = node_at s k; event = e; by_role = r } ∷ os) (numbered s (k + 1) r es ∙ ap (λ (n : ℕ). located_events_on s n r es) next)

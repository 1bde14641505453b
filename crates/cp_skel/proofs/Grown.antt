-- A skeleton with more strands or longer ones, and the same pairs: its order has no cycle either.
use Rattle.std.proofs.Common.{◌≡◌, ℕ, suc, ◌<◌, refl, ◌∙◌, subst, ◌⊎◌, inl, inr, arith, List}
use Rattle.std.specs.Prelude.{Some, None}
use Rattle.cp_lists.specs.Lists.{item_at, IsIn, one_step, more_steps}
use Rattle.cp_model.specs.Term.{Term}
use Rattle.cp_model.specs.Bindings.{Binding}
use Rattle.cp_model.specs.Strand.{Role}
use Rattle.cp_model.specs.declared.strand.Event.{Event}
use Rattle.cp_model.specs.declared.strand.Event.TheVariants.{Send as send}
use Rattle.cp_model.specs.Bundle.{node_at}
use Rattle.cp_model.specs.declared.node.Node.{Node}
use Rattle.cp_model.specs.Skeleton.{instance, skeleton_trace_or_none, term_event_at, UniqueAt, Skeleton, OrderStep, along_strand_of, along_pair, Before, IsOrderPair, IsOrigin}
use Rattle.cp_model.specs.declared.node.OrderPair.{OrderPair}
use Rattle.cp_lists.proofs.Items.{item_before, there_or_none}

-- What was there is there, and the instances are of the same roles.
pub record Grows (old new : Skeleton) : Type 0 where
  pub events : (n : Node) (e : Event Term) → term_event_at old.strands n ≡ Some e → term_event_at new.strands n ≡ Some e
  pub instances : (s : ℕ) (role : Role) (height : ℕ) (terms : List Binding) → item_at old.strands s ≡ Some (instance role height terms) →
      (h : ℕ) × (t : List Binding) × (item_at new.strands s ≡ Some (instance role h t))
  pub pairs : new.pairs ≡ old.pairs

module _ (old new : Skeleton) (grows : Grows old new) (ordered : (p : OrderPair) → IsIn p old.pairs → IsOrderPair old p) where
  was : {p : OrderPair} → IsIn p new.pairs → IsIn p old.pairs
  was {p} i = subst (IsIn p) grows.pairs i

  pub pairs-stay : (p : OrderPair) → IsIn p new.pairs → IsOrderPair new p
  pairs-stay p i =
      let o = ordered p (was i) in
      record {
        sent = o.sent;
        received = o.received;
        transmission = grows.events p.earlier (send o.sent) o.transmission;
        reception = grows.events p.later _ o.reception;
        between_strands = o.between_strands;
      }

  pub origin-stays : (u : UniqueAt) → IsOrigin old u → IsOrigin new u
  origin-stays u o =
      let r = grows.instances u.origin.strand o.role o.height o.terms o.on_instance in
      record {
        role = o.role;
        height = r.0;
        terms = r.1;
        on_instance = r.2;
        sent = o.sent;
        transmission = grows.events u.origin (send o.sent) o.transmission;
        carried = o.carried;
      }

  abbrev IsOld : Node → Type 0
  IsOld n = (e : Event Term) × (term_event_at old.strands n ≡ Some e)

  lower : (s i : ℕ) → IsOld (node_at s (suc i)) → IsOld (node_at s i)
  lower s i o = item_before (skeleton_trace_or_none (item_at old.strands s)) i (suc i) o.0 o.1 (omega arith)

  step-back : {x y : Node} → OrderStep new x y → IsOld y → OrderStep old x y
  step-back (along_strand_of ev) o = along_strand_of o.1
  step-back (along_pair i) o = along_pair (was i)

  step-from : {x y : Node} → OrderStep old x y → IsOld x
  step-from (along_strand_of {s = s} {i = i} {e = e} ev) = lower s i (e, ev)
  step-from (along_pair {p = p} i) = let o = ordered p i in (send o.sent, o.transmission)

  path-from : {x y : Node} → Before old x y → IsOld x
  path-from (one_step s) = step-from s
  path-from (more_steps s p) = step-from s

  -- A path to an old node is an old path.
  path-back : {x y : Node} → Before new x y → IsOld y → Before old x y
  path-back (one_step s) o = one_step (step-back s o)
  path-back (more_steps s p) o = let q = path-back p o in more_steps (step-back s (path-from q)) q

  -- From a new node the order leads up its strand alone.
  abbrev GoesUp : Node → Node → Type 0
  GoesUp x y = (x.strand ≡ y.strand) × (x.index < y.index) × (IsOld y → ⊥)

  step-up : {x y : Node} → OrderStep new x y → (IsOld x → ⊥) → GoesUp x y
  step-up (along_strand_of {s = s} {i = i} ev) fresh = (refl, omega arith, λ o. fresh (lower s i o))
  step-up (along_pair {p = p} i) fresh = let o = ordered p (was i) in absurd (fresh (send o.sent, o.transmission))

  up-then : {x y z : Node} → GoesUp x y → GoesUp y z → GoesUp x z
  up-then g h = let a = g.1 in let b = h.1 in (g.0 ∙ h.0, omega (arith, a, b), h.2)

  path-up : {x y : Node} → Before new x y → (IsOld x → ⊥) → GoesUp x y
  path-up (one_step s) fresh = step-up s fresh
  path-up (more_steps s p) fresh = let g = step-up s fresh in up-then g (path-up p g.2)

  no-cycle-at : ((n : Node) → Before old n n → ⊥) → (n : Node) → IsOld n ⊎ (term_event_at old.strands n ≡ None) → Before new n n → ⊥
  no-cycle-at none n (inl o) p = none n (path-back p o)
  no-cycle-at none n (inr nothing) p =
      let up = path-up p (λ o. let e : term_event_at old.strands n ≡ Some o.0 = o.1 in absurd (cc)) in
      let higher : n.index < n.index = up.1 in
      absurd (omega arith)

  pub cycles-stay-out : ((n : Node) → Before old n n → ⊥) → (n : Node) → Before new n n → ⊥
  cycles-stay-out none n p = no-cycle-at none n (there_or_none (term_event_at old.strands n)) p

-- Ways from strand to strand.
use Rattle.std.proofs.Common.{◌≡◌, ◌≢◌, ◌⊎◌, inl, inr, suc, ◌<◌, ◌≤◌, refl, sym, ap, subst, arith}
use Rattle.std.specs.Prelude.{Some}
use Rattle.std.proofs.lemmas.Bool.{cases_lt, cases_eq}
use Rattle.cp_lists.specs.Lists.{IsIn, one_step, more_steps}
use Rattle.cp_lists.proofs.Items.{item_before}
use Rattle.cp_lists.proofs.Reached.{steps_append}
use Rattle.cp_model.specs.Term.{Term}
use Rattle.cp_model.specs.declared.strand.Event.{Event}
use Rattle.cp_model.specs.declared.strand.Event.TheVariants.{Send as send, Receive as recv}
use Rattle.cp_model.specs.Bundle.{node_at}
use Rattle.cp_model.specs.declared.node.Node.{Node}
use Rattle.cp_model.specs.declared.node.OrderPair.{OrderPair}
use Rattle.cp_model.specs.Order.{IsAtOrAfter, on_strand}
use Rattle.cp_model.specs.Skeleton.{term_event_at, skeleton_trace_or_none, IsNodeOf, Skeleton, along_strand_of, along_pair, Before}
use Rattle.cp_model.proofs.LawOrder.{leads_before}
use Rattle.cp_skel.specs.Ordered.{IsOrdered}

module _ (k : Skeleton) (ordered : IsOrdered k) where
  -- ---- nodes of a way

  pub begins : (x y : Node) → Before k x y → IsNodeOf k.strands x
  begins x y (one_step (along_strand_of {s = s} {i = i} {e = e} p)) = item_before (skeleton_trace_or_none _) i (suc i) e p (omega arith)
  begins x y (one_step (along_pair {p = p} m)) = (send (ordered.order_pairs p m).sent, (ordered.order_pairs p m).transmission)
  begins x y (more_steps (along_strand_of {s = s} {i = i} {e = e} p) r) = item_before (skeleton_trace_or_none _) i (suc i) e p (omega arith)
  begins x y (more_steps (along_pair {p = p} m) r) = (send (ordered.order_pairs p m).sent, (ordered.order_pairs p m).transmission)

  pub ends : (x y : Node) → Before k x y → IsNodeOf k.strands y
  ends x y (one_step (along_strand_of {e = e} p)) = (e, p)
  ends x y (one_step (along_pair {p = p} m)) = (recv (ordered.order_pairs p m).received, (ordered.order_pairs p m).reception)
  ends x y (more_steps {y = z} s r) = ends z y r

  -- ---- on one strand

  pub along : (x y : Node) → x.strand ≡ y.strand → x.index < y.index → IsNodeOf k.strands y → Before k x y
  along x y s l n = of (leads_before k ordered.order_pairs x y n (on_strand (s, omega (arith, l))))
    where
      of : (x ≡ y) ⊎ Before k x y → Before k x y
      of (inl e) = let same : x.index ≡ y.index = ap (λ (z : Node). z.index) e in absurd (omega (arith, l, same))
      of (inr b) = b

  pub rises : (x y : Node) → x.strand ≡ y.strand → Before k x y → x.index < y.index
  rises x y s b = of (cases_lt x.index y.index)
    where
      none : (y ≡ x) ⊎ Before k y x → ⊥
      none (inl e) = ordered.no_cycle x (subst (λ (z : Node). Before k x z) e b)
      none (inr c) = ordered.no_cycle x (steps_append b c)

      of : (x.index < y.index) ⊎ (y.index ≤ x.index) → x.index < y.index
      of (inl l) = l
      of (inr l) = absurd (none (leads_before k ordered.order_pairs y x (begins x y b) (on_strand (sym s, l))))

  -- ---- to another strand

  -- A node at which such an event is, and of which this holds.
  pub record EventWhere (kind : Term → Event Term) (Holds : Node → Type 0) : Type 0 where
    pub node : Node
    pub message : Term
    pub event : term_event_at k.strands node ≡ Some (kind message)
    pub holds : Holds node

  -- On the way from x a reception is reached that is y or before it on its strand.
  abbrev pub Arrives : Node → Node → Type 0
  Arrives x y = EventWhere recv (λ n. IsAtOrAfter n y × Before k x n)

  by_pair : (p : OrderPair) → IsIn p k.pairs → (y : Node) → IsAtOrAfter p.later y → Arrives p.earlier y
  by_pair p m y up = record { node = p.later; message = (ordered.order_pairs p m).received; event = (ordered.order_pairs p m).reception; holds = (up, one_step (along_pair m)) }

  pub arrives : (x y : Node) → x.strand ≢ y.strand → Before k x y → Arrives x y
  arrives x y apart (one_step (along_strand_of e)) = absurd (apart refl)
  arrives x y apart (one_step (along_pair {p = p} m)) = by_pair p m y (refl, omega arith)
  arrives x y apart (more_steps (along_strand_of {s = s} {i = i} e) r) =
      let a = arrives (node_at s (suc i)) y apart r in
      record { node = a.node; message = a.message; event = a.event; holds = (a.holds.0, more_steps (along_strand_of e) a.holds.1) }
  arrives x y apart (more_steps (along_pair {p = p} m) r) = of (cases_eq p.later.strand y.strand) (λ h. arrives p.later y h r)
    where
      of : (p.later.strand ≡ y.strand) ⊎ (p.later.strand ≢ y.strand) → (p.later.strand ≢ y.strand → Arrives p.later y) → Arrives p.earlier y
      of (inl s) more = let l : p.later.index < y.index = rises p.later y s r in by_pair p m y (s, omega (arith, l))
      of (inr h) more =
          let a = more h in
          record { node = a.node; message = a.message; event = a.event; holds = (a.holds.0, more_steps (along_pair m) a.holds.1) }

  -- The way to y goes from a transmission that is x or behind it on its strand.
  abbrev pub Departs : Node → Node → Type 0
  Departs x y = EventWhere send (λ n. IsAtOrAfter x n × Before k n y)

  from_pair : (p : OrderPair) → IsIn p k.pairs → (y : Node) → Before k p.earlier y → Departs p.earlier y
  from_pair p m y b = record { node = p.earlier; message = (ordered.order_pairs p m).sent; event = (ordered.order_pairs p m).transmission; holds = ((refl, omega arith), b) }

  pub departs : (x y : Node) → x.strand ≢ y.strand → Before k x y → Departs x y
  departs x y apart (one_step (along_strand_of e)) = absurd (apart refl)
  departs x y apart (one_step (along_pair {p = p} m)) = from_pair p m y (one_step (along_pair m))
  departs x y apart (more_steps (along_strand_of {s = s} {i = i} e) r) =
      let d = departs (node_at s (suc i)) y apart r in
      let l : suc i ≤ d.node.index = d.holds.0.1 in
      record { node = d.node; message = d.message; event = d.event; holds = ((d.holds.0.0, omega (arith, l)), d.holds.1) }
  departs x y apart (more_steps (along_pair {p = p} m) r) = from_pair p m y (more_steps (along_pair m) r)

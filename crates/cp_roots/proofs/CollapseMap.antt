-- A collapse of a problem carries a homomorphism from it.
use Rattle.std.proofs.Common.{◌≡◌, ℕ, suc, ◌<◌, List, Some, length, map, sym, ap, ◌∙◌, subst, arith}
use Rattle.cp_lists.proofs.Mapped.{map_alike}
use Rattle.cp_lists.specs.Lists.{item_at, IsIn, one_step, more_steps}
use Rattle.cp_model.specs.Term.{Term, Substitution, apply_to_atom, apply_to, variable_term}
use Rattle.cp_model.specs.Bindings.{Binding}
use Rattle.cp_model.specs.declared.variable.Variable.{Variable}
use Rattle.cp_model.specs.Strand.{Role, Protocol}
use Rattle.cp_model.specs.declared.strand.Event.{Event}
use Rattle.cp_model.specs.declared.strand.Event.TheVariants.{Send as send, Receive as recv}
use Rattle.cp_model.specs.declared.variable.Declaration.{Declaration}
use Rattle.cp_model.specs.Bundle.{node_at}
use Rattle.cp_model.specs.declared.node.Node.{Node}
use Rattle.cp_model.specs.Skeleton.{instance, listener, term_event_at, Skeleton, OrderStep, along_strand_of, along_pair, Before, IsOrderPair, IsSkeleton}
use Rattle.cp_model.specs.declared.node.OrderPair.{OrderPair}
use Rattle.cp_model.specs.Problem.{numbers_from, variable_terms, IsDeclared}
use Rattle.cp_model.specs.PointOfView.{IsPointOfView}
use Rattle.cp_model.specs.Homomorphism.{GoesToInstance, IsHomomorphism, substitution_by, number_or, strand_in, map_from_problem, CarriesHomomorphism}
use Rattle.cp_lists.proofs.Items.{item_below, map_of_item, place_of}
use Rattle.cp_model.proofs.LawStandings.{strand_of_event}
use Rattle.cp_model.proofs.SingleMaps.{itself, own_carries}
use Rattle.cp_theory.specs.Normal.{skeleton_under}
use Rattle.cp_theory.proofs.Mapped.{changed, carried_under}
use Rattle.cp_model.proofs.DeclaredVariables.{declared_at}
use Rattle.cp_collapse.specs.Partitions.{place_in}
use Rattle.cp_collapse.specs.Collapses.{IsCollapsed}
use Rattle.cp_collapse.proofs.Lowest.{numbers_at, at_numbers}
use Rattle.cp_collapse.proofs.Merged.{merging_is_homomorphism}

-- ---- maps that agree on the strands that are there

node_below : (k : Skeleton) (n : Node) (e : Event Term) → term_event_at k.strands n ≡ Some e → n.strand < length k.strands
node_below k n e at = let r = strand_of_event k.strands n e at in item_below k.strands n.strand r.0 r.1

module _ (k : Skeleton) (order_pairs : (q : OrderPair) → IsIn q k.pairs → IsOrderPair k q) where
  step_below : {x y : Node} → OrderStep k x y → (x.strand < length k.strands) × (y.strand < length k.strands)
  step_below (along_strand_of {s = s} {i = i} {e = e} ev) = let l = node_below k (node_at s (suc i)) e ev in (l, l)
  step_below (along_pair {p = q} inq) =
      let o = order_pairs q inq in
      (node_below k q.earlier (send o.sent) o.transmission, node_below k q.later (recv o.received) o.reception)

  before_below : {x y : Node} → Before k x y → (x.strand < length k.strands) × (y.strand < length k.strands)
  before_below (one_step s) = step_below s
  before_below (more_steps s r) = ((step_below s).0, (before_below r).1)

-- A homomorphism whose map of strands is changed where no strand is.
module _ (k l : Skeleton) (f g : ℕ → ℕ) (terms : Substitution) (protocol : Protocol) (sk : IsSkeleton protocol k) (same : (s : ℕ) → s < length k.strands → f s ≡ g s) (hom : IsHomomorphism k l (record { strands = f; terms = terms })) where
  instance_at : (s : ℕ) (role : Role) (height : ℕ) (t : List Binding) → f s ≡ g s → GoesToInstance l (record { strands = f; terms = terms }) s role height t → GoesToInstance l (record { strands = g; terms = terms }) s role height t
  instance_at s role height t e i = record {
    to_height = i.to_height;
    to_terms = i.to_terms;
    on_instance = ap (item_at l.strands) (sym e) ∙ i.on_instance;
    at_least = i.at_least;
    equal_terms = i.equal_terms;
  }

  before_at : (x y : Node) → f x.strand ≡ g x.strand → f y.strand ≡ g y.strand → Before l (node_at (f x.strand) x.index) (node_at (f y.strand) y.index) → Before l (node_at (g x.strand) x.index) (node_at (g y.strand) y.index)
  before_at x y e d b = subst (λ (s : ℕ). Before l (node_at s x.index) (node_at (g y.strand) y.index)) e (subst (λ (s : ℕ). Before l (node_at (f x.strand) x.index) (node_at s y.index)) d b)

  pub strands_changed : IsHomomorphism k l (record { strands = g; terms = terms })
  strands_changed = record {
    instances = λ s role height t at. instance_at s role height t (same s (item_below k.strands s (instance role height t) at)) (hom.instances s role height t at);
    listeners = λ s t at. ap (item_at l.strands) (sym (same s (item_below k.strands s (listener t) at))) ∙ hom.listeners s t at;
    ordered = λ x y b. let r = before_below k sk.order_pairs b in before_at x y (same x.strand r.0) (same y.strand r.1) (hom.ordered x y b);
    non = hom.non;
    penetrator_non = hom.penetrator_non;
    unique = λ u i.
        let o = sk.origins u i in
        subst (λ (s : ℕ). IsIn (record { value = apply_to_atom terms u.value; origin = node_at s u.origin.index }) l.assumptions.uniquely_originating)
        (same u.origin.strand (item_below k.strands u.origin.strand (instance o.role o.height o.terms) o.on_instance)) (hom.unique u i);
  }

-- ---- the terms of declared variables

-- Substitutions that give the declared variables the same terms agree on them.
agree_declared : (ds : List Declaration) (f g : Substitution) → map (apply_to f) (variable_terms 0 ds) ≡ map (apply_to g) (variable_terms 0 ds) → (x : Variable) → IsDeclared ds x → apply_to f (variable_term x) ≡ apply_to g (variable_term x)
agree_declared ds f g e x is =
    let at = declared_at ds x is in
    let u : Term = variable_term x in
    let one : Some (apply_to f u) ≡ Some (apply_to g u) =
    sym (map_of_item (apply_to f) (variable_terms 0 ds) x.number u at) ∙ ap (λ (ts : List Term). item_at ts x.number) e ∙ map_of_item (apply_to g) (variable_terms 0 ds) x.number u at in
    cc

-- ---- the map of a collapse

module _ (protocol : Protocol) (variables : List Declaration) (k l : Skeleton) (p : List ℕ) (sk : IsSkeleton protocol k) (own : IsPointOfView variables k) (c : IsCollapsed k p l) where
  abbrev f : Substitution
  f = c.unifier

  from_strands : l.from_problem.strands ≡ map (place_in p) (numbers_from 0 k.strands)
  from_strands = c.from_problem.strands ∙ ap (map (place_in p)) own.strands

  goes_to_place : (s : ℕ) → s < length k.strands → place_in p s ≡ strand_in l.from_problem.strands s
  goes_to_place s less =
      let at : item_at (numbers_from 0 k.strands) s ≡ Some s = numbers_at 0 k.strands s less ∙ ap Some (omega arith) in
      sym (ap (λ (ns : List ℕ). strand_in ns s) from_strands ∙ ap (number_or s) (map_of_item (place_in p) (numbers_from 0 k.strands) s s at))

  -- The problem under the unifier carries a homomorphism by the same terms.
  under : CarriesHomomorphism k (skeleton_under f k)
  under = carried_under variables k k f (itself own) (own_carries variables k (itself own))

  by_values : substitution_by l.from_problem.values ≡ substitution_by (map (apply_to f) k.from_problem.values)
  by_values = ap substitution_by c.from_problem.values

  same_terms : map (apply_to (substitution_by l.from_problem.values)) k.from_problem.values ≡ map (apply_to f) k.from_problem.values
  same_terms = ap (λ (s : Substitution). map (apply_to s) k.from_problem.values) by_values ∙ under.values

  agree : (x : Variable) → IsDeclared variables x → apply_to f (variable_term x) ≡ apply_to (substitution_by l.from_problem.values) (variable_term x)
  agree = agree_declared variables f (substitution_by l.from_problem.values) (subst (λ (ts : List Term). map (apply_to f) ts ≡ map (apply_to (substitution_by l.from_problem.values)) ts) own.values (sym same_terms))

  by_its_map : IsHomomorphism k l (map_from_problem l)
  by_its_map =
      strands_changed k l (place_in p) (strand_in l.from_problem.strands) (substitution_by l.from_problem.values) protocol sk goes_to_place
      (changed k l (place_in p) f (substitution_by l.from_problem.values) (λ x i. agree x (own.closed x i)) (merging_is_homomorphism k l p c sk.order_pairs))

  listed_below : (s : ℕ) → IsIn s (numbers_from 0 k.strands) → s < length k.strands
  listed_below s i =
      let r = place_of i in
      let q = at_numbers 0 k.strands r.0 s r.1 in
      let less = q.0 in
      let e = q.1 in
      omega (arith, less, e)

  pub collapse_carries : CarriesHomomorphism k l
  collapse_carries = record {
    homomorphism = by_its_map;
    strands =
        ap (map (strand_in l.from_problem.strands)) own.strands
        ∙ map_alike (strand_in l.from_problem.strands) (place_in p) (numbers_from 0 k.strands) (λ s i. sym (goes_to_place s (listed_below s i)))
        ∙ sym from_strands;
    values = same_terms ∙ sym c.from_problem.values;
  }

-- How skeletons, and their events in a list, are told apart.
use Rattle.std.specs.Prelude.{◌≡◌, ◌⊎◌, ℕ, Bool, List, refl}
use Rattle.std.specs.Coded.{Coded, code_by, coded_ℕ, coded_bool, coded_list, coded×, coded⊎}
use Rattle.cp_model.specs.Term.{AtomTerm, Term}
use Rattle.cp_model.specs.declared.node.Node.{Node}
use Rattle.cp_model.specs.Skeleton.{UniqueAt, Assumptions, FromProblem, SkeletonStrand, Skeleton}
use Rattle.cp_model.specs.declared.node.OrderPair.{OrderPair}
use Rattle.cp_term.specs.Code.{coded_atom_term, coded_term}
use Rattle.cp_model.specs.declared.variable.Declaration.{Declaration}
use Rattle.cp_model.specs.declared.strand.Event.{Event}
use Rattle.cp_strand.specs.Code.{coded_atoms, coded_declaration, coded_event, coded_strand}
use Rattle.cp_skel.specs.Events.{LocatedEvent}

abbrev pub coded_node : Coded Node
coded_node = code_by (ℕ × ℕ) (coded× coded_ℕ coded_ℕ) (λ n. (n.strand, n.index)) (λ p. record { strand = p.0; index = p.1 }) (λ n. refl)

abbrev pub coded_located_event : Coded LocatedEvent
coded_located_event =
    code_by (Node × (Event Term × Bool)) (coded× coded_node (coded× coded_event coded_bool)) (λ o. (o.node, (o.event, o.by_role)))
    (λ p. record { node = p.0; event = p.1.0; by_role = p.1.1 })
    (λ o. refl)

abbrev coded_pair : Coded OrderPair
coded_pair = code_by (Node × Node) (coded× coded_node coded_node) (λ p. (p.earlier, p.later)) (λ q. record { earlier = q.0; later = q.1 }) (λ p. refl)

abbrev pub coded_unique : Coded UniqueAt
coded_unique = code_by (AtomTerm × Node) (coded× coded_atom_term coded_node) (λ u. (u.value, u.origin)) (λ p. record { value = p.0; origin = p.1 }) (λ u. refl)

abbrev pub coded_assumptions : Coded Assumptions
coded_assumptions =
    code_by (List AtomTerm × (List AtomTerm × List UniqueAt)) (coded× coded_atoms (coded× coded_atoms (coded_list coded_unique)))
    (λ a. (a.non_originating, (a.penetrator_non_originating, a.uniquely_originating)))
    (λ p. record { non_originating = p.0; penetrator_non_originating = p.1.0; uniquely_originating = p.1.1 })
    (λ a. refl)

abbrev pub coded_from_problem : Coded FromProblem
coded_from_problem =
    code_by ((List ℕ × List Term) × (Assumptions × List OrderPair)) (coded× (coded× (coded_list coded_ℕ) (coded_list coded_term)) (coded× coded_assumptions (coded_list coded_pair)))
    (λ f. ((f.strands, f.values), (f.assumptions, f.pairs)))
    (λ p. record { strands = p.0.0; values = p.0.1; assumptions = p.1.0; pairs = p.1.1 })
    (λ f. refl)

abbrev pub coded_skeleton : Coded Skeleton
coded_skeleton =
    code_by ((List Declaration × List SkeletonStrand) × (List OrderPair × (Assumptions × FromProblem)))
    (coded× (coded× (coded_list coded_declaration) (coded_list coded_strand)) (coded× (coded_list coded_pair) (coded× coded_assumptions coded_from_problem)))
    (λ k. ((k.variables, k.strands), (k.pairs, (k.assumptions, k.from_problem))))
    (λ p. record { variables = p.0.0; strands = p.0.1; pairs = p.1.0; assumptions = p.1.1.0; from_problem = p.1.1.1 })
    (λ k. refl)

-- How roles, protocols and strands are told apart.
use Rattle.std.specs.Prelude.{◌≡◌, ◌⊎◌, ℕ, List, refl}
use Rattle.std.specs.Coded.{Coded, code_by, coded_ℕ, coded_list, coded×, coded⊎}
use Rattle.std.proofs.Common.{inl, inr}
use Rattle.cp_model.specs.Term.{AtomTerm, Term}
use Rattle.cp_model.specs.Bindings.{Binding}
use Rattle.cp_model.specs.Strand.{Role, Protocol}
use Rattle.cp_model.specs.declared.variable.Declaration.{Declaration}
use Rattle.cp_model.specs.declared.strand.Event.{Event}
use Rattle.cp_model.specs.declared.strand.Event.TheVariants.{Send as send, Receive as recv}
use Rattle.cp_model.specs.Skeleton.{SkeletonStrand, instance, listener}
use Rattle.cp_strand.specs.View.{InstanceData}
use Rattle.cp_term.specs.Code.{coded_atom_term, coded_term, coded_sort, coded_binding}

abbrev pub coded_declaration : Coded Declaration
coded_declaration = code_by (List ℕ × _) (coded× (coded_list coded_ℕ) coded_sort) (λ d. (d.identifier, d.sort)) (λ p. record { identifier = p.0; sort = p.1 }) (λ d. refl)

abbrev event_parts : Event Term → Term ⊎ Term
event_parts (send t) = inl t
event_parts (recv t) = inr t

abbrev event_from : Term ⊎ Term → Event Term
event_from (inl t) = send t
event_from (inr t) = recv t

pub event_back : (e : Event Term) → event_from (event_parts e) ≡ e
event_back (send t) = refl
event_back (recv t) = refl

abbrev pub coded_event : Coded (Event Term)
coded_event = code_by (Term ⊎ Term) (coded⊎ coded_term coded_term) event_parts event_from event_back

abbrev pub coded_atoms : Coded (List AtomTerm)
coded_atoms = coded_list coded_atom_term

abbrev pub coded_role : Coded Role
coded_role =
    code_by ((List ℕ × List Declaration) × (List (Event Term) × (List AtomTerm × (List AtomTerm × List AtomTerm))))
    (coded× (coded× (coded_list coded_ℕ) (coded_list coded_declaration)) (coded× (coded_list coded_event) (coded× coded_atoms (coded× coded_atoms coded_atoms))))
    (λ r. ((r.name, r.variables), (r.trace, (r.non_originating, (r.penetrator_non_originating, r.uniquely_originating)))))
    (λ p. record { name = p.0.0; variables = p.0.1; trace = p.1.0; non_originating = p.1.1.0; penetrator_non_originating = p.1.1.1.0; uniquely_originating = p.1.1.1.1 })
    (λ r. refl)

abbrev pub coded_protocol : Coded Protocol
coded_protocol = code_by (List ℕ × List Role) (coded× (coded_list coded_ℕ) (coded_list coded_role)) (λ p. (p.name, p.roles)) (λ q. record { name = q.0; roles = q.1 }) (λ p. refl)

abbrev pub coded_instance : Coded InstanceData
coded_instance =
    code_by (Role × (ℕ × List Term)) (coded× coded_role (coded× coded_ℕ (coded_list coded_term))) (λ i. (i.role, (i.height, i.values)))
    (λ p. record { role = p.0; height = p.1.0; values = p.1.1 })
    (λ i. refl)

abbrev strand_parts : SkeletonStrand → (Role × (ℕ × List Binding)) ⊎ Term
strand_parts (instance role height terms) = inl (role, (height, terms))
strand_parts (listener t) = inr t

abbrev strand_from : (Role × (ℕ × List Binding)) ⊎ Term → SkeletonStrand
strand_from (inl p) = instance p.0 p.1.0 p.1.1
strand_from (inr t) = listener t

pub strand_back : (s : SkeletonStrand) → strand_from (strand_parts s) ≡ s
strand_back (instance role height terms) = refl
strand_back (listener t) = refl

abbrev pub coded_strand : Coded SkeletonStrand
coded_strand = code_by ((Role × (ℕ × List Binding)) ⊎ Term) (coded⊎ (coded× coded_role (coded× coded_ℕ (coded_list coded_binding))) coded_term) strand_parts strand_from strand_back

-- A skeleton of one sending strand is realised, and is its own complete list.
use Rattle.std.proofs.Common.{◌≡◌, ℕ, zero, suc, ◌<◌, List, [], ◌∷◌, Some, refl, sym, ap, ◌∙◌, subst, le_refl}
use Rattle.cp_lists.specs.Lists.{item_at, IsIn, here, one_step, more_steps}
use Rattle.cp_lists.proofs.Items.{only_place}
use Rattle.cp_model.specs.Message.{Message, atom}
use Rattle.cp_model.specs.Term.{AtomTerm, Term, atom_term, apply_to, apply_to_atom, Assignment, value_of, value_of_atom, after, atoms_by}
use Rattle.cp_model.specs.Bindings.{Binding, as_substitution}
use Rattle.cp_model.specs.Strand.{Declaration, Event, send, recv, OriginatesInTerms, Role, Protocol, prefix_of, IsHeight, regular, trace_of}
use Rattle.cp_model.specs.Bundle.{node_at, event_at, KeepsNon, KeepsUnique, KeepsRole, AreOfProtocol, Bundle, BundleStep, along_strand, along_link, IsBundle}
use Rattle.cp_model.specs.declared.node.Node.{Node}
use Rattle.cp_model.specs.Skeleton.{SkeletonStrand, instance, skeleton_trace, skeleton_trace_or_none, UniqueAt, Assumptions, FromProblem, Skeleton, OrderStep, along_strand_of, along_pair, Before, IsSkeleton}
use Rattle.cp_model.specs.declared.node.OrderPair.{OrderPair}
use Rattle.cp_model.specs.Standing.{Standing, image_on, image_of, StandsOnRegular, StandsIn, StandsApart, IsRealised}
use Rattle.cp_model.specs.Homomorphism.{IsCompleteList}
use Rattle.cp_model.specs.Single.{IsOneSendingStrand}
use Rattle.cp_model.proofs.LawTerms.{atom_after}
use Rattle.cp_model.proofs.SingleBundle.{own_number, own_numbers_distinct, nodes_from, one_strand_listing, event_there, rises_along, no_reception, own_strand, keeps_non, keeps_penetrator_non, keeps_unique}

-- A skeleton of one strand has events on strand 0 alone.
pub event_of_one : (s : SkeletonStrand) (a i : ℕ) {e : Event Term} → item_at (skeleton_trace_or_none (item_at (s ∷ []) a)) i ≡ Some e → (a ≡ 0) × (item_at (skeleton_trace s) i ≡ Some e)
event_of_one s zero i e = (refl, e)
event_of_one s (suc a) i e = absurd (cc)

module _ (protocol : Protocol) (role : Role) (height : ℕ) (terms : List Binding) (variables : List Declaration) (pairs : List OrderPair) (assumptions : Assumptions) (from_problem : FromProblem) where
  abbrev one_skeleton : Skeleton
  one_skeleton = record { variables = variables; strands = instance role height terms ∷ []; pairs = pairs; assumptions = assumptions; from_problem = from_problem }

  abbrev own_bundle : Bundle
  own_bundle = record {
    strands = own_strand role height terms ∷ [];
    sender = λ n. n;
    order = nodes_from 0 (trace_of (own_strand role height terms));
  }

  abbrev own_standing : Standing
  own_standing = record { nodes = λ s. node_at s 0; values = atoms_by own_number }

  abbrev Sends : Type 0
  Sends = (i : ℕ) (e : Event Term) → item_at (prefix_of role height) i ≡ Some e → (t : Term) × (e ≡ send t)

  abbrev KeepsNons : Type 0
  KeepsNons = (v : AtomTerm) (i : ℕ) → IsIn v assumptions.non_originating → OriginatesInTerms (skeleton_trace (instance role height terms)) (atom_term v) i → ⊥

  abbrev KeepsUniques : Type 0
  KeepsUniques = (u : UniqueAt) → IsIn u assumptions.uniquely_originating → OriginatesInTerms (skeleton_trace (instance role height terms)) (atom_term u.value) u.origin.index

  -- the one strand of the skeleton
  the_strand : (s : ℕ) (role' : Role) (height' : ℕ) (terms' : List Binding) → item_at one_skeleton.strands s ≡ Some (instance role' height' terms') →
      (s ≡ 0) × (role ≡ role') × (height ≡ height') × (terms ≡ terms')
  the_strand s role' height' terms' e = let r = only_place (instance role height terms) s e in let q = r.1 in (r.0, cc, cc, cc)

  -- it goes to the one strand of the bundle
  stands_at : (s : ℕ) (role' : Role) (height' : ℕ) (terms' : List Binding) → s ≡ 0 → role ≡ role' → height ≡ height' → terms ≡ terms' →
      StandsOnRegular own_bundle own_standing s role' height' terms'
  stands_at s role' height' terms' at r h t = record {
    at_start = refl;
    to_height = height';
    to_values = after (atoms_by own_number) (as_substitution terms');
    on_regular = ap (item_at (own_strand role height terms ∷ [])) at ∙ λ i. Some (regular (r i) (h i) (after (atoms_by own_number) (as_substitution (t i))));
    at_least = le_refl height';
    equal_values = λ x isin. refl;
  }

  image_at : (n : Node) → n.strand ≡ 0 → image_of one_skeleton own_standing n ≡ node_at 0 n.index
  image_at n e = ap (λ a. image_on (item_at one_skeleton.strands a) (node_at a 0) n.index) e

  -- the one strand of the bundle
  the_regular : (s : ℕ) (role' : Role) (height' : ℕ) (g : Assignment) → item_at own_bundle.strands s ≡ Some (regular role' height' g) →
      (s ≡ 0) × (role ≡ role') × (height ≡ height') × (after (atoms_by own_number) (as_substitution terms) ≡ g)
  the_regular s role' height' g e = let r = only_place (own_strand role height terms) s e in let q = r.1 in (r.0, cc, cc, cc)

  -- Where the strand only transmits, there are no pairs and no links, and its assumptions are kept.
  module _ (is_skeleton : IsSkeleton protocol one_skeleton) (sends : Sends) where
    no_pair : (p : OrderPair) → IsIn p pairs → ⊥
    no_pair p h =
        let o = is_skeleton.order_pairs p h in
        let r = event_of_one (instance role height terms) p.later.strand p.later.index o.reception in
        no_reception (prefix_of role height) sends (apply_to (as_substitution terms)) p.later.index r.1

    same_strand_step : {x y : Node} → OrderStep one_skeleton x y → x.strand ≡ y.strand
    same_strand_step (along_strand_of e) = refl
    same_strand_step (along_pair {p = p} h) = absurd (no_pair p h)

    same_strand : {x y : Node} → Before one_skeleton x y → x.strand ≡ y.strand
    same_strand (one_step s) = same_strand_step s
    same_strand (more_steps s h) = same_strand_step s ∙ same_strand h

    stands : KeepsNons → KeepsUniques → StandsIn one_skeleton own_bundle own_standing
    stands nons uniques = record {
      instances = λ s role' height' terms' e. let r = the_strand s role' height' terms' e in stands_at s role' height' terms' r.0 r.1 r.2 r.3;
      listeners = λ s t e. let r = (only_place (instance role height terms) s e).1 in absurd (cc);
      ordered = λ x y h ne. absurd (ne (same_strand h));
      non = λ v h. keeps_non role height terms v (λ i o. nons v i h o);
      penetrator_non = λ v h. keeps_penetrator_non role height terms (atom (value_of_atom (atoms_by own_number) v));
      unique = λ u h.
          let o = is_skeleton.origins u h in
          let r = the_strand u.origin.strand o.role o.height o.terms o.on_instance in
          subst (KeepsUnique (own_strand role height terms ∷ []) (atom (value_of_atom (atoms_by own_number) u.value))) (sym (image_at u.origin r.0))
          (keeps_unique role height terms u.value u.origin.index (uniques u h));
    }

    apart : StandsApart one_skeleton own_standing
    apart s t role' height' terms' role'' height'' terms'' a b e = e

    keeps_role : KeepsNons → KeepsUniques → KeepsRole (own_strand role height terms ∷ []) 0 role height (after (atoms_by own_number) (as_substitution terms))
    keeps_role nons uniques =
        let given = is_skeleton.given 0 role height terms refl in
        let g = atoms_by own_number in
        record {
          non = λ v h a. subst (λ m. KeepsNon (own_strand role height terms ∷ []) (atom m)) (sym (atom_after g (as_substitution terms) v))
              (keeps_non role height terms (apply_to_atom (as_substitution terms) v) (λ i o. nons (apply_to_atom (as_substitution terms) v) i (given.non v h a) o));
          penetrator_non = λ v h a. keeps_penetrator_non role height terms (atom (value_of_atom (after g (as_substitution terms)) v));
          unique = λ v i h a. subst (λ m. KeepsUnique (own_strand role height terms ∷ []) (atom m) (node_at 0 i)) (sym (atom_after g (as_substitution terms) v))
              (keeps_unique role height terms (apply_to_atom (as_substitution terms) v) i (uniques _ (given.unique v i h a)));
        }

    -- what is kept of the one strand is kept of each
    kept_at : (s : ℕ) (role' : Role) (height' : ℕ) (g : Assignment) → s ≡ 0 → role ≡ role' → height ≡ height' → after (atoms_by own_number) (as_substitution terms) ≡ g →
        KeepsRole own_bundle.strands 0 role height (after (atoms_by own_number) (as_substitution terms)) → KeepsRole own_bundle.strands s role' height' g
    kept_at s role' height' g at r h t k =
        let a = subst (λ x. KeepsRole own_bundle.strands 0 role height x) t k in
        let b = subst (λ x. KeepsRole own_bundle.strands 0 role x g) h a in
        let c = subst (λ x. KeepsRole own_bundle.strands 0 x height' g) r b in
        subst (λ x. KeepsRole own_bundle.strands x role' height' g) (sym at) c

    of_protocol : KeepsNons → KeepsUniques → AreOfProtocol protocol own_bundle.strands
    of_protocol nons uniques = record {
      of_role = λ s role' height' g e.
          let r = the_regular s role' height' g e in
          subst (λ x. IsIn x protocol.roles) r.1 (is_skeleton.of_role 0 role height terms refl);
      heights = λ s role' height' g e.
          let r = the_regular s role' height' g e in
          subst (λ x. IsHeight role' x) r.2 (subst (λ x. IsHeight x height) r.1 (is_skeleton.heights 0 role height terms refl));
      kept = λ s role' height' g e.
          let r = the_regular s role' height' g e in
          kept_at s role' height' g r.0 r.1 r.2 r.3 (keeps_role nons uniques);
    }

    no_link : (n : Node) (m : Message) → event_at own_bundle.strands n ≡ Some (recv m) → ⊥
    no_link n m e =
        let r = event_there (own_strand role height terms) n.strand n.index e in
        no_reception (prefix_of role height) sends (value_of (after (atoms_by own_number) (as_substitution terms))) n.index r.1

    rises : {x y : Node} → BundleStep own_bundle x y → (i j : ℕ) → item_at own_bundle.order i ≡ Some x → item_at own_bundle.order j ≡ Some y → i < j
    rises (along_strand {s = s} {i = m} e) i j p q = rises_along (own_strand role height terms) s m i j p q
    rises (along_link {n = n} {m = m} e) i j p q = absurd (no_link n m e)

    bundle : KeepsNons → KeepsUniques → IsBundle protocol own_bundle
    bundle nons uniques = record {
      of_protocol = of_protocol nons uniques;
      linked = λ n m e. absurd (no_link n m e);
      listing = one_strand_listing (own_strand role height terms);
      rises = λ x y i j step p q. rises step i j p q;
    }

    realised_here : KeepsNons → KeepsUniques → IsRealised protocol one_skeleton
    realised_here nons uniques = record {
      bundle = own_bundle;
      is_bundle = bundle nons uniques;
      nodes = λ s. node_at s 0;
      number = own_number;
      distinct = own_numbers_distinct;
      stands = stands nons uniques;
      apart = apart;
      regular_strands = λ t role' height' g e.
          let r = the_regular t role' height' g e in
          record { strand = 0; role = role; terms = terms; on_instance = ap (λ x. Some (instance role x terms)) r.2; goes_to = sym r.0 };
      no_more_order = λ x y nx ny ne h.
          absurd (ne ((event_of_one (instance role height terms) x.strand x.index nx.1).0 ∙ sym (event_of_one (instance role height terms) y.strand y.index ny.1).0));
    }

pub realised : (protocol : Protocol) (k : Skeleton) → IsOneSendingStrand protocol k → IsRealised protocol k
realised protocol k h =
    let is_skeleton = subst (λ ss. IsSkeleton protocol (record k { strands = ss })) h.one h.is_skeleton in
    let r = realised_here protocol h.role h.height h.terms k.variables k.pairs k.assumptions k.from_problem is_skeleton h.sends h.non h.unique in
    subst (λ ss. IsRealised protocol (record k { strands = ss })) (sym h.one) r

-- One strand is its own complete list: it goes to different strands with itself alone.
pub own_complete_list : (protocol : Protocol) (k : Skeleton) (role : Role) (height : ℕ) (terms : List Binding) → k.strands ≡ instance role height terms ∷ [] → IsCompleteList protocol k (k ∷ [])
own_complete_list protocol k role height terms one b h is_bundle stands = record {
  skeleton = k;
  listed = here;
  standing = h;
  stands = stands;
  apart = λ s t role' height' terms' role'' height'' terms'' p q same.
      let x = only_place (instance role height terms) s (subst (λ ss. item_at ss s ≡ Some (instance role' height' terms')) one p) in
      let y = only_place (instance role height terms) t (subst (λ ss. item_at ss t ≡ Some (instance role'' height'' terms'')) one q) in
      x.0 ∙ sym y.0;
  factors = record { strands = refl; values = refl };
}

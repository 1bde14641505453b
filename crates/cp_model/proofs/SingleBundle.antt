-- The bundle of one regular strand that only transmits.
use Rattle.std.proofs.Common.{◌≡◌, ℕ, zero, suc, ◌+◌, ◌*◌, ◌<◌, List, [], ◌∷◌, map, Some, refl, sym, ap, ◌∙◌, subst, arith}
use Rattle.cp_lists.specs.Lists.{item_at, IsIn, here, there}
use Rattle.cp_lists.proofs.Items.{place_of, item_of_map, only_place}
use Rattle.cp_model.specs.Message.{Message, atom}
use Rattle.cp_model.specs.Term.{Sort, text_sort, datum_sort, name_sort, skey_sort, akey_sort, Variable, AtomTerm, Term, atom_term, apply_to, value_of_atom, after, atoms_by, IsDistinct}
use Rattle.cp_model.specs.Bindings.{Binding, as_substitution}
use Rattle.cp_model.specs.SortNumbers.{sort_number, sort_from, sort_back}
use Rattle.cp_model.specs.Strand.{Event, send, recv, event_map, OriginatesIn, OriginatesInTerms, Role, prefix_of, Strand, regular, trace_of}
use Rattle.cp_model.specs.Bundle.{node_at, trace_or_none, event_at, OriginatesAt, KeepsNon, KeepsPenetratorNon, KeepsUnique, IsListing}
use Rattle.cp_model.specs.declared.node.Node.{Node}
use Rattle.cp_model.proofs.LawEvents.{trace_after}
use Rattle.cp_model.proofs.SingleTraces.{one_origin, origin_of_value, origin_of_term}

sort_number_below : (s : Sort) → sort_number s < 5
sort_number_below text_sort = omega arith
sort_number_below datum_sort = omega arith
sort_number_below name_sort = omega arith
sort_number_below skey_sort = omega arith
sort_number_below akey_sort = omega arith

-- Distinct numbers for the variables of all sorts.
abbrev pub own_number : Variable → ℕ
own_number x = 5 * x.number + sort_number x.sort

pub own_numbers_distinct : IsDistinct own_number
own_numbers_distinct x y e =
    let bx = sort_number_below x.sort in
    let by = sort_number_below y.sort in
    let n : x.number ≡ y.number = omega arith in
    let c : sort_number x.sort ≡ sort_number y.sort = omega arith in
    let s : x.sort ≡ y.sort = sym (sort_back x.sort) ∙ ap sort_from c ∙ sort_back y.sort in
    λ i. record { sort = s i; number = n i }

-- The nodes of strand 0, from place n on, as many as the list has items.
abbrev pub nodes_from : {A : Type 0} → ℕ → List A → List Node
nodes_from n [] = []
nodes_from n (e ∷ es) = node_at 0 n ∷ nodes_from (suc n) es

node_listed : {A : Type 0} (es : List A) (n i : ℕ) {e : A} → item_at es i ≡ Some e → IsIn (node_at 0 (n + i)) (nodes_from n es)
node_listed [] n i e = absurd (cc)
node_listed (x ∷ es) n zero e = let p : n ≡ n + zero = omega arith in subst (λ m. IsIn (node_at 0 m) (node_at 0 n ∷ nodes_from (suc n) es)) p here
node_listed (x ∷ es) n (suc i) e =
    let p : suc n + i ≡ n + suc i = omega arith in
    subst (λ m. IsIn (node_at 0 m) (node_at 0 n ∷ nodes_from (suc n) es)) p (there (node_listed es (suc n) i e))

listed_node : {A : Type 0} (es : List A) (n i : ℕ) {x : Node} → item_at (nodes_from n es) i ≡ Some x → (e : A) × (item_at es i ≡ Some e) × (x ≡ node_at 0 (n + i))
listed_node [] n i e = absurd (cc)
listed_node (y ∷ es) n zero {x} e =
    let p : n ≡ n + zero = omega arith in
    let q : node_at 0 n ≡ x = cc in
    (y, refl, sym q ∙ ap (node_at 0) p)
listed_node (y ∷ es) n (suc i) e =
    let p : suc n + i ≡ n + suc i = omega arith in
    let r = listed_node es (suc n) i e in
    (r.0, r.1, r.2 ∙ ap (node_at 0) p)

-- A list of one strand has events and origins on strand 0 alone.
pub event_there : (s : Strand) (a i : ℕ) {e : Event Message} → item_at (trace_or_none (item_at (s ∷ []) a)) i ≡ Some e → (a ≡ 0) × (item_at (trace_of s) i ≡ Some e)
event_there s zero i e = (refl, e)
event_there s (suc a) i e = absurd (cc)

origin_there : (s : Strand) (v : Message) (a i : ℕ) → OriginatesIn (trace_or_none (item_at (s ∷ []) a)) v i → (a ≡ 0) × OriginatesIn (trace_of s) v i
origin_there s v zero i o = (refl, o)
origin_there s v (suc a) i o = let e = o.transmission in absurd (cc)

node_eta : (x : Node) (i : ℕ) → x.strand ≡ 0 → x.index ≡ i → x ≡ node_at 0 i
node_eta x i s e = λ j. record { strand = s j; index = e j }

pub one_strand_listing : (s : Strand) → IsListing (s ∷ []) (nodes_from 0 (trace_of s))
one_strand_listing s = record {
  each = λ n e at.
      let r = event_there s n.strand n.index at in
      let p : 0 + n.index ≡ n.index = omega arith in
      subst (λ x. IsIn x (nodes_from 0 (trace_of s))) (sym (node_eta n (0 + n.index) r.0 (sym p))) (node_listed (trace_of s) 0 n.index r.1);
  only = λ n isin.
      let w = place_of isin in
      let r = listed_node (trace_of s) 0 w.0 w.1 in
      let p : 0 + w.0 ≡ w.0 = omega arith in
      let q : n ≡ node_at 0 w.0 = r.2 ∙ ap (node_at 0) p in
      (r.0, subst (λ x. event_at (s ∷ []) x ≡ Some r.0) (sym q) r.1);
  once = λ i j n a b.
      let x = listed_node (trace_of s) 0 i a in
      let y = listed_node (trace_of s) 0 j b in
      let p : 0 + i ≡ 0 + j = ap (λ (z : Node). z.index) (sym x.2 ∙ y.2) in
      omega arith;
}

-- along a strand the numbering rises
pub rises_along : (s : Strand) (a m i j : ℕ) → item_at (nodes_from 0 (trace_of s)) i ≡ Some (node_at a m) → item_at (nodes_from 0 (trace_of s)) j ≡ Some (node_at a (suc m)) → i < j
rises_along s a m i j p q =
    let x = listed_node (trace_of s) 0 i p in
    let y = listed_node (trace_of s) 0 j q in
    let e : m ≡ 0 + i = ap (λ (z : Node). z.index) x.2 in
    let f : suc m ≡ 0 + j = ap (λ (z : Node). z.index) y.2 in
    omega arith

-- no event of a strand whose prefix only transmits is a reception
pub no_reception : (es : List (Event Term)) → ((i : ℕ) (e : Event Term) → item_at es i ≡ Some e → (t : Term) × (e ≡ send t)) →
    {A : Type 0} (f : Term → A) (i : ℕ) {m : A} → item_at (map (event_map f) es) i ≡ Some (recv m) → ⊥
no_reception es sends f i {m} p =
    let a = item_of_map (event_map f) es i _ p in
    let s = sends i a.0 a.1 in
    let q : event_map f (send s.0) ≡ recv m = ap (event_map f) (sym s.1) ∙ a.2 in
    cc

-- The strand of an instance under an assignment of atoms, and its assumptions.
module _ (role : Role) (height : ℕ) (terms : List Binding) where
  abbrev pub own_strand : Strand
  own_strand = regular role height (after (atoms_by own_number) (as_substitution terms))

  abbrev own_terms : List (Event Term)
  own_terms = map (event_map (apply_to (as_substitution terms))) (prefix_of role height)

  pub origin_at_node : (v : AtomTerm) (n : Node) → OriginatesAt (own_strand ∷ []) (atom (value_of_atom (atoms_by own_number) v)) n →
      (n.strand ≡ 0) × OriginatesInTerms own_terms (atom_term v) n.index
  origin_at_node v n o =
      let g = atoms_by own_number in
      let r = origin_there own_strand (atom (value_of_atom g v)) n.strand n.index o in (
        r.0,
        origin_of_value own_number own_numbers_distinct own_terms v n.index
            (subst (λ es. OriginatesIn es (atom (value_of_atom g v)) n.index) (trace_after g (as_substitution terms) (prefix_of role height)) r.1),
      )

  pub node_of_origin : (v : AtomTerm) (i : ℕ) → OriginatesInTerms own_terms (atom_term v) i →
      OriginatesAt (own_strand ∷ []) (atom (value_of_atom (atoms_by own_number) v)) (node_at 0 i)
  node_of_origin v i o =
      let g = atoms_by own_number in
      subst (λ es. OriginatesIn es (atom (value_of_atom g v)) i) (sym (trace_after g (as_substitution terms) (prefix_of role height)))
      (origin_of_term own_number own_numbers_distinct own_terms v i o)

  pub keeps_non : (v : AtomTerm) → ((i : ℕ) → OriginatesInTerms own_terms (atom_term v) i → ⊥) → KeepsNon (own_strand ∷ []) (atom (value_of_atom (atoms_by own_number) v))
  keeps_non v none n o = none n.index (origin_at_node v n o).1

  pub keeps_penetrator_non : (v : Message) → KeepsPenetratorNon (own_strand ∷ []) v
  keeps_penetrator_non v n p e o = let r = (only_place own_strand n.strand e).1 in absurd (cc)

  pub keeps_unique : (v : AtomTerm) (i : ℕ) → OriginatesInTerms own_terms (atom_term v) i → KeepsUnique (own_strand ∷ []) (atom (value_of_atom (atoms_by own_number) v)) (node_at 0 i)
  keeps_unique v i o = record {
    role = role;
    height = height;
    values = after (atoms_by own_number) (as_substitution terms);
    on_regular = refl;
    originates = node_of_origin v i o;
    only = λ n p. let r = origin_there own_strand (atom (value_of_atom (atoms_by own_number) v)) n.strand n.index p in
        node_eta n i r.0 (one_origin r.1 (node_of_origin v i o));
  }

-- Embeddings, and what they do with the items of a skeleton.
use Rattle.std.proofs.Common.{◌≡◌, ℕ, ◌<◌, List, length, refl, sym, ap, ◌∙◌, subst}
use Rattle.std.specs.Prelude.{Some}
use Rattle.cp_lists.specs.Lists.{item_at, IsIn}
use Rattle.cp_model.specs.Term.{AtomTerm, Term, Substitution, apply_to, apply_to_atom}
use Rattle.cp_model.specs.Bindings.{Binding, as_substitution}
use Rattle.cp_model.specs.Strand.{Role, prefix_of}
use Rattle.cp_model.specs.Bundle.{node_at}
use Rattle.cp_model.specs.declared.node.Node.{Node}
use Rattle.cp_model.specs.Skeleton.{SkeletonStrand, instance, listener, UniqueAt, Skeleton, IsOrderPair}
use Rattle.cp_model.specs.Homomorphism.{SkeletonMap, mapped, GoesToInstance, IsHomomorphism, IsEmbedding}
use Rattle.cp_lists.proofs.Items.{item_below, item_there, at_place, place_of}
use Rattle.cp_model.proofs.LawStandings.{strand_of_event}
use Rattle.cp_skel.specs.Ordered.{IsOrdered}
use Rattle.cp_hom.specs.PartialMaps.{PartialMap, ExtendsPartial, map_of}
use Rattle.cp_hom.specs.Counterparts.{MakesPart, GoesToStrand, BecomesAtom, BecomesUnique, TakesAs, TakesItem, item_count, IsItemOf, KeepsProblem, KeepsApart, IsKeptBy, KeepsPairs}
use Rattle.cp_hom.specs.OpenMaps.{IsWholeMap, NeverEmbeds}
use Rattle.cp_hom.proofs.Agreed.{events_agreed, events_made}
use Rattle.cp_hom.proofs.KeptOrder.{both_nodes, StrandsGo, order_kept, pairs_kept}
use Rattle.cp_hom.specs.declared.items.Kind.{Kind}
use Rattle.cp_hom.specs.declared.items.Kind.TheVariants.{Strands, NonOriginating, PenetratorNonOriginating, Uniques}
use Rattle.cp_hom.specs.declared.items.Item.{Item}

-- ---- an embedding takes each item as another

strand_taken : (a b : Skeleton) (f : SkeletonMap) → IsEmbedding a b f → (s : ℕ) (st : SkeletonStrand) → item_at a.strands s ≡ Some st →
    (image : ℕ) × (image < length b.strands) × GoesToStrand a.strands b.strands s image f
strand_taken a b f h s (instance role height terms) at =
    let g = h.homomorphism.instances s role height terms at in (
      f.strands s,
      item_below b.strands (f.strands s) (instance role g.to_height g.to_terms) g.on_instance,
      record {
        from = instance role height terms;
        to = instance role g.to_height g.to_terms;
        is_from = at;
        is_to = g.on_instance;
        goes = refl;
        part = (refl, g.at_least, events_made f.terms (prefix_of role height) (as_substitution terms) (as_substitution g.to_terms) g.equal_terms);
      },
    )
strand_taken a b f h s (listener t) at =
    let g = h.homomorphism.listeners s t at in (
      f.strands s,
      item_below b.strands (f.strands s) (listener (apply_to f.terms t)) g,
      record { from = listener t; to = listener (apply_to f.terms t); is_from = at; is_to = g; goes = refl; part = refl },
    )

atom_taken : (f : SkeletonMap) (xs ys : List AtomTerm) → ((v : AtomTerm) → IsIn v xs → IsIn (apply_to_atom f.terms v) ys) → (i : ℕ) (v : AtomTerm) → item_at xs i ≡ Some v →
    (image : ℕ) × (image < length ys) × BecomesAtom xs ys i image f
atom_taken f xs ys h i v at =
    let k = place_of (h v (at_place xs i v at)) in (
      k.0,
      item_below ys k.0 (apply_to_atom f.terms v) k.1,
      record { from = v; to = apply_to_atom f.terms v; is_from = at; is_to = k.1; becomes = refl },
    )

unique_taken : (f : SkeletonMap) (xs ys : List UniqueAt) →
    ((u : UniqueAt) → IsIn u xs → IsIn (record { value = apply_to_atom f.terms u.value; origin = mapped f u.origin }) ys) → (i : ℕ) (u : UniqueAt) → item_at xs i ≡ Some u →
    (image : ℕ) × (image < length ys) × BecomesUnique xs ys i image f
unique_taken f xs ys h i u at =
    let v : UniqueAt = record { value = apply_to_atom f.terms u.value; origin = mapped f u.origin } in
    let k = place_of (h u (at_place xs i u at)) in (
      k.0,
      item_below ys k.0 v k.1,
      record { from = u; to = v; is_from = at; is_to = k.1; becomes = refl; origin = refl; index = refl },
    )

kind_taken : (a b : Skeleton) (f : SkeletonMap) → IsEmbedding a b f → (kind : Kind) (i : ℕ) → i < item_count kind a → (image : ℕ) × (image < item_count kind b) × TakesAs kind a b i image f
kind_taken a b f h Strands i l = let x = item_there a.strands i l in strand_taken a b f h i x.0 x.1
kind_taken a b f h NonOriginating i l =
    let x = item_there a.assumptions.non_originating i l in
    atom_taken f a.assumptions.non_originating b.assumptions.non_originating h.homomorphism.non i x.0 x.1
kind_taken a b f h PenetratorNonOriginating i l =
    let x = item_there a.assumptions.penetrator_non_originating i l in
    atom_taken f a.assumptions.penetrator_non_originating b.assumptions.penetrator_non_originating h.homomorphism.penetrator_non i x.0 x.1
kind_taken a b f h Uniques i l =
    let x = item_there a.assumptions.uniquely_originating i l in
    unique_taken f a.assumptions.uniquely_originating b.assumptions.uniquely_originating h.homomorphism.unique i x.0 x.1

pub item_taken : (a b : Skeleton) (f : SkeletonMap) → IsEmbedding a b f → (item : Item) → IsItemOf a item → (image : ℕ) × (image < item_count item.kind b) × TakesItem a b item image f
item_taken a b f h item p = kind_taken a b f h item.kind item.index p

pub embedding_apart : (a b : Skeleton) (f : SkeletonMap) → IsEmbedding a b f → KeepsApart a.strands f.strands
embedding_apart a b f h s t p q e = h.injective s t p.role p.height p.terms q.role q.height q.terms p.on_instance q.on_instance e

pub embedding_pairs : (a b : Skeleton) (f : SkeletonMap) → IsOrdered a → IsOrdered b → IsEmbedding a b f → KeepsPairs a.pairs b.pairs f
embedding_pairs a b f order other h = pairs_kept a b f order other (record { instances = h.homomorphism.instances; listeners = h.homomorphism.listeners }) h.homomorphism.ordered

-- ---- a map that takes each item as another is an embedding

part_of : (f : Substitution) (from to st : SkeletonStrand) → from ≡ st → MakesPart f from to → MakesPart f st to
part_of f from to st e p = subst (λ (x : SkeletonStrand). MakesPart f x to) e p

instance_goes : (b : Skeleton) (f : SkeletonMap) (s image : ℕ) (role : Role) (height : ℕ) (terms : List Binding) (to : SkeletonStrand) → item_at b.strands image ≡ Some to → f.strands s ≡ image →
    MakesPart f.terms (instance role height terms) to → GoesToInstance b f s role height terms
instance_goes b f s image role height terms (instance other to_height to_terms) at goes part = record {
  to_height = to_height;
  to_terms = to_terms;
  on_instance = ap (item_at b.strands) goes ∙ at ∙ ap (λ (r : Role). Some (instance r to_height to_terms)) (sym part.0);
  at_least = part.1;
  equal_terms = events_agreed f.terms (prefix_of role height) (as_substitution terms) (as_substitution to_terms) part.2;
}
instance_goes b f s image role height terms (listener t) at goes part = absurd part

listener_goes : (b : Skeleton) (f : SkeletonMap) (s image : ℕ) (t : Term) (to : SkeletonStrand) → item_at b.strands image ≡ Some to → f.strands s ≡ image → MakesPart f.terms (listener t) to →
    item_at b.strands (f.strands s) ≡ Some (listener (apply_to f.terms t))
listener_goes b f s image t (listener u) at goes part = ap (item_at b.strands) goes ∙ at ∙ ap (λ (v : Term). Some (listener v)) (sym part)
listener_goes b f s image t (instance role height terms) at goes part = absurd part

abbrev TakesAll : Skeleton → Skeleton → SkeletonMap → Type 0
TakesAll a b f = (item : Item) → IsItemOf a item → (image : ℕ) × TakesItem a b item image f

strand_goes : (a b : Skeleton) (f : SkeletonMap) → TakesAll a b f → (s : ℕ) (st : SkeletonStrand) → item_at a.strands s ≡ Some st → (image : ℕ) × GoesToStrand a.strands b.strands s image f
strand_goes a b f all s st at = all (record { kind = Strands; index = s }) (item_below a.strands s st at)

strands_go : (a b : Skeleton) (f : SkeletonMap) → TakesAll a b f → StrandsGo a b f
strands_go a b f all = record {
  instances = λ s role height terms at.
      let g = strand_goes a b f all s (instance role height terms) at in
      let e : Some g.1.from ≡ Some (instance role height terms) = sym g.1.is_from ∙ at in
      let same : g.1.from ≡ instance role height terms = cc in
      instance_goes b f s g.0 role height terms g.1.to g.1.is_to g.1.goes (part_of f.terms g.1.from g.1.to (instance role height terms) same g.1.part);
  listeners = λ s t at.
      let g = strand_goes a b f all s (listener t) at in
      let e : Some g.1.from ≡ Some (listener t) = sym g.1.is_from ∙ at in
      let same : g.1.from ≡ listener t = cc in
      listener_goes b f s g.0 t g.1.to g.1.is_to g.1.goes (part_of f.terms g.1.from g.1.to (listener t) same g.1.part);
}

atom_listed : (f : SkeletonMap) (xs ys : List AtomTerm) (i image : ℕ) (v : AtomTerm) → item_at xs i ≡ Some v → BecomesAtom xs ys i image f → IsIn (apply_to_atom f.terms v) ys
atom_listed f xs ys i image v at h =
    let e : Some h.from ≡ Some v = sym h.is_from ∙ at in
    let same : h.from ≡ v = cc in
    let g : apply_to_atom f.terms v ≡ h.to = ap (apply_to_atom f.terms) (sym same) ∙ h.becomes in
    at_place ys image (apply_to_atom f.terms v) (h.is_to ∙ ap (λ (w : AtomTerm). Some w) (sym g))

unique_listed : (f : SkeletonMap) (xs ys : List UniqueAt) (i image : ℕ) (u : UniqueAt) → item_at xs i ≡ Some u → BecomesUnique xs ys i image f →
    IsIn (record { value = apply_to_atom f.terms u.value; origin = mapped f u.origin }) ys
unique_listed f xs ys i image u at h =
    let e : Some h.from ≡ Some u = sym h.is_from ∙ at in
    let same : h.from ≡ u = cc in
    let v : UniqueAt = record { value = apply_to_atom f.terms h.from.value; origin = mapped f h.from.origin } in
    let g : v ≡ h.to = λ j. record { value = h.becomes j; origin = record { strand = h.origin j; index = h.index j } } in
    subst (λ (w : UniqueAt). IsIn {A = UniqueAt} (record { value = apply_to_atom f.terms w.value; origin = mapped f w.origin }) ys) same
    (at_place ys image v (h.is_to ∙ ap (λ (w : UniqueAt). Some w) (sym g)))

atoms_listed : (f : SkeletonMap) (xs ys : List AtomTerm) → ((i : ℕ) → i < length xs → (image : ℕ) × BecomesAtom xs ys i image f) → (v : AtomTerm) → IsIn v xs → IsIn (apply_to_atom f.terms v) ys
atoms_listed f xs ys all v p =
    let k = place_of p in
    let h = all k.0 (item_below xs k.0 v k.1) in
    atom_listed f xs ys k.0 h.0 v k.1 h.1

uniques_listed : (f : SkeletonMap) (xs ys : List UniqueAt) → ((i : ℕ) → i < length xs → (image : ℕ) × BecomesUnique xs ys i image f) → (u : UniqueAt) → IsIn u xs →
    IsIn (record { value = apply_to_atom f.terms u.value; origin = mapped f u.origin }) ys
uniques_listed f xs ys all u p =
    let k = place_of p in
    let h = all k.0 (item_below xs k.0 u k.1) in
    unique_listed f xs ys k.0 h.0 u k.1 h.1

homomorphism_of : (a b : Skeleton) (f : SkeletonMap) → IsOrdered a → IsOrdered b → TakesAll a b f → KeepsPairs a.pairs b.pairs f → IsHomomorphism a b f
homomorphism_of a b f order other all kept =
    let go = strands_go a b f all in
    record {
      instances = go.instances;
      listeners = go.listeners;
      ordered = order_kept a b f order other go kept;
      non = atoms_listed f a.assumptions.non_originating b.assumptions.non_originating
          (λ i l. all (record { kind = NonOriginating; index = i }) l);
      penetrator_non = atoms_listed f a.assumptions.penetrator_non_originating b.assumptions.penetrator_non_originating
          (λ i l. all (record { kind = PenetratorNonOriginating; index = i }) l);
      unique = uniques_listed f a.assumptions.uniquely_originating b.assumptions.uniquely_originating
          (λ i l. all (record { kind = Uniques; index = i }) l);
    }

embedding_of : (a b : Skeleton) (f : SkeletonMap) → IsOrdered a → IsOrdered b → TakesAll a b f → KeepsProblem a b f → KeepsApart a.strands f.strands → KeepsPairs a.pairs b.pairs f → IsEmbedding a b f
embedding_of a b f order other all problem apart kept = record {
  homomorphism = homomorphism_of a b f order other all kept;
  injective = λ s t role height terms role' height' terms' at au e.
      apart s t (record { role = role; height = height; terms = terms; on_instance = at }) (record { role = role'; height = height'; terms = terms'; on_instance = au }) e;
  same_strands = problem.strands;
  same_values = problem.values;
}

-- ---- a partial map from which nothing is left to place

pub whole_embeds : (a b : Skeleton) (given : PartialMap) → IsOrdered a → IsOrdered b → IsWholeMap a b given → KeepsApart a.strands (map_of given).strands → KeepsPairs a.pairs b.pairs (map_of given) →
    IsEmbedding a b (map_of given)
whole_embeds a b given order other whole apart kept =
    embedding_of a b (map_of given) order other
    (λ item p. let h = whole.placed item p in (h.0, h.1 (map_of given) whole.consistent)) (whole.problem (map_of given) whole.consistent) apart kept

-- All maps that follow it send a strand to one strand.
one_image : (a b : Skeleton) (given : PartialMap) → IsWholeMap a b given → (f : SkeletonMap) → ExtendsPartial f given → (s : ℕ) (st : SkeletonStrand) → item_at a.strands s ≡ Some st → f.strands s ≡ (map_of given).strands s
one_image a b given whole f follows s st at =
    let h = whole.placed (record { kind = Strands; index = s }) (item_below a.strands s st at) in
    (h.1 f follows).goes ∙ sym (h.1 (map_of given) whole.consistent).goes

pub apart_never : (a b : Skeleton) (given : PartialMap) → IsWholeMap a b given → (KeepsApart a.strands (map_of given).strands → ⊥) → NeverEmbeds a b given
apart_never a b given whole not_apart f follows h = not_apart (λ s t p q e.
    h.injective s t p.role p.height p.terms q.role q.height q.terms p.on_instance q.on_instance
    (one_image a b given whole f follows s (instance p.role p.height p.terms) p.on_instance ∙ e
    ∙ sym (one_image a b given whole f follows t (instance q.role q.height q.terms) q.on_instance)))

one_node : (a b : Skeleton) (given : PartialMap) → IsWholeMap a b given → (f : SkeletonMap) → ExtendsPartial f given → (n : Node) (st : SkeletonStrand) → item_at a.strands n.strand ≡ Some st →
    mapped f n ≡ mapped (map_of given) n
one_node a b given whole f follows n st at = ap (λ (s : ℕ). node_at s n.index) (one_image a b given whole f follows n.strand st at)

pub pairs_never : (a b : Skeleton) (given : PartialMap) → IsOrdered a → IsOrdered b → IsWholeMap a b given → (KeepsPairs a.pairs b.pairs (map_of given) → ⊥) → NeverEmbeds a b given
pairs_never a b given order other whole not_kept f follows h = not_kept (λ p inp.
    let pair : IsOrderPair a p = order.order_pairs p inp in
    let st = strand_of_event a.strands p.earlier _ pair.transmission in
    let su = strand_of_event a.strands p.later _ pair.reception in
    let kept : IsKeptBy b.pairs f p = embedding_pairs a b f order other h p inp in
    let e = one_node a b given whole f follows p.earlier st.0 st.1 in
    let l = one_node a b given whole f follows p.later su.0 su.1 in
    both_nodes b.pairs (mapped f p.earlier) (mapped (map_of given) p.earlier) (mapped f p.later) (mapped (map_of given) p.later) e l kept)

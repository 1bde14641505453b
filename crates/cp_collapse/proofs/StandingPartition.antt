-- The partition of a skeleton's strands that a standing makes: role strands that go to one strand are together.
use Rattle.std.proofs.Common.{◌≡◌, ◌≢◌, inl, inr, ℕ, ◌<◌, ◌≤◌, Bool, true, ◌&&◌, nat_eq, List, Option, Some, None, map, length, refl, sym, ap, ◌∙◌, subst, arith, eq-eqb, eqb-true}
use Rattle.std.proofs.lemmas.List.{length-map}
use Rattle.cp_lists.specs.Lists.{item_at}
use Rattle.cp_model.specs.Term.{Assignment, variable_term, value_of}
use Rattle.cp_model.specs.Bindings.{Binding}
use Rattle.cp_model.specs.Strand.{Role, Strand, regular}
use Rattle.cp_model.specs.Bundle.{Bundle}
use Rattle.cp_model.specs.Skeleton.{SkeletonStrand, instance, listener, Skeleton}
use Rattle.cp_model.specs.Standing.{Standing, StandsIn, StandsApart}
use Rattle.cp_model.proofs.NumbersFrom.{numbers_length}
use Rattle.cp_lists.proofs.Items.{item_of_map, map_of_item, item_below}
use Rattle.cp_collapse.specs.Partitions.{is_some_instance, AreOfOneRole, IsPartitionByRole, finest, AreTogether, IdentifiesValues}
use Rattle.cp_collapse.proofs.Lowest.{both, low, low_below, low_with, low_same, low_of_low, numbers_at, at_numbers}

pub instance_of : (o : Option SkeletonStrand) → is_some_instance o ≡ true → (role : Role) × (height : ℕ) × (terms : List Binding) × (o ≡ Some (instance role height terms))
instance_of None e = absurd (cc)
instance_of (Some (listener t)) e = absurd (cc)
instance_of (Some (instance role height terms)) e = (role, height, terms, refl)

-- Two regular strands at one place.
regulars_at : {o : Option Strand} {role role' : Role} {height height' : ℕ} {g g' : Assignment} → o ≡ Some (regular role height g) → o ≡ Some (regular role' height' g') → (role ≡ role') × (g ≡ g')
regulars_at {role = role} {role' = role'} {height = height} {height' = height'} {g = g} {g' = g'} e f =
    let q : Some (regular role height g) ≡ Some (regular role' height' g') = sym e ∙ f in
    (cc, cc)

module _ (k : Skeleton) (h : Standing) where
  -- Two role strands go to one strand.
  abbrev pub together : ℕ → ℕ → Bool
  together s t = (is_some_instance (item_at k.strands s) && is_some_instance (item_at k.strands t)) && nat_eq (h.nodes s).strand (h.nodes t).strand

  abbrev pub partition : List ℕ
  partition = map (low together) (finest k)

  together_tells : (s t : ℕ) → together s t ≡ true → (is_some_instance (item_at k.strands s) ≡ true) × (is_some_instance (item_at k.strands t) ≡ true) × ((h.nodes s).strand ≡ (h.nodes t).strand)
  together_tells s t e =
      let a = both (is_some_instance (item_at k.strands s) && is_some_instance (item_at k.strands t)) (nat_eq (h.nodes s).strand (h.nodes t).strand) e in
      let b = both (is_some_instance (item_at k.strands s)) (is_some_instance (item_at k.strands t)) a.0 in
      (b.0, b.1, eqb-true (h.nodes s).strand (h.nodes t).strand a.1)

  are_together : (s t : ℕ) → is_some_instance (item_at k.strands s) ≡ true → is_some_instance (item_at k.strands t) ≡ true → (h.nodes s).strand ≡ (h.nodes t).strand → together s t ≡ true
  are_together s t a b e = rw (a, b) (eq-eqb (h.nodes s).strand (h.nodes t).strand e)

  back : (s t : ℕ) → together s t ≡ true → together t s ≡ true
  back s t e = let r = together_tells s t e in are_together t s r.1 r.0 (sym r.2)

  then : (s t u : ℕ) → together s t ≡ true → together t u ≡ true → together s u ≡ true
  then s t u e f = let r = together_tells s t e in let q = together_tells t u f in are_together s u r.0 q.1 (r.2 ∙ q.2)

  pub at_partition : (s l : ℕ) → item_at partition s ≡ Some l → (s < length k.strands) × (low together s ≡ l)
  at_partition s l e =
      let m = item_of_map (low together) (finest k) s l e in
      let n = at_numbers 0 k.strands s m.0 m.1 in
      let same : m.0 ≡ s = let q = n.1 in omega (arith, q) in
      (n.0, ap (low together) (sym same) ∙ m.2)

  pub partition_at : (s : ℕ) → s < length k.strands → item_at partition s ≡ Some (low together s)
  partition_at s l = map_of_item (low together) (finest k) s s (numbers_at 0 k.strands s l ∙ ap Some (omega arith))

  partition_length : length partition ≡ length k.strands
  partition_length = length-map (finest k) (low together) ∙ numbers_length 0 k.strands

  -- Role strands that go to one strand have one entry, and strands with one entry go to one strand.
  pub one_entry : (s t : ℕ) (role : Role) (height : ℕ) (terms : List Binding) (role' : Role) (height' : ℕ) (terms' : List Binding) →
      item_at k.strands s ≡ Some (instance role height terms) → item_at k.strands t ≡ Some (instance role' height' terms') →
      (h.nodes s).strand ≡ (h.nodes t).strand → low together s ≡ low together t
  one_entry s t role height terms role' height' terms' at au e = low_same together back then s t (are_together s t (ap is_some_instance at) (ap is_some_instance au) e)

  pub goes_where_low_goes : (s : ℕ) → (h.nodes (low together s)).strand ≡ (h.nodes s).strand
  goes_where_low_goes s = elim (low_with together s) [ inl e ↦ ap (λ (t : ℕ). (h.nodes t).strand) e | inr e ↦ (together_tells (low together s) s e).2 ]

  pub one_strand : (s t : ℕ) → AreTogether partition s t → (h.nodes s).strand ≡ (h.nodes t).strand
  one_strand s t a =
      let e : low together s ≡ low together t = (at_partition s a.0 a.1).1 ∙ sym (at_partition t a.0 a.2).1 in
      sym (goes_where_low_goes s) ∙ ap (λ (u : ℕ). (h.nodes u).strand) e ∙ goes_where_low_goes t

  module _ (b : Bundle) (stands : StandsIn k b h) where
    alike_at : (s l : ℕ) → together l s ≡ true → AreOfOneRole k.strands s l
    alike_at s l e =
        let r = together_tells l s e in
        let i = instance_of (item_at k.strands s) r.1 in
        let j = instance_of (item_at k.strands l) r.0 in
        let a = stands.instances s i.0 i.1 i.2 i.3 in
        let c = stands.instances l j.0 j.1 j.2 j.3 in
        let same = regulars_at (subst (λ (t : ℕ). item_at b.strands t ≡ Some (regular j.0 c.to_height c.to_values)) r.2 c.on_regular) a.on_regular in
        record {
          role = i.0;
          height = i.1;
          terms = i.2;
          first = i.3;
          height' = j.1;
          terms' = j.2;
          second = subst (λ (role : Role). item_at k.strands l ≡ Some (instance role j.1 j.2)) same.0 j.3;
        }

    pub alike_or_same : (s : ℕ) → s ≢ low together s → AreOfOneRole k.strands s (low together s)
    alike_or_same s ne = elim (low_with together s) [ inl e ↦ absurd (ne (sym e)) | inr e ↦ alike_at s (low together s) e ]

    pub is_partition : IsPartitionByRole k partition
    is_partition = record {
      each = partition_length;
      lowest = λ s l e.
          let r = at_partition s l e in
          let below : low together s ≤ s = low_below together s in
          let within = r.0 in
          let same = r.1 in (
            subst (λ (m : ℕ). m ≤ s) r.1 below,
            partition_at l (omega (arith, below, within, same)) ∙ ap Some (ap (low together) (sym r.1) ∙ low_of_low together back then s ∙ r.1),
          );
      alike = λ s l e ne. let r = at_partition s l e in subst (AreOfOneRole k.strands s) r.1 (alike_or_same s (λ q. ne (q ∙ r.1)));
    }

    -- The assignment of the standing gives the strands of each block equal values.
    pub values_identified : IdentifiesValues k partition h.values
    values_identified s t role height terms height' terms' at au a x inx inx' =
        let st = stands.instances s role height terms at in
        let su = stands.instances t role height' terms' au in
        let same = regulars_at (subst (λ (m : ℕ). item_at b.strands m ≡ Some (regular role st.to_height st.to_values)) (one_strand s t a) st.on_regular) su.on_regular in
        st.equal_values x inx ∙ ap (λ (g : Assignment). value_of g (variable_term x)) same.1 ∙ sym (su.equal_values x inx')

  -- Where each strand is alone, the skeleton stands apart.
  pub apart_if_finest : partition ≡ finest k → StandsApart k h
  apart_if_finest fine s t role height terms role' height' terms' at au e = sym (alone s role height terms at) ∙ one_entry s t role height terms role' height' terms' at au e ∙ alone t role' height' terms' au
    where
      alone : (s : ℕ) (role : Role) (height : ℕ) (terms : List Binding) → item_at k.strands s ≡ Some (instance role height terms) → low together s ≡ s
      alone s role height terms at =
          let l = item_below k.strands s (instance role height terms) at in
          let e : Some (low together s) ≡ Some s = sym (partition_at s l) ∙ ap (λ (p : List ℕ). item_at p s) fine ∙ numbers_at 0 k.strands s l ∙ ap Some (omega arith) in
          cc

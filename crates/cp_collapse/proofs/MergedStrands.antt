-- Merged strands are those of a collapsed skeleton: each instance goes to the tallest of its block, and listeners stay.
use Rattle.std.proofs.Common.{◌≡◌, ◌⊎◌, inl, inr, ℕ, ◌<◌, List, Some, length, refl, sym, ap, ◌∙◌, arith, None}
use native.Mathlib.Decide.{ℕ_discrete}
use Rattle.cp_lists.specs.Lists.{item_at}
use Rattle.cp_model.specs.Term.{Term, Substitution, apply_to, composed}
use Rattle.cp_model.specs.Strand.{Role, variables_of_prefix}
use Rattle.cp_model.specs.Skeleton.{SkeletonStrand, instance, listener, Skeleton}
use Rattle.cp_model.specs.Homomorphism.{GoesToInstance}
use Rattle.cp_lists.proofs.Items.{item_below, item_there}
use Rattle.cp_model.proofs.LawPrefixes.{variables_of_higher}
use Rattle.cp_model.proofs.DeclaredTerms.{by_bindings}
use Rattle.cp_theory.specs.Normal.{strand_under, terms_under}
use Rattle.cp_collapse.specs.Partitions.{IsPartitionByRole, block_count, place_in, Identifies, IdentifiesValues}
use Rattle.cp_collapse.specs.Collapses.{onto_blocks, HasInstance}
use Rattle.cp_collapse.specs.FirstPartitions.{IsExactFor}
use Rattle.cp_collapse.specs.MergedStrands.{IsMergedAt, AreMergedTo}
use Rattle.cp_unify.specs.Bindings.{Binding, as_substitution}
use Rattle.cp_collapse.proofs.Exact.{exact_identifies}
use Rattle.cp_collapse.proofs.Places.{entry_of_own, taken, place_of_entry}

-- What an instance under a substitution was.
instance_under : (f : Substitution) (ks : List SkeletonStrand) (t : ℕ) (st : SkeletonStrand) (role : Role) (height : ℕ) (terms : List Binding) → item_at ks t ≡ Some st → strand_under f st ≡ instance role height terms →
    (own : List Binding) × (item_at ks t ≡ Some (instance role height own))
instance_under f ks t (instance role' height' own) role height terms at e =
    let r : role' ≡ role = cc in
    let h : height' ≡ height = cc in
    (own, cc)
instance_under f ks t (listener u) role height terms at e = absurd (cc)

module _ (k l : Skeleton) (p : List ℕ) (f : Substitution) (part : IsPartitionByRole k p) (merged : AreMergedTo k p f (length p) l.strands) where
  entry_of : (s : ℕ) (st : SkeletonStrand) → item_at k.strands s ≡ Some st → (m : ℕ) × (item_at p s ≡ Some m)
  entry_of s st at = let below = item_below k.strands s st at in let e = part.each in item_there p s (omega (arith, below, e))

  block_of : (s m : ℕ) → item_at p s ≡ Some m → IsMergedAt k p f m l.strands
  block_of s m e = let own = (part.lowest s m e).1 in merged.each m (item_below p m m own) own

  pub merged_instances : Identifies k p f → (s : ℕ) (role : Role) (height : ℕ) (terms : List Binding) → item_at k.strands s ≡ Some (instance role height terms) → GoesToInstance l (onto_blocks p f) s role height terms
  merged_instances identifies s role height terms at =
      let e = entry_of s (instance role height terms) at in
      let m = block_of s e.0 e.1 in
      let tall = m.is_tallest.as_tall s role height terms (item_below p s e.0 e.1) e.1 at in
      let same : Some m.strand ≡ Some (instance role tall.own_height tall.own_terms) = sym m.was_there ∙ tall.on_instance in
      let is : m.strand ≡ instance role tall.own_height tall.own_terms = cc in
      record {
        to_height = tall.own_height;
        to_terms = terms_under f role tall.own_height tall.own_terms;
        on_instance = ap (item_at l.strands) (place_of_entry p s e.0 e.1) ∙ m.merged ∙ ap (λ (st : SkeletonStrand). Some (strand_under f st)) is;
        at_least = tall.at_least;
        equal_terms = λ x i.
            let j = variables_of_higher role height tall.own_height tall.at_least x i in
            identifies s m.tallest role height terms tall.own_height tall.own_terms at tall.on_instance (e.0, e.1, m.is_tallest.in_block) x i j
            ∙ sym (by_bindings (composed (as_substitution tall.own_terms) f) (variables_of_prefix role tall.own_height) x j);
      }

  pub merged_tallest : (place : ℕ) (role : Role) (height : ℕ) (terms : List Binding) → item_at l.strands place ≡ Some (instance role height terms) → HasInstance k p place role height
  merged_tallest place role height terms at =
      let below = item_below l.strands place (instance role height terms) at in
      let c = merged.count in
      let s = taken p (length p) place (omega (arith, below, c)) in
      let own = own_within s.0 s.1 (entry_of_own p s.0 s.2) in
      let m = block_of s.0 s.0 own in
      let same : Some (strand_under f m.strand) ≡ Some (instance role height terms) = sym m.merged ∙ ap (item_at l.strands) s.3 ∙ at in
      let is : strand_under f m.strand ≡ instance role height terms = cc in
      let i = instance_under f k.strands m.tallest m.strand role height terms m.was_there is in
      record { strand = m.tallest; terms = i.0; at_place = place_of_entry p m.tallest s.0 m.is_tallest.in_block ∙ s.3; on_instance = i.1 }
    where
      own_within : (s : ℕ) → s < length p → (item_at p s ≡ None) ⊎ (item_at p s ≡ Some s) → item_at p s ≡ Some s
      own_within s less (inl none) = let there = item_there p s less in absurd (let e : None ≡ Some there.0 = sym none ∙ there.1 in cc)
      own_within s less (inr some) = some

  -- A listener is alone in its block.
  not_an_instance : (s m : ℕ) (t : Term) (role : Role) (height : ℕ) (terms : List Binding) → item_at k.strands s ≡ Some (listener t) → item_at k.strands m ≡ Some (instance role height terms) → s ≡ m → ⊥
  not_an_instance s m t role height terms at there e = let q : Some (listener t) ≡ Some (instance role height terms) = sym at ∙ ap (item_at k.strands) e ∙ there in cc

  listener_own : (s m : ℕ) (t : Term) → item_at k.strands s ≡ Some (listener t) → item_at p s ≡ Some m → Dec (s ≡ m) → s ≡ m
  listener_own s m t at e (yes same) = same
  listener_own s m t at e (no ne) = let a = part.alike s m e ne in absurd (not_an_instance s s t a.role a.height a.terms at a.first refl)

  listener_alone : (s u : ℕ) (t : Term) → item_at k.strands s ≡ Some (listener t) → item_at p u ≡ Some s → Dec (u ≡ s) → u ≡ s
  listener_alone s u t at e (yes same) = same
  listener_alone s u t at e (no ne) = let a = part.alike u s e ne in absurd (not_an_instance s s t a.role a.height' a.terms' at a.second refl)

  pub merged_listeners : (s : ℕ) (t : Term) → item_at k.strands s ≡ Some (listener t) → item_at l.strands (place_in p s) ≡ Some (listener (apply_to f t))
  merged_listeners s t at =
      let e = entry_of s (listener t) at in
      let own = listener_own s e.0 t at e.1 (ℕ_discrete s e.0) in
      let here : item_at p s ≡ Some s = e.1 ∙ ap Some (sym own) in
      let m = block_of s s here in
      let alone = listener_alone s m.tallest t at m.is_tallest.in_block (ℕ_discrete m.tallest s) in
      let same : Some m.strand ≡ Some (listener t) = sym m.was_there ∙ ap (item_at k.strands) alone ∙ at in
      let is : m.strand ≡ listener t = cc in
      ap (item_at l.strands) (place_of_entry p s s here) ∙ m.merged ∙ ap (λ (st : SkeletonStrand). Some (strand_under f st)) is

-- The strands of l are those of k merged by the partition, under the substitution.
pub record HasMergedStrands (k : Skeleton) (p : List ℕ) (f : Substitution) (l : Skeleton) : Type 0 where
  pub count : length l.strands ≡ block_count p
  pub instances : (s : ℕ) (role : Role) (height : ℕ) (terms : List Binding) → item_at k.strands s ≡ Some (instance role height terms) → GoesToInstance l (onto_blocks p f) s role height terms
  pub tallest : (place : ℕ) (role : Role) (height : ℕ) (terms : List Binding) → item_at l.strands place ≡ Some (instance role height terms) → HasInstance k p place role height
  pub listeners : (s : ℕ) (t : Term) → item_at k.strands s ≡ Some (listener t) → item_at l.strands (place_in p s) ≡ Some (listener (apply_to f t))

pub has_merged_strands : (k l : Skeleton) (p : List ℕ) (r : List Binding) → IsPartitionByRole k p → IsExactFor (IdentifiesValues k p) r → AreMergedTo k p (as_substitution r) (length p) l.strands →
    HasMergedStrands k p (as_substitution r) l
has_merged_strands k l p r part exact merged = record {
  count = merged.count;
  instances = merged_instances k l p (as_substitution r) part merged (exact_identifies k p r exact);
  tallest = merged_tallest k l p (as_substitution r) part merged;
  listeners = merged_listeners k l p (as_substitution r) part merged;
}

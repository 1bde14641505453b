-- What cannot be derived is not made by the penetrator alone.
use Rattle.std.proofs.Common.{◌≡◌, ◌≢◌, ℕ, List, Option, Some, refl, sym, ap, ◌∙◌, subst, inl, inr, arith}
use Rattle.cp_lists.specs.Lists.{item_at}
use Rattle.cp_model.specs.Message.{Atom, tag, atom, itself}
use Rattle.cp_model.specs.Term.{AtomTerm, Term, tag_term, atom_term, pair_term, enc_term, Assignment, value_of, value_of_atom}
use Rattle.cp_model.specs.Strand.{create_atom, Strand, penetrator, regular}
use Rattle.cp_model.specs.Bundle.{node_at, trace_or_none, OriginatesAt, Bundle}
use Rattle.cp_model.specs.declared.node.Node.{Node}
use Rattle.cp_model.specs.Skeleton.{Skeleton}
use Rattle.cp_model.specs.Standing.{Standing, image_of, StandsIn}
use Rattle.cp_model.specs.Derivable.{IsUniqueValue, IsSecret, DerivableAt, a_tag, an_atom}
use Rattle.cp_theory.specs.AuthenticationTest.{IsNoPairMessage, IsNotCreated}

-- A term that is no pair has a value that is none.
pub no_pair_value : (g : Assignment) (c : Term) → ((a b : Term) → c ≢ pair_term a b) → IsNoPairMessage (value_of g c)
no_pair_value g (tag_term bytes) none x y e = cc
no_pair_value g (atom_term a) none x y e = cc
no_pair_value g (pair_term a b) none x y e = none a b refl
no_pair_value g (enc_term a k) none x y e = cc

created_atom : (b : Bundle) (s : ℕ) (a : Atom) → item_at b.strands s ≡ Some (penetrator (create_atom a)) → OriginatesAt b.strands (atom a) (node_at s 0)
created_atom b s a on = record {
  sent = atom a;
  transmission = ap (λ (o : Option Strand). item_at (trace_or_none o) 0) on;
  carried = itself;
  first = λ j e l at c. absurd (omega arith);
}

module _ (k : Skeleton) (b : Bundle) (h : Standing) (stands : StandsIn k b h) (s : ℕ) (a : Atom) (on : item_at b.strands s ≡ Some (penetrator (create_atom a))) where
  origin : (v : AtomTerm) → value_of_atom h.values v ≡ a → OriginatesAt b.strands (atom (value_of_atom h.values v)) (node_at s 0)
  origin v same = subst (λ (w : Atom). OriginatesAt b.strands (atom w) (node_at s 0)) (sym same) (created_atom b s a on)

  not_unique : (v : AtomTerm) → value_of_atom h.values v ≡ a → IsUniqueValue k v → ⊥
  not_unique v same u =
      let kept = stands.unique u.entry u.listed in
      let value : value_of_atom h.values u.entry.value ≡ a = ap (value_of_atom h.values) u.same ∙ same in
      let there : node_at s 0 ≡ image_of k h u.entry.origin = kept.only (node_at s 0) (origin u.entry.value value) in
      let both : Some (penetrator (create_atom a)) ≡ Some (regular kept.role kept.height kept.values) = sym on ∙ ap (λ (n : Node). item_at b.strands n.strand) there ∙ kept.on_regular in
      cc

  -- An atom that the penetrator makes is not secret.
  not_secret : (v : AtomTerm) → value_of_atom h.values v ≡ a → IsSecret k v → ⊥
  not_secret v same (inl i) = stands.non v i (node_at s 0) (origin v same)
  not_secret v same (inr (inl i)) = stands.penetrator_non v i (node_at s 0) (create_atom a) on (origin v same)
  not_secret v same (inr (inr u)) = not_unique v same u

  no_atom_made : (n : Node) (c : Term) → (DerivableAt k n c → ⊥) → value_of h.values c ≡ atom a → ⊥
  no_atom_made n (tag_term bytes) none e = cc
  no_atom_made n (atom_term v) none e = let same : value_of_atom h.values v ≡ a = cc in none (an_atom (not_secret v same))
  no_atom_made n (pair_term x y) none e = cc
  no_atom_made n (enc_term x key) none e = cc

no_tag_made : (k : Skeleton) (g : Assignment) (n : Node) (c : Term) (bytes : List ℕ) → (DerivableAt k n c → ⊥) → value_of g c ≡ tag bytes → ⊥
no_tag_made k g n (tag_term t) bytes none e = none a_tag
no_tag_made k g n (atom_term v) bytes none e = cc
no_tag_made k g n (pair_term x y) bytes none e = cc
no_tag_made k g n (enc_term x key) bytes none e = cc

-- So no create strand makes the value of a term that cannot be derived.
pub not_created : (k : Skeleton) (b : Bundle) (h : Standing) (n : Node) (c : Term) → StandsIn k b h → (DerivableAt k n c → ⊥) → IsNotCreated b (value_of h.values c)
not_created k b h n c stands none = record {
  no_tag = λ s bytes on e. no_tag_made k h.values n c bytes none e;
  no_atom = λ s a on e. no_atom_made k b h stands s a on n c none e;
}

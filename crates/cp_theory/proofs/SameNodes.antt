-- Numbers and nodes are equal or not.
use Rattle.std.proofs.Common.{◌≡◌, ℕ, ◌<◌, ap, ◌⊎◌, inl, inr, arith}
use Rattle.std.proofs.lemmas.Bool.{cases_order}
use Rattle.cp_model.specs.declared.node.Node.{Node}

pub same_number_or_not : (a b : ℕ) → (a ≡ b) ⊎ (a ≡ b → ⊥)
same_number_or_not a b = of (cases_order a b)
  where
    of : (a ≡ b) ⊎ ((a < b) ⊎ (b < a)) → (a ≡ b) ⊎ (a ≡ b → ⊥)
    of (inl e) = inl e
    of (inr (inl h)) = inr (λ e. omega arith)
    of (inr (inr h)) = inr (λ e. omega arith)

pub same_node : {a b : Node} → a.strand ≡ b.strand → a.index ≡ b.index → a ≡ b
same_node s i = λ j. record { strand = s j; index = i j }

pub same_node_or_not : (a b : Node) → (a ≡ b) ⊎ (a ≡ b → ⊥)
same_node_or_not a b = of (same_number_or_not a.strand b.strand) (same_number_or_not a.index b.index)
  where
    of : (a.strand ≡ b.strand) ⊎ (a.strand ≡ b.strand → ⊥) → (a.index ≡ b.index) ⊎ (a.index ≡ b.index → ⊥) → (a ≡ b) ⊎ (a ≡ b → ⊥)
    of (inl s) (inl i) = inl (same_node s i)
    of (inr s) i = inr (λ e. s (ap (λ (n : Node). n.strand) e))
    of (inl s) (inr i) = inr (λ e. i (ap (λ (n : Node). n.index) e))

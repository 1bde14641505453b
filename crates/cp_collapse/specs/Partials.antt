-- Partitions of the first strands with bindings that identify their blocks, as the program keeps them, and what
-- unification answers beside bindings.
use Rattle.std.specs.Prelude.{◌≡◌, ℕ, List, [], ◌∷◌, ◌++◌, map}
use Rattle.cp_lists.specs.Lists.{IsIn}
use Rattle.cp_model.specs.Term.{Assignment, after}
use Rattle.cp_model.specs.Bindings.{bindings_of}
use Rattle.cp_model.specs.Skeleton.{Skeleton}
use Rattle.cp_unify.specs.Bindings.{Binding, Meets, as_substitution}
use Rattle.cp_unify.specs.Unifiers.{AreLaterToEarlier}
use Rattle.cp_strand.specs.View.{InstanceData}
use Rattle.cp_collapse.specs.Partitions.{HaveEqualValues, IdentifiesValues}
use Rattle.cp_collapse.specs.FirstPartitions.{IsRuledOut, ArePartitionsOfFirst, MayHave, AreExtendedTo, IsExactFor}
use Rattle.cp_collapse.specs.declared.partitions.Partial.{Partial}

-- The bindings are solved: each is of a later variable to an earlier one; and whatever an assignment gives to the variables
-- that are not bound, they give one that meets them.
abbrev pub AreSolved : List Binding → Type 0
AreSolved r = AreLaterToEarlier r × ((g : Assignment) → Meets (after g (as_substitution r)) r)

-- An assignment meets the bindings and gives two instances equal values.
abbrev pub AlsoEqual : List Binding → InstanceData → InstanceData → Assignment → Type 0
AlsoEqual given a b g = Meets g given × HaveEqualValues a.role a.height (bindings_of a.values) b.height (bindings_of b.values) g

-- The fact is true of no assignment.
abbrev pub IsOfNoAssignment : (Assignment → Type 0) → Type 0
IsOfNoAssignment fact = (g : Assignment) → fact g → ⊥

-- The partitions of partial ones.
abbrev pub lists : List Partial → List (List ℕ)
lists partials = map (λ p. p.lowest.items) partials

-- The bindings of a partial partition are met by exactly the assignments that give the strands of each block equal values.
abbrev pub IsExact : Skeleton → Partial → Type 0
IsExact k p = IsExactFor (IdentifiesValues k p.lowest.items) p.bindings.value

-- These are the partial partitions of the first n strands.
pub record ArePartials (k : Skeleton) (n : ℕ) (partials : List Partial) : Type 0 where
  pub partitions : ArePartitionsOfFirst k n (lists partials)
  pub exact : (p : Partial) → IsIn p partials → IsExact k p

-- Of the partitions ps of the first n strands those before number i are extended by each entry, and number i by each from
-- m on.
pub record ArePartlyExtended (k : Skeleton) (n : ℕ) (ps : List (List ℕ)) (i m : ℕ) (partials : List Partial) : Type 0 where
  pub extended : AreExtendedTo k n ps i m (lists partials)
  pub exact : (p : Partial) → IsIn p partials → IsExact k p

-- The partial partition is p with the entry l for strand n, which it may have.
pub record Joins (k : Skeleton) (n : ℕ) (p : List ℕ) (l : ℕ) (partial : Partial) : Type 0 where
  pub extended : partial.lowest.items ≡ p ++ (l ∷ [])
  pub may_have : MayHave k p n l
  pub exact : IsExact k partial

-- Strand n may not have the entry l beside p, or the partition is then ruled out.
abbrev pub MayNotJoin : Skeleton → ℕ → List ℕ → ℕ → Type 0
MayNotJoin k n p l = MayHave k p n l → IsRuledOut k (p ++ (l ∷ []))

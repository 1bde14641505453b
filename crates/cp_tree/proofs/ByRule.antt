-- What the rule says is one of the cases.
use Rattle.std.proofs.Common.{◌≡◌, ◌⊎◌, inl, inr, ℕ, ◌<◌, ◌≤◌, List, [], ◌∷◌, length, Bool, true, false, Option, Some, None, refl, sym, subst, subst₂, ⊎_elim, arith}
use Rattle.std.specs.Prelude.{nat_lt}
use Rattle.std.proofs.lemmas.Bool.Decides.{nat_tests}
use Rattle.cp_lists.specs.Lists.{IsIn, here}
use Rattle.cp_lists.proofs.Members.{not_in_none}
use Rattle.cp_model.specs.Strand.{Protocol}
use Rattle.cp_model.specs.declared.node.Node.{Node}
use Rattle.cp_model.specs.Skeleton.{Skeleton}
use Rattle.cp_model.specs.Derivable.{IsUnrealised, DerivableAt}
use Rattle.cp_model.specs.Realisation.{AllDerivable}
use Rattle.cp_model.specs.Tree.{Label}
use Rattle.cp_model.specs.declared.tree.Mark.{Mark}
use Rattle.cp_model.specs.declared.tree.Mark.TheVariants.{Dead as dead_mark}
use Rattle.cp_model.specs.declared.tree.Limits.{Limits}
use Rattle.cp_derive.specs.Unrealised.{ListsUnrealised, IsUnrealisedAt}
use Rattle.cp_tree.specs.Made.{Made, LabelLink, MayPointTo}
use Rattle.cp_shapes.specs.Shapes.{FindsLeast}
use Rattle.cp_tree.specs.Rules.{rule_by}
use Rattle.cp_tree.specs.Resolves.{IsLeaf, IsOwn, IsGeneralisedLabel, ResolvesBy, Resolves}
use Rattle.cp_tree.specs.Searched.{leaf}
use Rattle.cp_tree.proofs.Cases.{Becomes, is_dead, is_seen, is_realised, is_generalised, above_bound, at_limit, is_tested}

unrealised_first : (k : Skeleton) (n : Node) (ns : List Node) → ListsUnrealised k (n ∷ ns) → IsUnrealised k
unrealised_first k n ns lists =
    let u : IsUnrealisedAt k n = (lists.each n).0 here in
    record { node = n; message = u.message; reception = u.reception; underivable = u.underivable }

none_unrealised : (k : Skeleton) → ListsUnrealised k [] → AllDerivable k
none_unrealised k lists n t at = ⊎_elim (λ (listed : IsIn n []). absurd (not_in_none listed)) (λ (d : DerivableAt k n t). d) (lists.others n t at)

module _ (protocol : Protocol) (limits : Limits) (links : List LabelLink) (marks : ℕ → Option Mark → Type 0) (i before : ℕ) (m : Made) (l : Label) (gives : List Made) (strands : ℕ) (count : strands ≡ length m.skeleton.strands) (within : before ≤ limits.steps) where
  abbrev Here : Label → List Made → Type 0
  Here = Becomes protocol limits links marks i before m

  as_leaf : (nodes : List Node) (mark : Option Mark) → IsLeaf m nodes mark l gives → Here (leaf m nodes mark) [] → Here l gives
  as_leaf nodes mark h b = subst₂ Here (sym h.0) (sym h.1) b

  as_realised : m.dead ≡ false → FindsLeast (MayPointTo links i) None → AllDerivable m.skeleton → IsOwn marks i m [] l gives ⊎ IsGeneralisedLabel i m l gives → Here l gives
  as_realised d n a (inl h) = as_leaf [] h.mark h.is_leaf (is_realised d n a h.most_general h.marked)
  as_realised d n a (inr h) = subst₂ Here (sym h.label) (sym h.made) (is_generalised {child = h.child} d n a h.generalises)

  by_cases : (dead : Bool) (copy : Option ℕ) (nodes : List Node) (above left : Bool) → dead ≡ m.dead → (m.dead ≡ true → nodes ≡ []) → (m.dead ≡ false → ListsUnrealised m.skeleton nodes) → (m.dead ≡ false → FindsLeast (MayPointTo links i) copy)
      → nat_lt limits.strands strands ≡ above → nat_lt before limits.steps ≡ left → ResolvesBy protocol marks i m nodes (rule_by dead copy nodes above left) l gives → Here l gives
  by_cases true copy nodes above left d none lists least a s h =
      as_leaf nodes (Some dead_mark) h (subst (λ (ns : List Node). Here (leaf m ns (Some dead_mark)) []) (sym (none (sym d))) (is_dead (sym d)))
  by_cases false (Some n) nodes above left d none lists least a s h = as_leaf nodes _ h (is_seen (sym d) (lists (sym d)) (least (sym d)))
  by_cases false None [] above left d none lists least a s h = as_realised (sym d) (least (sym d)) (none_unrealised m.skeleton (lists (sym d))) h
  by_cases false None (x ∷ xs) true left d none lists least a s h =
      let more : limits.strands < strands = grind (arith, nat_tests) in
      as_leaf (x ∷ xs) _ h (above_bound (sym d) (least (sym d)) (lists (sym d)) (unrealised_first m.skeleton x xs (lists (sym d))) (omega (arith, more, count)))
  by_cases false None (x ∷ xs) false true d none lists least a s h =
      let no_more : strands ≤ limits.strands = grind (arith, nat_tests) in
      let fewer : before < limits.steps = grind (arith, nat_tests) in
      subst₂ Here (sym h.label) (sym h.made) (is_tested (sym d) (least (sym d)) (lists (sym d)) (unrealised_first m.skeleton x xs (lists (sym d))) (omega (arith, no_more, count)) fewer h.is_expansion h.count)
  by_cases false None (x ∷ xs) false false d none lists least a s h =
      let no_more : strands ≤ limits.strands = grind (arith, nat_tests) in
      let all : limits.steps ≤ before = grind (arith, nat_tests) in
      as_leaf (x ∷ xs) _ h (at_limit (sym d) (least (sym d)) (lists (sym d)) (unrealised_first m.skeleton x xs (lists (sym d))) (omega (arith, no_more, count)) (omega (arith, all, within)))

-- What the rule says is one of the cases.
pub becomes : (protocol : Protocol) (limits : Limits) (links : List LabelLink) (marks : ℕ → Option Mark → Type 0) (i before : ℕ) (m : Made) (l : Label) (gives : List Made)
    → Resolves protocol limits links marks i before m l gives → Becomes protocol limits links marks i before m l gives
becomes protocol limits links marks i before m l gives r =
    let f = r.facts in
    let a = r.are_facts in
    by_cases protocol limits links marks i before m l gives f.strands a.strands r.within f.dead f.copy f.unrealised (nat_lt limits.strands f.strands) (nat_lt before limits.steps) a.dead a.dead_none a.listed a.copy refl refl r.by_rule

-- Two strands of one role with different variables have one collapse.
use Rattle.std.proofs.Common.{◌≡◌, ◌≢◌, ◌⊎◌, inl, inr, ℕ, zero, suc, ◌<◌, ◌≤◌, List, [], ◌∷◌, Some, refl, sym, ap₂, ◌∙◌, subst, arith, eq-or-lt_of_le}
use Rattle.cp_lists.specs.Lists.{item_at, IsIn, here, one_step, more_steps}
use Rattle.cp_lists.proofs.Members.{only_item, head_or_behind}
use Rattle.cp_model.specs.Term.{text_variable, Term, atom_term, Assignment, after, composed, variable_term, value_of, apply_to}
use Rattle.cp_model.specs.Bindings.{as_substitution}
use Rattle.cp_model.specs.declared.sort.Sort.TheVariants.{Text as text_sort}
use Rattle.cp_model.specs.declared.variable.Variable.{Variable}
use Rattle.cp_model.specs.Strand.{Role, variables_of_prefix}
use Rattle.cp_model.specs.declared.node.Node.{Node}
use Rattle.cp_model.specs.Skeleton.{SkeletonStrand, instance, listener, OrderStep, along_strand_of, along_pair, Before}
use Rattle.cp_model.specs.Homomorphism.{GoesToInstance}
use Rattle.cp_theory.specs.RepeatedText.{repeater}
use Rattle.cp_unify.specs.Bindings.{Binding, Meets}
use Rattle.cp_collapse.specs.Partitions.{AreOfOneRole, IsPartitionByRole, finest, HaveEqualValues, IdentifiesValues}
use Rattle.cp_collapse.specs.Collapses.{IsMostGeneralOn, onto_blocks, ArePairsIn, HasInstance, IsCollapsed, no_collapses, collapse_by, AreCollapses}
use Rattle.cp_collapse.specs.FirstPartitions.{IsPartitionOfFirst, IsExactFor}
use Rattle.cp_collapse.specs.CollapseExample.{other_texts, one_heard, two_repeaters, same_heard, one_repeater}
use Rattle.cp_collapse.proofs.Extended.{extended_is_partition}
use Rattle.cp_collapse.proofs.Exact.{exact_is_most_general}
use Rattle.cp_collapse.proofs.OneStrandMore.{equal_at_instances, identifies_alone, block_identifies, block_at_first, block_takes}

abbrev pub together : List ℕ
together = 0 ∷ 0 ∷ []

-- What a fact about role, height and terms says of a strand.
abbrev of_instance : (Role → ℕ → List Binding → Type 0) → SkeletonStrand → Type 0
of_instance P (instance role height terms) = P role height terms
of_instance P (listener t) = Unit {0}

instance_moves : (P : Role → ℕ → List Binding → Type 0) (s t : SkeletonStrand) → Some s ≡ Some t → of_instance P s → of_instance P t
instance_moves P s t e p = let same : s ≡ t = cc in subst (of_instance P) same p

each_instance : (P : ℕ → Role → ℕ → List Binding → Type 0) → P 0 repeater 1 [] → P 1 repeater 2 other_texts →
    (s : ℕ) (role : Role) (height : ℕ) (terms : List Binding) → item_at two_repeaters.strands s ≡ Some (instance role height terms) → P s role height terms
each_instance P p q zero role height terms e = instance_moves (P 0) (instance repeater 1 []) (instance role height terms) e p
each_instance P p q (suc zero) role height terms e = instance_moves (P 1) (instance repeater 2 other_texts) (instance role height terms) e q
each_instance P p q (suc (suc s)) role height terms e = absurd (cc)

no_listener : (s : ℕ) (t : Term) → item_at two_repeaters.strands s ≡ Some (listener t) → ⊥
no_listener zero t e = absurd (cc)
no_listener (suc zero) t e = absurd (cc)
no_listener (suc (suc s)) t e = absurd (cc)

-- ---- the partitions

no_strand : IsPartitionOfFirst two_repeaters 0 []
no_strand = record { each = refl; lowest = λ s l e. absurd (cc); alike = λ s l e ne. absurd (cc) }

first_alone : IsPartitionOfFirst two_repeaters 1 (0 ∷ [])
first_alone = extended_is_partition two_repeaters 0 [] no_strand 0 (inl refl)

of_one_role : AreOfOneRole two_repeaters.strands 1 0
of_one_role = record { role = repeater; height = 2; terms = other_texts; first = refl; height' = 1; terms' = []; second = refl }

both_together : IsPartitionOfFirst two_repeaters 2 together
both_together = extended_is_partition two_repeaters 1 (0 ∷ []) first_alone 0 (inr (omega arith, refl, of_one_role))

is_partition : IsPartitionByRole two_repeaters together
is_partition = record { each = both_together.each; lowest = both_together.lowest; alike = both_together.alike }

-- It is the only_item one but the finest.
second_entry : (p : List ℕ) → p ≢ finest two_repeaters → (a b : ℕ) → p ≡ a ∷ b ∷ [] → a ≤ 0 → (b ≡ 1) ⊎ (b < 1) → p ≡ together
second_entry p ne a b e l (inl f) = let g : a ≡ 0 = omega (arith, l) in absurd (ne (e ∙ ap₂ (λ (x y : ℕ). x ∷ y ∷ []) g f))
second_entry p ne a b e l (inr m) = let g : a ≡ 0 = omega (arith, l) in let f : b ≡ 0 = omega (arith, m) in e ∙ ap₂ (λ (x y : ℕ). x ∷ y ∷ []) g f

only_partition : (p : List ℕ) → IsPartitionByRole two_repeaters p → p ≢ finest two_repeaters → p ≡ together
only_partition [] part ne = absurd (let e = part.each in omega (arith, e))
only_partition (a ∷ []) part ne = absurd (let e = part.each in omega (arith, e))
only_partition (a ∷ b ∷ []) part ne = second_entry (a ∷ b ∷ []) ne a b refl (part.lowest 0 a refl).0 (eq-or-lt_of_le (part.lowest 1 b refl).0)
only_partition (a ∷ b ∷ c ∷ p) part ne = absurd (let e = part.each in omega (arith, e))

-- ---- the substitution

abbrev binding : Binding
binding = record { variable = record { sort = text_sort; number = 3 }; term = atom_term (text_variable 1) }

abbrev heard_text : Variable
heard_text = record { sort = text_sort; number = 1 }

equal_values : (g : Assignment) → Meets g (binding ∷ []) → HaveEqualValues repeater 1 [] 2 other_texts g
equal_values g m x i j = subst (λ (y : Variable). value_of (after g (as_substitution [])) (variable_term y) ≡ value_of (after g (as_substitution other_texts)) (variable_term y)) (sym (only_item i)) (sym m.0)

identified : (g : Assignment) → Meets g (binding ∷ []) → IdentifiesValues two_repeaters together g
identified g m =
    let none : IdentifiesValues two_repeaters [] g = λ s t role height terms height' terms' at au a. absurd (let e = a.1 in cc) in
    block_identifies two_repeaters 1 (0 ∷ []) first_alone 0 g
    (block_takes two_repeaters 1 (0 ∷ []) first_alone 0 g 0
    (block_at_first two_repeaters 1 (0 ∷ []) first_alone 0 g (identifies_alone two_repeaters 0 [] no_strand g none))
    (equal_at_instances two_repeaters 0 1 g repeater 1 [] 2 other_texts refl refl (equal_values g m)))

exact : IsExactFor (IdentifiesValues two_repeaters together) (binding ∷ [])
exact = record {
  met = λ g. (refl, tt);
  sound = identified;
  general = λ g f. (sym (f 0 1 repeater 1 [] 2 other_texts refl refl (0, refl, refl) heard_text here here), tt);
  later_to_earlier = (omega arith, tt);
}

most_general : IsMostGeneralOn two_repeaters together same_heard
most_general = exact_is_most_general two_repeaters together (binding ∷ []) exact

-- ---- the collapse

-- The second's terms agree with those of the collapse.
abbrev AgreesAt : Variable → Type 0
AgreesAt x = apply_to (composed (as_substitution other_texts) same_heard) (variable_term x) ≡ apply_to (as_substitution one_heard) (variable_term x)

second_agree : (x : Variable) → IsIn x (variables_of_prefix repeater 2) → AgreesAt x
second_agree x i = by (head_or_behind i)
  where
    by : (x ≡ heard_text) ⊎ IsIn x (record { sort = text_sort; number = 0 } ∷ []) → AgreesAt x
    by (inl e) = subst AgreesAt (sym e) refl
    by (inr j) = subst AgreesAt (sym (only_item j)) refl

goes : (s : ℕ) (role : Role) (height : ℕ) (terms : List Binding) → item_at two_repeaters.strands s ≡ Some (instance role height terms) → GoesToInstance one_repeater (onto_blocks together same_heard) s role height terms
goes = each_instance (λ s role height terms. GoesToInstance one_repeater (onto_blocks together same_heard) s role height terms)
    (record { to_height = 2; to_terms = one_heard; on_instance = refl; at_least = omega arith; equal_terms = λ x i. subst (λ (y : Variable). apply_to (composed (as_substitution []) same_heard) (variable_term y) ≡ apply_to (as_substitution one_heard) (variable_term y)) (sym (only_item i)) refl })
    (record { to_height = 2; to_terms = one_heard; on_instance = refl; at_least = omega arith; equal_terms = second_agree })

tallest : (place : ℕ) (role : Role) (height : ℕ) (terms : List Binding) → item_at one_repeater.strands place ≡ Some (instance role height terms) → HasInstance two_repeaters together place role height
tallest zero role height terms e =
    let a : repeater ≡ role = cc in
    let b : 2 ≡ height = cc in
    subst (λ x. HasInstance two_repeaters together 0 x height) a (subst (λ x. HasInstance two_repeaters together 0 repeater x) b (record { strand = 1; terms = other_texts; at_place = refl; on_instance = refl }))
tallest (suc place) role height terms e = absurd (cc)

no_pair : ArePairsIn together [] []
no_pair r = (λ i. elim i [ ], λ h. elim h.0.1 [ ])

collapsed : IsCollapsed two_repeaters together one_repeater
collapsed = record {
  unifier = same_heard;
  most_general = most_general;
  count = refl;
  instances = goes;
  tallest = tallest;
  listeners = λ s t e. absurd (no_listener s t e);
  pairs = no_pair;
  forward = λ q i. elim i [ ];
  assumptions = refl;
  from_problem = record { strands = refl; values = refl; assumptions = refl; pairs = no_pair };
}

step_rises : {x y : Node} → OrderStep one_repeater x y → x.index < y.index
step_rises (along_strand_of {s = s} {i = i} e) = omega arith
step_rises (along_pair i) = elim i [ ]

rises : {x y : Node} → Before one_repeater x y → x.index < y.index
rises (one_step s) = step_rises s
rises (more_steps s b) = let l = step_rises s in let m = rises b in omega (arith, l, m)

pub one_collapse : AreCollapses two_repeaters (one_repeater ∷ [])
one_collapse = record {
  partitions = together ∷ [];
  each = collapse_by (record { partition = is_partition; not_finest = λ e. absurd (cc); collapsed = collapsed; no_cycle = λ n b. let l = rises b in omega (arith, l) }) no_collapses;
  descending = (λ q i. elim i [ ], tt);
  all = λ p part ne. inl (subst (λ (q : List ℕ). IsIn q (together ∷ [])) (sym (only_partition p part ne)) here);
}

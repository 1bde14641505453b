-- What the rule says of a label, and what it keeps of it.
use Rattle.std.proofs.Common.{◌≡◌, ◌≢◌, inl, inr, ℕ, ◌+◌, ◌<◌, ◌≤◌, List, [], ◌∷◌, length, Bool, true, false, Option, Some, None, refl, sym, ap, ◌∙◌, arith}
use Rattle.std.specs.Prelude.{nat_lt}
use Rattle.std.proofs.lemmas.Bool.Decides.{nat_tests}
use Rattle.cp_model.specs.Strand.{Protocol}
use Rattle.cp_model.specs.declared.node.Node.{Node}
use Rattle.cp_model.specs.Tree.{Label, is_expanded}
use Rattle.cp_model.specs.declared.tree.Limits.{Limits}
use Rattle.cp_model.specs.declared.tree.Mark.{Mark}
use Rattle.cp_model.specs.declared.tree.Mark.TheVariants.{Dead as dead, Seen as seen, LimitSteps as limit_steps, LimitStrands as limit_strands}
use Rattle.cp_tree.specs.declared.rules.Rule.{Rule}
use Rattle.cp_tree.specs.declared.rules.Rule.TheVariants.{Leaf as leaf_with, Realised as realised, Tested as tested}
use Rattle.cp_tree.specs.Made.{Made, LabelLink, seen_in_of}
use Rattle.cp_tree.specs.Rules.{rule_by, rule_of}
use Rattle.cp_tree.specs.Resolves.{mark_by_children, ResolvesBy}
use Rattle.cp_search.specs.MadeLabels.{untabled}
use Rattle.cp_search.specs.declared.made.Made as program
use Rattle.cp_search.specs.ResolvedLabels.{facts_of, label_untabled, IsOpenMark}

-- ---- what it says

pub if_dead : (d : Bool) (copy : Option ℕ) (nodes : List Node) (above left : Bool) → d ≡ true → leaf_with dead ≡ rule_by d copy nodes above left
if_dead true copy nodes above left e = refl
if_dead false copy nodes above left e = absurd (cc)

pub if_seen : (d : Bool) (copy : Option ℕ) (nodes : List Node) (above left : Bool) (n : ℕ) → d ≡ false → copy ≡ Some n → leaf_with (seen n) ≡ rule_by d copy nodes above left
if_seen true copy nodes above left n e s = absurd (cc)
if_seen false None nodes above left n e s = absurd (cc)
if_seen false (Some k) nodes above left n e s = let same : n ≡ k = cc in ap (λ (j : ℕ). leaf_with (seen j)) same

pub if_realised : (d : Bool) (copy : Option ℕ) (nodes : List Node) (above left : Bool) → d ≡ false → copy ≡ None → nodes ≡ [] → realised ≡ rule_by d copy nodes above left
if_realised true copy nodes above left e s u = absurd (cc)
if_realised false (Some k) nodes above left e s u = absurd (cc)
if_realised false None (n ∷ ns) above left e s u = absurd (cc)
if_realised false None [] above left e s u = refl

-- What it says of an unrealised label that lives and is new.
abbrev by_limits : (above left : Bool) → Rule
by_limits true left = leaf_with limit_strands
by_limits false true = tested
by_limits false false = leaf_with limit_steps

if_unrealised : (d : Bool) (copy : Option ℕ) (nodes : List Node) (above left : Bool) → d ≡ false → copy ≡ None → nodes ≢ [] → by_limits above left ≡ rule_by d copy nodes above left
if_unrealised true copy nodes above left e s u = absurd (cc)
if_unrealised false (Some k) nodes above left e s u = absurd (cc)
if_unrealised false None [] above left e s u = absurd (u refl)
if_unrealised false None (n ∷ ns) true left e s u = refl
if_unrealised false None (n ∷ ns) false true e s u = refl
if_unrealised false None (n ∷ ns) false false e s u = refl

module _ (limits : Limits) (n : ℕ) (m : program.Made) (lives : m.dead ≡ false) (new : m.seen_in ≡ None) (some : m.unrealised ≢ []) (k : ℕ) (count : k ≡ length m.skeleton.strands) where
  said : (above left : Bool) → nat_lt limits.strands (length m.skeleton.strands) ≡ above → nat_lt n limits.steps ≡ left → by_limits above left ≡ rule_of limits n (facts_of m)
  said above left a l = ap (λ (b : Bool). by_limits b left) (sym a) ∙ (ap (by_limits (nat_lt limits.strands (length m.skeleton.strands))) (sym l) ∙ if_unrealised m.dead m.seen_in m.unrealised _ _ lives new some)

  pub if_over : limits.strands < k → leaf_with limit_strands ≡ rule_of limits n (facts_of m)
  if_over more = said true (nat_lt n limits.steps) (grind (arith, nat_tests)) refl

  pub if_out : k ≤ limits.strands → limits.steps ≤ n → leaf_with limit_steps ≡ rule_of limits n (facts_of m)
  if_out few all = said false false (grind (arith, nat_tests)) (grind (arith, nat_tests))

  pub if_tested : k ≤ limits.strands → n < limits.steps → tested ≡ rule_of limits n (facts_of m)
  if_tested few left = said false true (grind (arith, nat_tests)) (grind (arith, nat_tests))

-- ---- of what it says so

pub of_realised : (d : Bool) (copy : Option ℕ) (nodes : List Node) (above left : Bool) → realised ≡ rule_by d copy nodes above left → (d ≡ false) × (nodes ≡ [])
of_realised true copy nodes above left e = absurd (cc)
of_realised false (Some k) nodes above left e = absurd (cc)
of_realised false None [] above left e = (refl, refl)
of_realised false None (n ∷ ns) true left e = absurd (cc)
of_realised false None (n ∷ ns) false true e = absurd (cc)
of_realised false None (n ∷ ns) false false e = absurd (cc)

some_listed : (n : Node) (ns : List Node) → n ∷ ns ≢ []
some_listed n ns e = cc

pub of_tested : (d : Bool) (copy : Option ℕ) (nodes : List Node) (above left : Bool) → rule_by d copy nodes above left ≡ tested → (d ≡ false) × (copy ≡ None) × (nodes ≢ [])
of_tested true copy nodes above left e = absurd (cc)
of_tested false (Some k) nodes above left e = absurd (cc)
of_tested false None [] above left e = absurd (cc)
of_tested false None (n ∷ ns) true left e = absurd (cc)
of_tested false None (n ∷ ns) false true e = (refl, refl, some_listed n ns)
of_tested false None (n ∷ ns) false false e = absurd (cc)

-- ---- what it keeps

marked_unseen : (children : List ℕ) → seen_in_of (mark_by_children children) ≡ None
marked_unseen [] = refl
marked_unseen (n ∷ ns) = refl

module _ (protocol : Protocol) (i : ℕ) (m : Made) (nodes : List Node) (l : Label) (gives : List Made) where
  abbrev By : Bool → Option ℕ → List Node → Bool → Bool → Type 0
  By d copy unrealised above left = ResolvesBy protocol IsOpenMark i m nodes (rule_by d copy unrealised above left) l gives

  abbrev link : Option ℕ → LabelLink
  link copy = untabled (record { parent = m.parent; seen_in = copy; skeleton = m.skeleton })

  -- The label is seen where the one that was made so is.
  pub link_kept : (d : Bool) (copy : Option ℕ) (unrealised : List Node) (above left : Bool) → (d ≡ true → copy ≡ None) → By d copy unrealised above left → label_untabled l ≡ link copy
  link_kept true copy unrealised above left unseen h = ap label_untabled h.0 ∙ ap link (sym (unseen refl))
  link_kept false (Some n) unrealised above left unseen h = ap label_untabled h.0
  link_kept false None [] above left unseen (inl h) = ap label_untabled h.is_leaf.0 ∙ ap (λ (o : Option Mark). link (seen_in_of o)) h.marked
  link_kept false None [] above left unseen (inr h) = ap label_untabled h.label
  link_kept false None (n ∷ ns) true left unseen h = ap label_untabled h.0
  link_kept false None (n ∷ ns) false true unseen h = ap label_untabled h.label ∙ ap link (marked_unseen h.children)
  link_kept false None (n ∷ ns) false false unseen h = ap label_untabled h.0

  unexpanded : (n steps : ℕ) → n ≤ steps → is_expanded l.test ≡ 0 → n + is_expanded l.test ≤ steps
  unexpanded n steps w e = omega (arith, w, e)

  -- No more labels are expanded than the step limit says.
  pub steps_kept : (n steps : ℕ) → n ≤ steps → (d : Bool) (copy : Option ℕ) (unrealised : List Node) (above left : Bool) → nat_lt n steps ≡ left → By d copy unrealised above left → n + is_expanded l.test ≤ steps
  steps_kept n steps w true copy unrealised above left e h = unexpanded n steps w (ap (λ (x : Label). is_expanded x.test) h.0)
  steps_kept n steps w false (Some k) unrealised above left e h = unexpanded n steps w (ap (λ (x : Label). is_expanded x.test) h.0)
  steps_kept n steps w false None [] above left e (inl h) = unexpanded n steps w (ap (λ (x : Label). is_expanded x.test) h.is_leaf.0)
  steps_kept n steps w false None [] above left e (inr h) = unexpanded n steps w (ap (λ (x : Label). is_expanded x.test) h.label)
  steps_kept n steps w false None (x ∷ xs) true left e h = unexpanded n steps w (ap (λ (y : Label). is_expanded y.test) h.0)
  steps_kept n steps w false None (x ∷ xs) false false e h = unexpanded n steps w (ap (λ (y : Label). is_expanded y.test) h.0)
  steps_kept n steps w false None (x ∷ xs) false true e h =
      let fewer : n < steps = grind (arith, nat_tests) in
      let one : is_expanded l.test ≡ 1 = ap (λ (y : Label). is_expanded y.test) h.label in
      omega (arith, fewer, one)

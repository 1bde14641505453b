-- The next label is resolved where it is not expanded: as a leaf, or by what it generalises to.
use Rattle.std.proofs.Common.{◌≡◌, ◌⊎◌, inl, inr, ℕ, ◌+◌, List, [], ◌∷◌, ◌++◌, length, map, false, Option, Some, None, sym, ap, subst, ◌∙◌, refl, arith}
use Rattle.std.specs.Prelude.{nat_lt}
use Rattle.std.proofs.lemmas.List.{append-nil}
use Rattle.cp_lists.specs.Lists.{item_at}
use Rattle.cp_model.specs.Strand.{Protocol}
use Rattle.cp_model.specs.declared.node.Node.{Node}
use Rattle.cp_model.specs.declared.tree.Limits.{Limits}
use Rattle.cp_model.specs.declared.tree.Mark.{Mark}
use Rattle.cp_general.specs.Generalisation.{IsMaximallyGeneral, GeneralisesTo}
use Rattle.cp_tree.specs.Made as plain
use Rattle.cp_tree.specs.declared.rules.Rule.{Rule}
use Rattle.cp_tree.specs.declared.rules.Rule.TheVariants.{Leaf as leaf_with, Realised as realised, Tested as tested}
use Rattle.cp_tree.specs.Rules.{rule_of}
use Rattle.cp_tree.specs.Resolves.{leaf, IsGeneralisedLabel, ResolvesBy}
use Rattle.cp_search.specs.declared.made.Made.{Made}
use Rattle.cp_search.specs.declared.resolved.Resolved.{Resolved}
use Rattle.cp_search.specs.declared.resolved.Resolved.TheVariants as settled
use Rattle.cp_search.specs.MadeLabels.{made_view, AreFound}
use Rattle.cp_search.specs.ResolvedLabels.{facts_of, leaf_label, generalised_label, IsOpenMark, AreSoundMade, IsSearched}
use Rattle.cp_search.specs.GeneralLabels.{IsOwnGeneralisation, Generalises, ResolvesRealised}
use Rattle.cp_search.proofs.ResolvedNext.{resolved_next}
use Rattle.cp_search.proofs.RuleKept.{of_realised}

pub none_found : (o : Option ℕ) → ((n : ℕ) → o ≡ Some n → ⊥) → o ≡ None
none_found None none = refl
none_found (Some n) none = absurd (none n refl)

pub same_label : (ms : List Made) (i : ℕ) (m x : Made) → item_at ms i ≡ Some m → item_at ms i ≡ Some x → m ≡ x
same_label ms i m x at there = let one : Some m ≡ Some x = sym at ∙ there in let same : m ≡ x = cc in same

-- The next label of which something has to become.
pub next_label : (ms : List Made) (ss : List Resolved) (i : ℕ) (m : Made) → item_at ms i ≡ Some m → i ≡ length ss → item_at ms (length ss) ≡ Some m
next_label ms ss i m at e = ap (item_at ms) (sym e) ∙ at

-- What becomes of label i where the rule says this and it is not expanded.
abbrev pub ResolvesLeaf : ℕ → List Made → List Made → Rule → Resolved → Type 0
ResolvesLeaf i old new (leaf_with mark) s = (s ≡ settled.Leaf (Some mark)) × (new ≡ old)
ResolvesLeaf i old new realised s = ResolvesRealised i old new s
ResolvesLeaf i old new tested s = ⊥

pub by_mark : (i : ℕ) (old new : List Made) (rule : Rule) (mark : Mark) (s : Resolved) → rule ≡ leaf_with mark → s ≡ settled.Leaf (Some mark) → new ≡ old → ResolvesLeaf i old new rule s
by_mark i old new rule mark s is e same = subst (λ (r : Rule). ResolvesLeaf i old new r s) (sym is) (e, same)

pub by_generalising : (i : ℕ) (old mid new : List Made) (rule : Rule) (s t : Resolved) → rule ≡ realised → ResolvesRealised i old mid s → new ≡ mid → t ≡ s → ResolvesLeaf i old new rule t
by_generalising i old mid new rule s t is h same_made same =
    subst (λ (r : Rule). ResolvesLeaf i old new r t) (sym is) (subst (λ (ms : List Made). ResolvesRealised i old ms t) (sym same_made) (subst (ResolvesRealised i old mid) (sym same) h))

-- Nothing is made, or what the label generalises to.
pub made_of_leaf : (i : ℕ) (old new : List Made) (rule : Rule) (s : Resolved) → ResolvesLeaf i old new rule s → (new ≡ old) ⊎ Generalises i old new
made_of_leaf i old new (leaf_with mark) s h = inl h.1
made_of_leaf i old new realised (settled.Leaf None) h = inl h.1
made_of_leaf i old new realised (settled.Leaf (Some mark)) h = absurd h
made_of_leaf i old new realised (settled.Generalised child) h = inr h.0
made_of_leaf i old new realised (settled.Expanded e) h = absurd h
made_of_leaf i old new tested s h = absurd h

module _ (protocol : Protocol) (limits : Limits) (roots : List plain.Made) (old : List Made) (ss : List Resolved) (n : ℕ) (r : IsSearched protocol limits roots old ss n) (m : Made) (at : item_at old (length ss) ≡ Some m) where
  abbrev After : List Made → Resolved → Type 0
  After new s = IsSearched protocol limits roots new (ss ++ s ∷ []) n

  -- A leaf.
  leaf_next : (mark : Option Mark) → ResolvesBy protocol IsOpenMark (length ss) (made_view m) m.unrealised (rule_of limits n (facts_of m)) (leaf_label m mark) [] → After old (settled.Leaf mark)
  leaf_next mark b =
      let none : old ++ [] ≡ old = append-nil old in
      let same : n + 0 ≡ n = omega arith in
      let next = resolved_next protocol limits roots old ss n r m at [] (settled.Leaf mark) (subst AreFound (sym none) r.found) (subst (AreSoundMade protocol) (sym none) r.sound) (λ e q. absurd (cc)) b refl in
      subst (λ (k : ℕ). IsSearched protocol limits roots old (ss ++ settled.Leaf mark ∷ []) k) same (subst (λ (xs : List Made). IsSearched protocol limits roots xs (ss ++ settled.Leaf mark ∷ []) (n + 0)) none next)

  most_general : IsOwnGeneralisation (length ss) old → IsMaximallyGeneral m.skeleton
  most_general own = subst (λ (x : Made). IsMaximallyGeneral x.skeleton) (same_label old (length ss) own.label m own.at at) own.most_general

  abbrev Realised : Type 0
  Realised = realised ≡ rule_of limits n (facts_of m)

  own_next : Realised → IsOwnGeneralisation (length ss) old → After old (settled.Leaf None)
  own_next is own =
      leaf_next None
      (subst (λ (x : Rule). ResolvesBy protocol IsOpenMark (length ss) (made_view m) m.unrealised x (leaf_label m None) []) is
      (inl (record { most_general = most_general own; mark = None; marked = refl; is_leaf = (refl, refl) })))

  module _ (new : List Made) (child : ℕ) (g : Generalises (length ss) old new) (last : child ≡ length old) (is : Realised) where
    same : g.label ≡ m
    same = same_label old (length ss) g.label m g.at at

    facts : (m.dead ≡ false) × (m.unrealised ≡ [])
    facts = of_realised m.dead m.seen_in m.unrealised (nat_lt limits.strands (length m.skeleton.strands)) (nat_lt n limits.steps) is

    goes_on : IsGeneralisedLabel (length ss) (made_view m) (generalised_label m child) (map made_view (g.made.added ∷ []))
    goes_on = record {
      skeleton = g.skeleton;
      generalises = subst (λ (x : Made). GeneralisesTo x.skeleton g.skeleton) same g.generalises;
      child = child;
      label = ap (λ (ns : List Node). record (leaf (made_view m) ns None) { children = child ∷ [] }) facts.1;
      made = ap (λ (x : plain.Made). x ∷ []) g.made.same;
    }

    sound_next : AreSoundMade protocol new
    sound_next = g.sound protocol (subst (λ (x : Made). x.dead ≡ false) (sym same) facts.0) r.sound

    generalised_next : After new (settled.Generalised child)
    generalised_next =
        let behind = g.made.behind in
        let count : n + 0 ≡ n = omega arith in
        let next = resolved_next protocol limits roots old ss n r m at (g.made.added ∷ []) (settled.Generalised child) (subst AreFound behind g.made.found) (subst (AreSoundMade protocol) behind sound_next) (λ e q. absurd (cc))
        (subst (λ (x : Rule). ResolvesBy protocol IsOpenMark (length ss) (made_view m) m.unrealised x (generalised_label m child) (map made_view (g.made.added ∷ []))) is (inr goes_on)) (ap (λ (k : ℕ). k ∷ []) last) in
        subst (λ (ms : List Made). After ms (settled.Generalised child)) (sym behind) (subst (λ (k : ℕ). IsSearched protocol limits roots (old ++ g.made.added ∷ []) (ss ++ settled.Generalised child ∷ []) k) count next)

  leaf_resolved : (new : List Made) (rule : Rule) → rule ≡ rule_of limits n (facts_of m) → (s : Resolved) → ResolvesLeaf (length ss) old new rule s → After new s
  leaf_resolved new (leaf_with mark) is s h =
      let here = leaf_next (Some mark) (subst (λ (x : Rule). ResolvesBy protocol IsOpenMark (length ss) (made_view m) m.unrealised x (leaf_label m (Some mark)) []) is (refl, refl)) in
      subst (λ (ms : List Made). After ms s) (sym h.1) (subst (After old) (sym h.0) here)
  leaf_resolved new realised is (settled.Leaf None) h = subst (λ (ms : List Made). After ms (settled.Leaf None)) (sym h.1) (own_next is h.0)
  leaf_resolved new realised is (settled.Leaf (Some mark)) h = absurd h
  leaf_resolved new realised is (settled.Generalised child) h = generalised_next new child h.0 h.1 is
  leaf_resolved new realised is (settled.Expanded e) h = absurd h
  leaf_resolved new tested is s h = absurd h

-- A search in which one label more is resolved that is not expanded.
pub leaf_pushed : (protocol : Protocol) (limits : Limits) (roots : List plain.Made) (old new : List Made) (ss then : List Resolved) (n : ℕ) (m : Made) (rule : Rule) (s : Resolved) (i : ℕ) → IsSearched protocol limits roots old ss n
    → item_at old i ≡ Some m → rule ≡ rule_of limits n (facts_of m) → ResolvesLeaf i old new rule s → i ≡ length ss → then ≡ ss ++ s ∷ [] → IsSearched protocol limits roots new then n
leaf_pushed protocol limits roots old new ss then n m rule s i r at is h place pushed =
    subst (λ (xs : List Resolved). IsSearched protocol limits roots new xs n) (sym pushed)
    (leaf_resolved protocol limits roots old ss n r m (next_label old ss i m at place) new rule is s (subst (λ (k : ℕ). ResolvesLeaf k old new rule s) place h))

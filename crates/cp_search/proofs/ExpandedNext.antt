-- The next label is resolved by its expansion.
use Rattle.std.proofs.Common.{◌≡◌, ℕ, ◌+◌, List, [], ◌∷◌, ◌++◌, length, map, false, Option, Some, sym, ap, subst, ◌∙◌, refl}
use Rattle.std.specs.Prelude.{nat_lt}
use Rattle.cp_lists.specs.Lists.{item_at, IsIn}
use Rattle.cp_lists.proofs.Members.{into_map, from_map}
use Rattle.cp_model.specs.Strand.{Protocol}
use Rattle.cp_model.specs.declared.variable.Declaration.{Declaration}
use Rattle.cp_model.specs.Skeleton.{Skeleton}
use Rattle.cp_model.specs.Derivable.{IsUnrealised}
use Rattle.cp_model.specs.Problem.{numbers_from}
use Rattle.cp_model.specs.PointOfView.{IsPointOfView}
use Rattle.cp_model.specs.declared.tree.Limits.{Limits}
use Rattle.cp_model.proofs.NumbersFrom.{numbers_length}
use Rattle.cp_skel.specs.Tables.{DiffersInTable}
use Rattle.cp_cohort.specs.declared.child.Child.{Child}
use Rattle.cp_expansion.specs.Expansion.{Expansion, IsExpansionOf}
use Rattle.cp_tree.specs.Made as plain
use Rattle.cp_tree.specs.Sound.{IsSoundMade, ExpandsSoundly}
use Rattle.cp_tree.specs.declared.rules.Rule.{Rule}
use Rattle.cp_tree.specs.declared.rules.Rule.TheVariants.{Realised as realised, Tested as tested}
use Rattle.cp_tree.specs.Rules.{rule_of}
use Rattle.cp_tree.specs.Resolves.{IsTested, ResolvesBy}
use Rattle.cp_search.specs.declared.label_search.Search.{Search}
use Rattle.cp_search.specs.declared.made.Made.{Made}
use Rattle.cp_search.specs.declared.waiting.Queue.{Queue}
use Rattle.cp_search.specs.declared.waiting.Waiting.{Waiting}
use Rattle.cp_search.specs.declared.resolved.Resolved.{Resolved}
use Rattle.cp_search.specs.declared.resolved.Resolved.TheVariants as settled
use Rattle.cp_search.specs.declared.expanded.Expanded.{Expanded}
use Rattle.cp_search.specs.MadeLabels.{made_view, AreFound, AddMade}
use Rattle.cp_search.specs.ResolvedLabels.{facts_of, expanded_label, IsOpenMark, AreSoundMade, ExpandsLabel, IsNextToExpand, IsSearched}
use Rattle.cp_search.specs.WaitingRecords.{Waits, AreKept, TakesRecord}
use Rattle.cp_search.proofs.OneMoreResolved.{numbers_of_map}
use Rattle.cp_search.proofs.ResolvedLeaves.{same_label}
use Rattle.cp_search.proofs.ResolvedNext.{resolved_next}
use Rattle.cp_search.proofs.RuleKept.{of_realised, of_tested}
use Rattle.cp_search.proofs.SoundBehind.{sound_behind}

same_expanded : (e f : Expanded) → settled.Expanded e ≡ settled.Expanded f → e ≡ f
same_expanded e f q = cc

module _ (protocol : Protocol) (i : ℕ) (old new : List Made) (e : Expanded) (x : ExpandsLabel protocol i old new e) where
  is_tested : IsTested protocol i (made_view x.label) x.label.unrealised (expanded_label x.label e) (map made_view x.made.added)
  is_tested = record {
    expansion = record { test = e.test; skeleton = e.skeleton; patterns = e.patterns; children = x.children };
    is_expansion = x.expansion;
    children = e.children;
    count = ap length x.numbers ∙ numbers_length (length old) x.children;
    label = refl;
    made = x.made.same;
  }

  own_numbers : e.children ≡ numbers_from (length old) x.made.added
  own_numbers =
      let f : Child → plain.Made = plain.made_of_child i in
      x.numbers ∙ (sym (numbers_of_map f (length old) x.children) ∙ (ap (numbers_from (length old)) (sym x.made.same) ∙ numbers_of_map made_view (length old) x.made.added))

-- A search in which one label more is expanded.
pub expanded_next : (protocol : Protocol) (limits : Limits) (roots : List plain.Made) (old new : List Made) (ss : List Resolved) (n : ℕ) (e : Expanded) (label : Made) → IsSearched protocol limits roots old ss n → item_at old (length ss) ≡ Some label
    → rule_of limits n (facts_of label) ≡ tested → (x : ExpandsLabel protocol (length ss) old new e) → IsSearched protocol limits roots new (ss ++ settled.Expanded e ∷ []) (n + 1)
expanded_next protocol limits roots old new ss n e label r at is x =
    let one : Some label ≡ Some x.label = sym at ∙ x.at in
    let same : label ≡ x.label = cc in
    let here : rule_of limits n (facts_of x.label) ≡ tested = subst (λ (m : Made). rule_of limits n (facts_of m) ≡ tested) same is in
    let behind = x.made.behind in
    let next = resolved_next protocol limits roots old ss n r x.label x.at x.made.added (settled.Expanded e) (subst AreFound behind x.made.found) (subst (AreSoundMade protocol) behind x.sound)
    (λ f q. let is : e ≡ f = same_expanded e f q in subst (λ (y : Expanded). DiffersInTable x.label.skeleton y.skeleton) is x.table)
    (subst (λ (rule : Rule). ResolvesBy protocol IsOpenMark (length ss) (made_view x.label) x.label.unrealised rule (expanded_label x.label e) (map made_view x.made.added)) (sym here) (is_tested protocol (length ss) old new e x))
    (own_numbers protocol (length ss) old new e x) in
    subst (λ (ms : List Made). IsSearched protocol limits roots ms (ss ++ settled.Expanded e ∷ []) (n + 1)) (sym behind) next

pub expanded_pushed : (protocol : Protocol) (limits : Limits) (roots : List plain.Made) (old new : List Made) (ss : List Resolved) (i n : ℕ) (e : Expanded) (label : Made) → IsSearched protocol limits roots old ss n → item_at old (length ss) ≡ Some label
    → rule_of limits n (facts_of label) ≡ tested → i ≡ length ss → ExpandsLabel protocol i old new e → (then : List Resolved) → then ≡ ss ++ settled.Expanded e ∷ [] → (count : ℕ) → count ≡ n + 1 → IsSearched protocol limits roots new then count
expanded_pushed protocol limits roots old new ss i n e label r at is same x then pushed count counted =
    let next = expanded_next protocol limits roots old new ss n e label r at is (subst (λ (k : ℕ). ExpandsLabel protocol k old new e) same x) in
    subst (λ (k : ℕ). IsSearched protocol limits roots new then k) (sym counted) (subst (λ (xs : List Resolved). IsSearched protocol limits roots new xs (n + 1)) (sym pushed) next)

-- A label that is to be expanded waits.
pub tested_waits : (limits : Limits) (n : ℕ) (m : Made) → rule_of limits n (facts_of m) ≡ tested → Waits m
tested_waits limits n m is =
    let facts = of_tested m.dead m.seen_in m.unrealised (nat_lt limits.strands (length m.skeleton.strands)) (nat_lt n limits.steps) is in
    record { lives = facts.0; new = facts.1; unrealised = facts.2 }

-- A realised label does not.
pub realised_rests : (limits : Limits) (n : ℕ) (m : Made) → realised ≡ rule_of limits n (facts_of m) → Waits m → ⊥
realised_rests limits n m is waits = waits.unrealised (of_realised m.dead m.seen_in m.unrealised (nat_lt limits.strands (length m.skeleton.strands)) (nat_lt n limits.steps) is).1

-- The next label is to be expanded, and its record was taken out.
pub next_to_expand : (limits : Limits) (s : Search) (after : Queue) (i : ℕ) (m : Made) (found : Option Waiting) → i ≡ length s.settled.items → item_at s.queue.made i ≡ Some m → rule_of limits s.expanded (facts_of m) ≡ tested
    → AreKept (length s.settled.items) s.queue → after.made ≡ s.queue.made → (AreKept i s.queue → TakesRecord i s.queue after found) → (w : Waiting) × (found ≡ Some w) × IsNextToExpand limits (record s { queue = after }) w
next_to_expand limits s after i m found place at is kept made take =
    let n = length s.settled.items in
    let taken : TakesRecord n s.queue after found = subst (λ (k : ℕ). TakesRecord k s.queue after found) place (take (subst (λ (k : ℕ). AreKept k s.queue) (sym place) kept)) in
    let first : item_at s.queue.made n ≡ Some m = ap (item_at s.queue.made) (sym place) ∙ at in
    let own = taken.own m first (tested_waits limits s.expanded m is) in (
      own.0,
      own.1,
      record {
        label = m;
        at = ap (λ (ms : List Made). item_at ms n) made ∙ first;
        expands = is;
        own = own.2;
        others = taken.others;
      },
    )

-- The label of this number is the one that is to be expanded.
pub found_to_expand : (i j : ℕ) (ms : List Made) (label m : Made) → item_at ms j ≡ Some label → i ≡ j → item_at ms i ≡ Some m → label ≡ m
found_to_expand i j ms label m at same au = same_label ms i label m (ap (item_at ms) same ∙ at) au

-- What is made of the children of an expansion is sound where all labels before are.
pub children_sound : (protocol : Protocol) (i : ℕ) (old new : List Made) (label : Made) (e : Expansion) → AddMade (map (plain.made_of_child i) e.children) old new → AreSoundMade protocol old → item_at old i ≡ Some label → label.dead ≡ false → IsUnrealised label.skeleton
    → IsExpansionOf protocol label.skeleton e → ((variables : List Declaration) (k : Skeleton) → IsPointOfView variables k → ExpandsSoundly protocol k) → AreSoundMade protocol new
children_sound protocol i old new label e a s at lives unrealised is law =
    sound_behind old a.added new a.behind s
    (λ m listed.
    let c = from_map (plain.made_of_child i) e.children (subst (IsIn (made_view m)) a.same (into_map made_view listed)) in
    let same : plain.made_of_child i c.0 ≡ made_view m = c.2 in
    subst (IsSoundMade protocol s.problem) same ((law s.variables s.problem s.own (made_view label) e (s.each i label at) lives unrealised is).children i c.0 c.1))

-- The labels that wait to be resolved: there are fewer steps left after each.
use Rattle.std.proofs.Common.{◌≡◌, ◌⊎◌, inl, inr, ℕ, suc, ◌+◌, ◌<◌, ◌≤◌, List, [], ◌∷◌, ◌++◌, length, drop, Bool, true, false, Some, ap, subst, ◌∙◌, arith}
use Rattle.std.proofs.lemmas.List.{length-append, drop-append-le}
use Rattle.cp_lists.specs.Lists.{item_at}
use Rattle.cp_lists.proofs.Items.{item_below, drop_of_item}
use Rattle.cp_tree.specs.declared.rules.Rule.{Rule}
use Rattle.cp_search.specs.declared.made.Made.{Made}
use Rattle.cp_search.specs.declared.resolved.Resolved.{Resolved}
use Rattle.cp_search.specs.GeneralLabels.{Generalises}
use Rattle.cp_search.proofs.ResolvedLeaves.{ResolvesLeaf, same_label, next_label, made_of_leaf}

-- One that generalises to another makes that wait; one that was made so makes none.
abbrev pub steps_of : Bool → ℕ
steps_of true = 1
steps_of false = 2

abbrev pub steps_waiting : List Made → ℕ
steps_waiting [] = 0
steps_waiting (m ∷ ms) = steps_of m.general + steps_waiting ms

some_step : (b : Bool) → 0 < steps_of b
some_step true = omega arith
some_step false = omega arith

one_behind : (ms : List Made) (x : Made) → steps_waiting (ms ++ x ∷ []) ≡ steps_waiting ms + steps_of x.general
one_behind [] x = let n = steps_of x.general in omega arith
one_behind (m ∷ ms) x = let e = one_behind ms x in omega (arith, e)

one_longer : (ss then : List Resolved) (s : Resolved) → then ≡ ss ++ s ∷ [] → length then ≡ suc (length ss)
one_longer ss then s e = let l : length then ≡ length (ss ++ s ∷ []) = ap length e in let a = length-append ss (s ∷ []) in omega (arith, l, a)

-- What is left of the labels when so many are resolved.
abbrev pub left : List Made → List Resolved → List Made
left ms ss = drop (length ss) ms

module _ (old new : List Made) (ss then : List Resolved) (m : Made) (at : item_at old (length ss) ≡ Some m) (s : Resolved) (pushed : then ≡ ss ++ s ∷ []) where
  first_left : steps_waiting (left old ss) ≡ steps_of m.general + steps_waiting (drop (suc (length ss)) old)
  first_left = ap steps_waiting (drop_of_item old (length ss) m at)

  others_left : steps_waiting (left new then) ≡ steps_waiting (drop (suc (length ss)) new)
  others_left = ap (λ (k : ℕ). steps_waiting (drop k new)) (one_longer ss then s pushed)

  grown_left : (x : Made) → new ≡ old ++ x ∷ [] → steps_waiting (drop (suc (length ss)) new) ≡ steps_waiting (drop (suc (length ss)) old) + steps_of x.general
  grown_left x behind =
      let l : length ss < length old = item_below old (length ss) m at in
      ap (λ (ms : List Made). steps_waiting (drop (suc (length ss)) ms)) behind
      ∙ (ap steps_waiting (drop-append-le (suc (length ss)) old (x ∷ []) (omega (arith, l))) ∙ one_behind (drop (suc (length ss)) old) x)

  fewer : (new ≡ old) ⊎ Generalises (length ss) old new → steps_waiting (left new then) < steps_waiting (left old ss)
  fewer (inl none) =
      let a = first_left in
      let b = others_left in
      let c : steps_waiting (drop (suc (length ss)) new) ≡ steps_waiting (drop (suc (length ss)) old) = ap (λ (ms : List Made). steps_waiting (drop (suc (length ss)) ms)) none in
      let d = some_step m.general in
      omega (arith, a, b, c, d)
  fewer (inr g) =
      let a = first_left in
      let b = others_left in
      let c = grown_left g.general.added g.general.behind in
      let d : steps_of g.general.added.general ≡ 1 = ap steps_of g.general.same in
      let e : steps_of m.general ≡ 2 = ap (λ (x : Made). steps_of x.general) (same_label old (length ss) m g.label at g.at) ∙ ap steps_of g.unknown in
      omega (arith, a, b, c, d, e)

  no_shorter : (new ≡ old) ⊎ Generalises (length ss) old new → length old ≤ length new
  no_shorter (inl none) = let e : length new ≡ length old = ap length none in omega (arith, e)
  no_shorter (inr g) =
      let e : length new ≡ length (old ++ g.made.added ∷ []) = ap length g.made.behind in
      let f = length-append old (g.made.added ∷ []) in
      omega (arith, e, f)

  one_within : (new ≡ old) ⊎ Generalises (length ss) old new → length then ≤ length new
  one_within h =
      let l : length ss < length old = item_below old (length ss) m at in
      let a = one_longer ss then s pushed in
      let b = no_shorter h in
      omega (arith, l, a, b)

-- What comes of one more resolved label: no more are resolved than were made, and fewer steps are left.
pub record OneResolved (old new : List Made) (ss then : List Resolved) : Type 0 where
  pub within : length then ≤ length new
  pub fewer_left : steps_waiting (left new then) < steps_waiting (left old ss)

pub one_resolved : (old new : List Made) (ss then : List Resolved) (i : ℕ) (m : Made) (rule : Rule) (s : Resolved) → i ≡ length ss → item_at old i ≡ Some m → ResolvesLeaf i old new rule s → then ≡ ss ++ s ∷ [] → OneResolved old new ss then
one_resolved old new ss then i m rule s place at h pushed =
    let there = next_label old ss i m at place in
    let made = made_of_leaf (length ss) old new rule s (subst (λ (k : ℕ). ResolvesLeaf k old new rule s) place h) in
    record { within = one_within old new ss then m there s pushed made; fewer_left = fewer old new ss then m there s pushed made }

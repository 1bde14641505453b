-- The records of labels that wait are kept, and taken out one by one.
use Rattle.std.proofs.Common.{◌≡◌, ◌≢◌, ◌⊎◌, inl, inr, ◌∙◌, ℕ, ◌+◌, ◌≤◌, List, [], ◌∷◌, ◌++◌, length, Option, Some, None, IfNone, slice_index_or, sym, ap, subst, arith}
use Rattle.std.proofs.lemmas.Bool.{cases_order}
use Rattle.slab.specs.Slab.{Slab, get, Updates}
use Rattle.cp_lists.specs.Lists.{item_at}
use Rattle.cp_lists.proofs.Appended.{length_pushed}
use Rattle.cp_lists.proofs.Items.{there_or_none, item_below, item_of_push, item_last, item_still}
use Rattle.cp_theory.proofs.SameNodes.{same_number_or_not}
use Rattle.cp_search.specs.declared.made.Made.{Made}
use Rattle.cp_search.specs.declared.waiting.Waiting.{Waiting}
use Rattle.cp_search.specs.declared.waiting.Queue.{Queue}
use Rattle.cp_search.specs.WaitingRecords.{Waits, IsRecordOf, HasRecord, IsKeptAt, KeepsLabel, IsOfWaiting, AreKept, NoneWaits, KeepsRecords, TakesRecord}
use Rattle.cp_search.proofs.ResolvedLeaves.{same_label}

-- ---- one is put in

module _ (old new : Slab Waiting) (i : ℕ) (m : Made) where
  -- Whatever key the label itself has.
  pub kept_with : (own o : Option ℕ) → KeepsLabel old new i m o → KeepsLabel old new i (record m { waiting = own }) o
  kept_with own None (never, same) = (λ waits. never (record { lives = waits.lives; new = waits.new; unrealised = waits.unrealised }), same)
  kept_with own (Some key) puts = record {
    waits = record { lives = puts.waits.lives; new = puts.waits.new; unrealised = puts.waits.unrealised };
    waiting = puts.waiting;
    own = record { number = puts.own.number; events = puts.own.events };
    vacant = puts.vacant;
    updates = puts.updates;
  }

  own_put : (o : Option ℕ) → KeepsLabel old new i m o → IsKeptAt new i m o
  own_put None keeps = keeps.0
  own_put (Some key) puts = record { waiting = puts.waiting; stands = puts.updates.changed; own = puts.own }

  -- What stood in the slab stays there.
  others_kept : (o : Option ℕ) → KeepsLabel old new i m o → (k : ℕ) (w : Waiting) → get old k ≡ Some w → get new k ≡ Some w
  others_kept None keeps k w at = ap (λ (s : Slab Waiting). get s k) keeps.1 ∙ at
  others_kept (Some key) puts k w at = puts.updates.others k (λ same. let is : Some w ≡ None = sym at ∙ (ap (get old) same ∙ puts.vacant) in absurd (cc)) ∙ at

  still_kept : (o : Option ℕ) → KeepsLabel old new i m o → (j : ℕ) (x : Made) (p : Option ℕ) → IsKeptAt old j x p → IsKeptAt new j x p
  still_kept o keeps j x None never = never
  still_kept o keeps j x (Some key) h = record { waiting = h.waiting; stands = others_kept o keeps key h.waiting h.stands; own = h.own }

  -- What stands in it now did so before, or is the label's own record.
  before_or_put : (o : Option ℕ) → KeepsLabel old new i m o → (k : ℕ) (w : Waiting) → get new k ≡ Some w → (get old k ≡ Some w) ⊎ ((o ≡ Some k) × Waits m × (w.label ≡ i))
  before_or_put None keeps k w at = inl (ap (λ (s : Slab Waiting). get s k) (sym keeps.1) ∙ at)
  before_or_put (Some key) puts k w at =
      elim (same_number_or_not k key) [
        | inl same ↦
            let one : Some puts.waiting ≡ Some w = sym puts.updates.changed ∙ (ap (get new) (sym same) ∙ at) in
            let is : puts.waiting ≡ w = cc in
            inr (ap Some (sym same), puts.waits, ap (λ (x : Waiting). x.label) (sym is) ∙ puts.own.number)
        | inr other ↦ inl (sym (puts.updates.others k other) ∙ at)
      ]

-- With one label more, what is kept is kept of it too.
module _ (old new : Queue) (x : Made) (behind : new.made ≡ old.made ++ x ∷ []) (keeps : KeepsLabel old.waiting new.waiting (length old.made) x x.waiting) where
  there_still : (i : ℕ) (m : Made) → item_at old.made i ≡ Some m → item_at new.made i ≡ Some m
  there_still i m at = ap (λ (ms : List Made). item_at ms i) behind ∙ item_still old.made (x ∷ []) i m at

  there_last : (i : ℕ) → i ≡ length old.made → item_at new.made i ≡ Some x
  there_last i same = ap (item_at new.made) same ∙ (ap (λ (ms : List Made). item_at ms (length old.made)) behind ∙ item_last old.made x)

  kept_behind_each : (n : ℕ) → AreKept n old → (i : ℕ) (m : Made) → n ≤ i → item_at new.made i ≡ Some m → IsKeptAt new.waiting i m m.waiting
  kept_behind_each n kept i m from at =
      elim (item_of_push old.made x i m (ap (λ (ms : List Made). item_at ms i) (sym behind) ∙ at)) [
        | inl was ↦ still_kept old.waiting new.waiting (length old.made) x x.waiting keeps i m m.waiting (kept.each i m from was)
        | inr last ↦
            let own = own_put old.waiting new.waiting (length old.made) x x.waiting keeps in
            subst (λ (k : ℕ). IsKeptAt new.waiting k m m.waiting) (sym last.0) (subst (λ (y : Made). IsKeptAt new.waiting (length old.made) y y.waiting) last.1 own)
      ]

  kept_behind_only : (n : ℕ) → AreKept n old → (k : ℕ) (w : Waiting) → get new.waiting k ≡ Some w → IsOfWaiting n new k w
  kept_behind_only n kept k w at =
      elim (before_or_put old.waiting new.waiting (length old.made) x x.waiting keeps k w at) [
        | inl was ↦
            let h = kept.only k w was in
            record { from = h.from; label = h.label; at = there_still w.label h.label h.at; own = h.own; waits = h.waits }
        | inr put ↦
            let number = put.2 in
            let within = kept.within in
            record { from = omega (arith, number, within); label = x; at = there_last w.label number; own = put.0; waits = put.1 }
      ]

  pub kept_behind : KeepsRecords old new
  kept_behind n kept = record {
    within = let e = ap length behind in let f = length_pushed old.made x in let w = kept.within in omega (arith, e, f, w);
    each = kept_behind_each n kept;
    only = kept_behind_only n kept;
  }

none_stands : (s : Slab Waiting) (k : ℕ) (w : Waiting) → s.slots ≡ [] → get s k ≡ Some w → ⊥
none_stands s k w empty at = let none : None ≡ Some w = ap (λ (slots : List (Option Waiting)). slice_index_or slots k None) (sym empty) ∙ at in cc

pub none_kept : (q : Queue) → q.made ≡ [] → q.waiting.slots ≡ [] → AreKept 0 q
none_kept q none empty = record {
  within = omega arith;
  each = λ i m from at. let is : item_at [] i ≡ Some m = ap (λ (ms : List Made). item_at ms i) (sym none) ∙ at in absurd (cc);
  only = λ k w at. absurd (none_stands q.waiting k w empty at);
}

pub kept_still : (n : ℕ) (old new : Queue) → new ≡ old → AreKept n old → AreKept n new
kept_still n old new same kept = subst (λ (q : Queue). AreKept n q) (sym same) kept

-- All labels have had their turn.
none_left : (n : ℕ) (q : Queue) → n ≡ length q.made → AreKept n q → NoneWaits q
none_left n q all kept k =
    elim (there_or_none (get q.waiting k)) [
      | inl some ↦
          let h = kept.only k some.0 some.1 in
          let from = h.from in
          let below = item_below q.made some.0.label h.label h.at in
          absurd (omega (arith, all, from, below))
      | inr none ↦ none
    ]

pub none_after : (n : ℕ) (q : Queue) (Within : Type 0) (next : Option Waiting) → next ≡ None → Within → IfNone next (Within → n ≡ length q.made) → IfNone next (AreKept n q) → NoneWaits q
none_after n q Within next is within all kept =
    none_left n q (subst (λ (o : Option Waiting). IfNone o (Within → n ≡ length q.made)) is all within) (subst (λ (o : Option Waiting). IfNone o (AreKept n q)) is kept)

-- ---- one is taken out

more : (n k : ℕ) → n ≤ k → (n ≡ k → ⊥) → n + 1 ≤ k
more n k from other = elim (cases_order n k) [
  | inl same ↦ absurd (other same)
  | inr (inl less) ↦ omega (arith, less)
  | inr (inr greater) ↦ absurd (omega (arith, from, greater))
]

module _ (n : ℕ) (old : Queue) (m : Made) (at : item_at old.made n ≡ Some m) (kept : AreKept n old) where
  own_kept : IsKeptAt old.waiting n m m.waiting
  own_kept = kept.each n m (omega arith) at

  further : n + 1 ≤ length old.made
  further = let h = item_below old.made n m at in omega (arith, h)

  -- A record is of a label behind this one, if it is not of this one.
  later : (k : ℕ) (w : Waiting) → IsOfWaiting n old k w → ((m.waiting ≡ Some k) → Waits m → ⊥) → n + 1 ≤ w.label
  later k w h not =
      let from = h.from in
      elim (same_number_or_not n w.label) [
        | inl same ↦
            let is : h.label ≡ m = same_label old.made n h.label m (ap (item_at old.made) same ∙ h.at) at in
            absurd (not (subst (λ (y : Made). y.waiting ≡ Some k) is h.own) (subst Waits is h.waits))
        | inr other ↦ more n w.label from other
      ]

  -- The label does not wait.
  pub kept_later : (Waits m → ⊥) → AreKept (n + 1) old
  kept_later never = record {
    within = further;
    each = λ i x from there. kept.each i x (omega (arith, from)) there;
    only = λ k w stands.
        let h = kept.only k w stands in
        record { from = later k w h (λ own waits. never waits); label = h.label; at = h.at; own = h.own; waits = h.waits };
  }

  pub takes_none : m.waiting ≡ None → TakesRecord n old old None
  takes_none none =
      let never : Waits m → ⊥ = subst (IsKeptAt old.waiting n m) none own_kept in
      record { own = λ x there waits. absurd (never (subst Waits (same_label old.made n x m there at) waits)); others = kept_later never }

  module _ (key : ℕ) (is : m.waiting ≡ Some key) (new : Queue) (made : new.made ≡ old.made) (updates : Updates old.waiting new.waiting key None) where
    stood : HasRecord old.waiting n m key
    stood = subst (IsKeptAt old.waiting n m) is own_kept

    -- No other label has the key, since the record has the label's number.
    other_key : (i k : ℕ) (x : Made) → n + 1 ≤ i → HasRecord old.waiting i x k → k ≢ key
    other_key i k x from h same =
        let one : Some h.waiting ≡ Some stood.waiting = sym h.stands ∙ (ap (get old.waiting) same ∙ stood.stands) in
        let both : h.waiting ≡ stood.waiting = cc in
        let number : i ≡ n = sym h.own.number ∙ (ap (λ (w : Waiting). w.label) both ∙ stood.own.number) in
        omega (arith, number, from)

    kept_without : (i : ℕ) (x : Made) → n + 1 ≤ i → (o : Option ℕ) → IsKeptAt old.waiting i x o → IsKeptAt new.waiting i x o
    kept_without i x from None never = never
    kept_without i x from (Some k) h = record { waiting = h.waiting; stands = updates.others k (other_key i k x from h) ∙ h.stands; own = h.own }

    -- What is left stood at another key.
    not_at_key : (k : ℕ) (w : Waiting) → get new.waiting k ≡ Some w → k ≢ key
    not_at_key k w stands same = let none : Some w ≡ None = sym stands ∙ (ap (get new.waiting) same ∙ updates.changed) in cc

    left_only : (k : ℕ) (w : Waiting) → get new.waiting k ≡ Some w → IsOfWaiting (n + 1) new k w
    left_only k w stands =
        let other = not_at_key k w stands in
        let h = kept.only k w (sym (updates.others k other) ∙ stands) in
        record {
          from = later k w h (λ own waits. let one : Some k ≡ Some key = sym own ∙ is in let same : k ≡ key = cc in other same);
          label = h.label;
          at = ap (λ (ms : List Made). item_at ms w.label) made ∙ h.at;
          own = h.own;
          waits = h.waits;
        }

    pub takes_some : (taken : Option Waiting) → taken ≡ get old.waiting key → TakesRecord n old new taken
    takes_some taken value = record {
      own = λ x there waits. (stood.waiting, value ∙ stood.stands, subst (λ (y : Made). IsRecordOf n y stood.waiting) (same_label old.made n m x at there) stood.own);
      others = record {
        within = let e = ap length made in let f = further in omega (arith, e, f);
        each = λ i x from there. kept_without i x from x.waiting (kept.each i x (omega (arith, from)) (ap (λ (ms : List Made). item_at ms i) (sym made) ∙ there));
        only = left_only;
      };
    }

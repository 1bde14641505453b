-- What the indices of first events say of prefixes.
use Rattle.std.proofs.Common.{◌≡◌, ℕ, zero, suc, ◌+◌, ◌≤◌, List, [], ◌∷◌, map, take, Bool, true, false, ◌||◌, Option, Some, refl, sym, ap, ap₂, ◌∙◌, arith, le-ltb, lt-ltb}
use Rattle.std.specs.Prelude.{cond}
use Rattle.std.specs.List.{enumerate_from, position_from}
use Rattle.cp_lists.specs.Lists.{item_at}
use Rattle.cp_model.specs.declared.variable.Declaration.{Declaration}
use Rattle.cp_model.specs.declared.variable.Variable.{Variable}
use Rattle.cp_model.specs.declared.strand.Event.{Event}
use Rattle.cp_model.specs.Term.{Term, variables_of}
use Rattle.cp_model.specs.Strand.{Role, payload, variables_of_trace}
use Rattle.cp_model.specs.Same.{has_variable}
use Rattle.cp_strand.specs.FirstEvents.{first_event, first_events, is_reached, AreFirstEvents}
use Rattle.cp_strand.proofs.Occurrences.{has_variable-append}

module _ (x : Variable) where
  abbrev occurs : Event Term → Bool
  occurs e = has_variable (variables_of (payload e)) x

  -- An index that is counted from k on is in no prefix of at most k events.
  not_reached : (k n : ℕ) (es : List (Event Term)) → n ≤ k → is_reached (position_from occurs k es) n ≡ false
  not_reached k n [] le = refl
  not_reached k n (e ∷ es) le = by (occurs e) (not_reached (k + 1) n es (omega (arith, le))) where
    by : (b : Bool) → is_reached (position_from occurs (k + 1) es) n ≡ false → is_reached (cond b (Some k) (position_from occurs (k + 1) es)) n ≡ false
    by true later = le-ltb k n le
    by false later = later

  reached_from : (k h n : ℕ) (es : List (Event Term)) → n ≡ k + h → has_variable (variables_of_trace (take h es)) x ≡ is_reached (position_from occurs k es) n
  reached_from k zero n es e = sym (not_reached k n es (omega (arith, e)))
  reached_from k (suc h) n [] e = refl
  reached_from k (suc h) n (v ∷ es) e = has_variable-append (variables_of (payload v)) (variables_of_trace (take h es)) x ∙ by (occurs v) (reached_from (k + 1) h n es (omega (arith, e))) where
    by : (b : Bool) → has_variable (variables_of_trace (take h es)) x ≡ is_reached (position_from occurs (k + 1) es) n
        → (b || has_variable (variables_of_trace (take h es)) x) ≡ is_reached (cond b (Some k) (position_from occurs (k + 1) es)) n
    by true later = sym (lt-ltb k n (omega (arith, e)))
    by false later = later

-- The entry at a place is what the function makes of the item there and of its number.
entry_at : {A B : Type 0} (g : ℕ × A → B) (k n m : ℕ) (xs : List A) (x : A) (y : B) → m ≡ k + n → item_at xs n ≡ Some x → item_at (map g (enumerate_from k xs)) n ≡ Some y → g (m, x) ≡ y
entry_at g k n m [] x y e at found = absurd (cc)
entry_at g k zero m (z ∷ xs) x y e at found =
    let item : x ≡ z = cc in
    let entry : g (k, z) ≡ y = cc in
    let number : m ≡ k = omega (arith, e) in
    ap₂ (λ i v. g (i, v)) number item ∙ entry
entry_at g k (suc n) m (z ∷ xs) x y e at found = entry_at g (k + 1) n m xs x y (omega (arith, e)) at found

module _ (role : Role) where
  pub none_indexed : AreFirstEvents role []
  none_indexed n d first at found = absurd (cc)

  pub all_indexed : (firsts : List (Option ℕ)) → firsts ≡ first_events role.variables role.trace → AreFirstEvents role firsts
  all_indexed firsts e n d first at found height =
      let x : Variable = record { sort = d.sort; number = n } in
      let entry : first_event role.trace x ≡ first =
      entry_at (λ (p : ℕ × Declaration). first_event role.trace (record { sort = p.1.sort; number = p.0 })) 0 n n role.variables d first (omega arith) at (sym (ap (λ fs. item_at fs n) e) ∙ found) in
      reached_from x 0 height height role.trace (omega arith) ∙ ap (λ f. is_reached f height) entry

-- What is kept of reachability is right.
use Rattle.std.proofs.Common.{◌≡◌, ◌⊎◌, ◌↔◌, inl, inr, ◌∙◌, ℕ, ◌+◌, ◌<◌, List, [], ◌∷◌, ◌++◌, length, Bool, true, not, Vec, Option, Some, None, IfSome, refl, sym, ap, subst, subst₂, arith}
use Rattle.std.specs.Prelude.{IsTrue}
use Rattle.std.specs.Option.{is_some}
use Rattle.std.proofs.Math.Logic.{⊎_map}
use Rattle.std.proofs.lemmas.List.{length-append}
use Rattle.cp_lists.specs.Lists.{IsIn}
use Rattle.cp_lists.proofs.Members.{in_pushed}
use Rattle.cp_model.proofs.CarriedParts.{not_both}
use Rattle.cp_search.specs.declared.made.Made.{Made}
use Rattle.cp_search.specs.declared.reachability.Reachability.{Reachability}
use Rattle.cp_search.specs.MadeLabels.{AreFound}
use Rattle.cp_search.specs.Reachability.{row_at, given_row, IsDistinct, AreBelow, AddsToRows, Joins, AreTransposed, ReachesLabel, IsReachability}
use Rattle.cp_search.proofs.ReachedLabels.{one_longer, seen_below, LeadsToNew, FollowsNew, one_more_reached}
use Rattle.cp_search.proofs.JoinedRows.{with_empty_row, in_given, given_in, given_distinct, pushed_in, distinct_pushed, fills_last}

-- ---- one label more

-- What stands in the row that is given with a number behind it.
given_with : {A : Type 0} (rows : List (Vec ℕ A)) (o : Option ℕ) (number : ℕ) (all : List ℕ) → all ≡ given_row rows o ++ number ∷ [] → (rel : ℕ → ℕ → Type 0) → ((n k : ℕ) → IsIn k (row_at rows n) ↔ rel n k)
    → (k : ℕ) → IsIn k all ↔ (((n : ℕ) × (o ≡ Some n) × rel n k) ⊎ (number ≡ k))
given_with rows o number all are rel is k = (
  λ h. ⊎_map (λ i. let g = in_given rows o k i in (g.0, g.1, (is g.0 k).0 g.2)) (λ e. e) (in_pushed (given_row rows o) number k (subst (IsIn k) are h)),
  λ h. subst (IsIn k) (sym are) (pushed_in (given_row rows o) number k (⊎_map (λ g. given_in rows o g.0 k g.1 ((is g.0 k).1 g.2)) (λ e. e) h)),
)

-- What stands there now, where what stood there and what was added are known.
stands_now : {Now Was Added Before After : Type 0} → Now ↔ (Was ⊎ Added) → Was ↔ Before → (Before ⊎ Added) ↔ After → Now ↔ After
stands_now listed was after = (λ h. after.0 (⊎_map was.0 (λ p. p) (listed.0 h)), λ h. listed.1 (⊎_map was.1 (λ p. p) (after.1 h)))

-- What holds before each of these sources is joined to each of these targets: then it is kept of one label more what it reaches.
pub record IsToJoin (ms : List Made) (m : Made) (mid : Reachability) (sources targets : List ℕ) : Type 0 where
  pub transposed : AreTransposed mid
  pub have_rows : AreBelow (length mid.reaches.items) sources
  pub have_columns : AreBelow (length mid.reached_from.items) targets
  pub kept : (new : Reachability) → Joins (λ n k. IsIn n sources × IsIn k targets) mid new → IsReachability new (ms ++ m ∷ [])

-- What holds before the number of a label that is seen in no other is put behind the rows of its sources: then, with them as its column,
-- it is kept of one label more what it reaches.
pub record IsToPut (ms : List Made) (m : Made) (old : Reachability) (rows : List (Vec ℕ _)) (sources : List ℕ) : Type 0 where
  pub within : AreBelow (length rows) sources
  pub distinct : IsDistinct sources
  pub apart : (n : ℕ) → IsIn (length ms) (row_at rows n) → ⊥
  pub kept : (new : Reachability) (column : Vec ℕ _) → AddsToRows (λ n k. IsIn n sources × IsIn k (length ms ∷ [])) rows new.reaches.items → column.items ≡ sources →
      new.reached_from.items ≡ old.reached_from.items ++ column ∷ [] → IsReachability new (ms ++ m ∷ [])

pub none_there : (o : Option ℕ) (none : Bool) → is_some o ≡ not none → none ≡ true → o ≡ None
none_there (Some n) none is e = absurd (not_both (ap not e) (sym is))
none_there None none is e = refl

module _ (ms : List Made) (m : Made) (found : AreFound (ms ++ m ∷ [])) (old : Reachability) (is : IsReachability old ms) where
  -- The label in which it is seen has a row.
  row_of_option : (o : Option ℕ) → ((n : ℕ) → o ≡ Some n → n < length ms) → IfSome o (λ n. n < length old.reaches.items)
  row_of_option None below = tt
  row_of_option (Some n) below = let l : n < length ms = below n refl in let count = is.rows in omega (arith, l, count)

  pub seen_row : IfSome m.seen_in (λ n. n < length old.reaches.items)
  seen_row = row_of_option m.seen_in (seen_below ms m found)

  module _ (sources targets : List ℕ) (sources_are : sources ≡ given_row old.reached_from.items m.parent ++ length ms ∷ []) (targets_are : targets ≡ given_row old.reaches.items m.seen_in ++ length ms ∷ []) where
    source_is : (n : ℕ) → IsIn n sources ↔ LeadsToNew ms m found n
    source_is n = given_with old.reached_from.items m.parent (length ms) sources sources_are (λ p i. ReachesLabel ms i p) (λ p i. is.reached_from i p) n

    target_is : (n : ℕ) → IsIn n targets ↔ FollowsNew ms m found n
    target_is n = given_with old.reaches.items m.seen_in (length ms) targets targets_are (ReachesLabel ms) is.reaches n

    below_of : (n : ℕ) → (n < length ms) ⊎ (length ms ≡ n) → n < length ms + 1
    below_of n (inl l) = omega (arith, l)
    below_of n (inr e) = omega (arith, e)

    sources_below : (n : ℕ) → IsIn n sources → n < length ms + 1
    sources_below n h = below_of n (⊎_map (λ g. g.2.0) (λ e. e) ((source_is n).0 h))

    targets_below : (n : ℕ) → IsIn n targets → n < length ms + 1
    targets_below n h = below_of n (⊎_map (λ g. g.2.1) (λ e. e) ((target_is n).0 h))

    sources_distinct : IsDistinct sources
    sources_distinct =
        subst IsDistinct (sym sources_are)
        (distinct_pushed (given_row old.reached_from.items m.parent) (length ms) (given_distinct old.reached_from.items m.parent is.columns_distinct) (λ h.
        let g = in_given old.reached_from.items m.parent (length ms) h in
        let l : length ms < length ms = ((is.reached_from (length ms) g.0).0 g.2).0 in
        omega (arith, l)))

    -- What reached its parent, and it itself, reaches it and what the label reaches in which it is seen.
    now_reached : (n k : ℕ) → (ReachesLabel ms n k ⊎ (IsIn n sources × IsIn k targets)) ↔ ReachesLabel (ms ++ m ∷ []) n k
    now_reached n k = (
      λ h. (one_more_reached ms m found n k).0 (⊎_map (λ r. r) (λ p. ((source_is n).0 p.0, (target_is k).0 p.1)) h),
      λ h. ⊎_map (λ r. r) (λ p. ((source_is n).1 p.0, (target_is k).1 p.1)) ((one_more_reached ms m found n k).1 h),
    )

    -- Each table has an empty row more.
    module _ (mid_rows mid_columns : List (Vec ℕ _)) (row column : Vec ℕ _) (rows : mid_rows ≡ old.reaches.items ++ row ∷ []) (columns : mid_columns ≡ old.reached_from.items ++ column ∷ []) (no_row : row.items ≡ []) (no_column : column.items ≡ []) where
      row_same : (n : ℕ) → row_at mid_rows n ≡ row_at old.reaches.items n
      row_same n = ap (λ rs. row_at rs n) rows ∙ with_empty_row old.reaches.items row n no_row

      column_same : (n : ℕ) → row_at mid_columns n ≡ row_at old.reached_from.items n
      column_same n = ap (λ rs. row_at rs n) columns ∙ with_empty_row old.reached_from.items column n no_column

      row_count : length mid_rows ≡ length ms + 1
      row_count = ap length rows ∙ (length-append old.reaches.items (row ∷ []) ∙ ap (λ k. k + 1) is.rows)

      column_count : length mid_columns ≡ length ms + 1
      column_count = ap length columns ∙ (length-append old.reached_from.items (column ∷ []) ∙ ap (λ k. k + 1) is.columns)

      row_is : (n k : ℕ) → IsIn k (row_at mid_rows n) ↔ ReachesLabel ms n k
      row_is n k = subst (λ (ns : List ℕ). IsIn k ns ↔ ReachesLabel ms n k) (sym (row_same n)) (is.reaches n k)

      column_is : (n k : ℕ) → IsIn n (row_at mid_columns k) ↔ ReachesLabel ms n k
      column_is n k = subst (λ (ns : List ℕ). IsIn n ns ↔ ReachesLabel ms n k) (sym (column_same k)) (is.reached_from n k)

      one_more_kept : (new : Reachability) → AddsToRows (λ n k. IsIn n sources × IsIn k targets) mid_rows new.reaches.items → AddsToRows (λ k n. IsIn n sources × IsIn k targets) mid_columns new.reached_from.items →
          IsReachability new (ms ++ m ∷ [])
      one_more_kept new puts fills = record {
        rows = puts.count ∙ (row_count ∙ sym (one_longer ms m found));
        columns = fills.count ∙ (column_count ∙ sym (one_longer ms m found));
        reaches = λ n k. stands_now (puts.listed n k) (row_is n k) (now_reached n k);
        reached_from = λ n k. stands_now (fills.listed k n) (column_is n k) (now_reached n k);
        rows_distinct = puts.distinct (λ n. subst IsDistinct (sym (row_same n)) (is.rows_distinct n));
        columns_distinct = fills.distinct (λ n. subst IsDistinct (sym (column_same n)) (is.columns_distinct n));
      }

      transposed : (n k : ℕ) → IsIn k (row_at mid_rows n) ↔ IsIn n (row_at mid_columns k)
      transposed n k = (λ h. (column_is n k).1 ((row_is n k).0 h), λ h. (row_is n k).1 ((column_is n k).0 h))

      have_rows : AreBelow (length mid_rows) sources
      have_rows n h = let l : n < length ms + 1 = sources_below n h in omega (arith, l, row_count)

      have_columns : AreBelow (length mid_columns) targets
      have_columns n h = let l : n < length ms + 1 = targets_below n h in omega (arith, l, column_count)

      not_reached : (n : ℕ) → IsIn (length ms) (row_at mid_rows n) → ⊥
      not_reached n h = let l : length ms < length ms = ((row_is n (length ms)).0 h).1 in omega (arith, l)

    pub to_join : (mid : Reachability) (row column : Vec ℕ _) → mid.reaches.items ≡ old.reaches.items ++ row ∷ [] → mid.reached_from.items ≡ old.reached_from.items ++ column ∷ [] → row.items ≡ [] → column.items ≡ [] →
        IsToJoin ms m mid sources targets
    to_join mid row column rows columns no_row no_column = record {
      transposed = transposed mid.reaches.items mid.reached_from.items row column rows columns no_row no_column;
      have_rows = have_rows mid.reaches.items mid.reached_from.items row column rows columns no_row no_column;
      have_columns = have_columns mid.reaches.items mid.reached_from.items row column rows columns no_row no_column;
      kept = λ new joined. one_more_kept mid.reaches.items mid.reached_from.items row column rows columns no_row no_column new joined.reaches joined.reached_from;
    }

  -- The label is seen in no other. Its number is put behind the rows of its sources, and they are its column.
  pub to_put : m.seen_in ≡ None → (sources : List ℕ) → sources ≡ given_row old.reached_from.items m.parent ++ length ms ∷ [] → (rows : List (Vec ℕ _)) (row : Vec ℕ _) → rows ≡ old.reaches.items ++ row ∷ [] → row.items ≡ [] →
      IsToPut ms m old rows sources
  to_put unseen sources sources_are rows row rows_are no_row =
      let columns = old.reached_from.items ++ row ∷ [] in
      let targets_none : length ms ∷ [] ≡ given_row old.reaches.items m.seen_in ++ length ms ∷ [] = ap (λ (o : Option ℕ). given_row old.reaches.items o ++ length ms ∷ []) (sym unseen) in
      let own = sources_distinct sources (length ms ∷ []) sources_are targets_none in
      record {
        within = have_rows sources (length ms ∷ []) sources_are targets_none rows columns row row rows_are refl no_row no_row;
        distinct = own;
        apart = not_reached sources (length ms ∷ []) sources_are targets_none rows columns row row rows_are refl no_row no_row;
        kept = λ new column puts is_column is_columns. one_more_kept sources (length ms ∷ []) sources_are targets_none rows columns row row rows_are refl no_row no_row new puts
            (subst₂ (λ (cs : List (Vec ℕ _)) (ns : List ℕ). AddsToRows (λ k n. IsIn n ns × IsIn k (length ms ∷ [])) columns cs) (sym is_columns) is_column
            (subst (λ (count : ℕ). AddsToRows (λ k n. IsIn n column.items × IsIn k (count ∷ [])) columns (old.reached_from.items ++ column ∷ [])) is.columns
            (fills_last old.reached_from.items row column no_row (subst IsDistinct (sym is_column) own))));
      }

-- ---- what is asked

module _ (r : Reachability) (ms : List Made) (is : IsReachability r ms) where
  pub asked_row : (parent : Option ℕ) → IfSome parent (λ p. p < length ms) → IfSome parent (λ p. p < length r.reached_from.items)
  asked_row parent = subst (λ (count : ℕ). IfSome parent (λ p. p < count)) (sym is.columns)

  -- A label stands in the row of those that reach another exactly if it reaches it.
  pub row_tells : (from : ℕ) (to : Option ℕ) (b : Bool) → IsTrue b ↔ IsIn from (given_row r.reached_from.items to) → IsTrue b ↔ ((n : ℕ) × (to ≡ Some n) × ReachesLabel ms from n)
  row_tells from to b listed = (
    λ h. let g = in_given r.reached_from.items to from (listed.0 h) in (g.0, g.1, (is.reached_from from g.0).0 g.2),
    λ h. listed.1 (given_in r.reached_from.items to h.0 from h.1 ((is.reached_from from h.0).1 h.2)),
  )

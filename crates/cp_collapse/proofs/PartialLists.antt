-- Lists of partial partitions, one more put at a time.
use Rattle.std.proofs.Common.{◌≡◌, ◌⊎◌, inl, inr, ℕ, suc, ◌≤◌, ◌+◌, List, [], ◌∷◌, ◌++◌, Some, length, refl, sym, ap, ◌∙◌, subst, arith}
use Rattle.std.proofs.lemmas.List.{map-append, length-map}
use Rattle.cp_lists.specs.Lists.{item_at, IsIn}
use Rattle.cp_model.specs.Skeleton.{Skeleton}
use Rattle.cp_lists.proofs.Members.{in_append, only_item}
use Rattle.cp_lists.proofs.Items.{item_below, map_of_item, at_place}
use Rattle.cp_collapse.specs.FirstPartitions.{IsPartitionOfFirst, ArePartitionsOfFirst, AreExtendedTo, IsExactFor}
use Rattle.cp_collapse.specs.Partials.{lists, IsExact, ArePartials, ArePartlyExtended, Joins, MayNotJoin}
use Rattle.cp_collapse.specs.Partitions.{AreDescending, IdentifiesValues}
use Rattle.cp_collapse.specs.declared.partitions.Partial.{Partial}
use Rattle.cp_collapse.proofs.Extended.{none_extended, not_extended, one_extended, next_extended, all_extended, first_partition}
use Rattle.cp_collapse.proofs.ExactBlocks.{exact_alone, exact_no_strand}

pub lists_with : (old : List Partial) (q : Partial) (x : List ℕ) → q.lowest.items ≡ x → lists (old ++ (q ∷ [])) ≡ lists old ++ (x ∷ [])
lists_with old q x e = map-append (λ (p : Partial). p.lowest.items) old (q ∷ []) ∙ ap (λ (y : List ℕ). lists old ++ (y ∷ [])) e

exact_with : (k : Skeleton) (old : List Partial) (q : Partial) → ((p : Partial) → IsIn p old → IsExact k p) → IsExact k q → (p : Partial) → IsIn p (old ++ (q ∷ [])) → IsExact k p
exact_with k old q all x p i = by (in_append old (q ∷ []) i)
  where
    by : IsIn p old ⊎ IsIn p (q ∷ []) → IsExact k p
    by (inl j) = all p j
    by (inr j) = subst (IsExact k) (sym (only_item j)) x

-- Alone it may always be.
pub joins_alone : (k : Skeleton) (n : ℕ) (p : Partial) (q : Partial) → q.lowest.items ≡ p.lowest.items ++ (n ∷ []) → q.bindings.value ≡ p.bindings.value → IsPartitionOfFirst k n p.lowest.items → IsExact k p → Joins k n p.lowest.items n q
joins_alone k n p q e f part x = record {
  extended = e;
  may_have = inl refl;
  exact = subst (λ r. IsExactFor (IdentifiesValues k q.lowest.items) r) (sym f) (subst (λ (xs : List ℕ). IsExactFor (IdentifiesValues k xs) p.bindings.value) (sym e) (exact_alone k n p.lowest.items part p.bindings.value x));
}

module _ (k : Skeleton) (n : ℕ) (ps : List (List ℕ)) (i : ℕ) (p : List ℕ) (at : item_at ps i ≡ Some p) (m : ℕ) (old : List Partial) (so_far : ArePartlyExtended k n ps i (m + 1) old) where
  before : AreExtendedTo k n ps i (suc m) (lists old)
  before = let e : m + 1 ≡ suc m = omega arith in subst (λ (x : ℕ). AreExtendedTo k n ps i x (lists old)) e so_far.extended

  pub one_put : (q : Partial) (new : List Partial) → AreDescending ps → Joins k n p m q → new ≡ old ++ (q ∷ []) → ArePartlyExtended k n ps i m new
  one_put q new d j e = subst (ArePartlyExtended k n ps i m) (sym e) (record {
    extended = subst (AreExtendedTo k n ps i m) (sym (lists_with old q (p ++ (m ∷ [])) j.extended)) (one_extended k n ps i m p at (lists old) before d j.may_have);
    exact = exact_with k old q so_far.exact j.exact;
  })

  pub none_put : MayNotJoin k n p m → ArePartlyExtended k n ps i m old
  none_put never = record { extended = not_extended k n ps i m p at (lists old) before never; exact = so_far.exact }

-- ---- a round

pub none_partly : (k : Skeleton) (n : ℕ) (ps : List (List ℕ)) (new : List Partial) → new ≡ [] → ArePartlyExtended k n ps 0 (n + 1) new
none_partly k n ps new e =
    let f : suc n ≡ n + 1 = omega arith in
    subst (ArePartlyExtended k n ps 0 (n + 1)) (sym e) (record { extended = subst (λ (x : ℕ). AreExtendedTo k n ps 0 x []) f (none_extended k n ps); exact = λ p i. elim i [ ] })

pub next_partly : (k : Skeleton) (n : ℕ) (ps : List (List ℕ)) (i : ℕ) (new : List Partial) → ArePartlyExtended k n ps i 0 new → ArePartlyExtended k n ps (i + 1) (n + 1) new
next_partly k n ps i new a =
    let f : suc n ≡ n + 1 = omega arith in
    let g : suc i ≡ i + 1 = omega arith in
    record { extended = subst (λ (x : ℕ). AreExtendedTo k n ps (i + 1) x (lists new)) f (subst (λ (x : ℕ). AreExtendedTo k n ps x (suc n) (lists new)) g (next_extended k n ps i (lists new) a.extended)); exact = a.exact }

lists_length : (partials : List Partial) → length (lists partials) ≡ length partials
lists_length partials = length-map partials (λ p. p.lowest.items)

past_end : (k : Skeleton) (n : ℕ) (ps : List (List ℕ)) (i m : ℕ) (new : List (List ℕ)) → length ps ≤ i → AreExtendedTo k n ps i m new → AreExtendedTo k n ps (length ps) (suc n) new
past_end k n ps i m new done a = record {
  each = λ q inq. let o = a.each q inq in record { partition = o.partition; entry = o.entry; extended = o.extended; behind = (o.behind.0, o.behind.1, inl (item_below ps o.behind.0 o.partition o.behind.1)); may_have = o.may_have };
  all = λ p l b may. a.all p l (b.0, b.1, inl (let h = item_below ps b.0 p b.1 in omega (arith, h, done))) may;
  descending = a.descending;
}

pub round_done : (k : Skeleton) (n : ℕ) (partials new : List Partial) (i : ℕ) → length partials ≤ i → ArePartials k n partials → ArePartlyExtended k n (lists partials) i (n + 1) new → ArePartials k (n + 1) new
round_done k n partials new i done are a =
    let e = lists_length partials in
    let f : suc n ≡ n + 1 = omega arith in
    record { partitions = subst (λ (x : ℕ). ArePartitionsOfFirst k x (lists new)) f (all_extended k n (lists partials) (lists new) are.partitions (past_end k n (lists partials) i (n + 1) (lists new) (omega (arith, e, done)) a.extended)); exact = a.exact }

-- The partial partition at a place of the list.
pub listed_at : (partials : List Partial) (i : ℕ) (p : Partial) → item_at partials i ≡ Some p → item_at (lists partials) i ≡ Some p.lowest.items
listed_at partials i p e = map_of_item (λ (q : Partial). q.lowest.items) partials i p e

pub partition_at : (k : Skeleton) (n : ℕ) (partials : List Partial) (i : ℕ) (p : Partial) → ArePartials k n partials → item_at partials i ≡ Some p → IsPartitionOfFirst k n p.lowest.items
partition_at k n partials i p are e = are.partitions.each p.lowest.items (at_place (lists partials) i _ (listed_at partials i p e))

pub exact_item : (k : Skeleton) (n : ℕ) (partials : List Partial) (i : ℕ) (p : Partial) → ArePartials k n partials → item_at partials i ≡ Some p → IsExact k p
exact_item k n partials i p are e = are.exact p (at_place partials i _ e)

pub first_partials : (k : Skeleton) (p : Partial) (partials : List Partial) → p.lowest.items ≡ [] → p.bindings.value ≡ [] → partials ≡ p ∷ [] → ArePartials k 0 partials
first_partials k p partials e f same = subst (ArePartials k 0) (sym same) (record {
  partitions = subst (λ (x : List ℕ). ArePartitionsOfFirst k 0 (x ∷ [])) (sym e) (first_partition k);
  exact = λ q i. subst (IsExact k) (sym (only_item i)) (subst (λ r. IsExactFor (IdentifiesValues k p.lowest.items) r) (sym f) (subst (λ (xs : List ℕ). IsExactFor (IdentifiesValues k xs) []) (sym e) (exact_no_strand k)));
})

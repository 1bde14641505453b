-- Rounds of rewriting: the results of candidates, part by part, and that there is a last round.
use Rattle.std.proofs.Common.{append_assoc, ◌≡◌, ◌⊎◌, inl, inr, ◌<◌, ◌≤◌, ◌+◌, ℕ, suc, List, [], ◌∷◌, ◌++◌, Bool, true, false, ◌↔◌, length, get_or, drop, refl, sym, ap, ◌∙◌, subst, arith}
use Rattle.std.proofs.lemmas.List.{append-nil}
use Rattle.cp_lists.specs.Lists.{IsIn, here, there}
use Rattle.cp_lists.proofs.Members.{in_append, only_item, item_is_in, next_or_rest, none_left}
use Rattle.cp_normal.specs.declared.rewriting.Candidate.{Candidate}
use Rattle.cp_normal.specs.declared.rewriting.Candidate.TheVariants.{Open, Done}
use Rattle.cp_normal.specs.Leaves.{Falls, LeavesOf, of_result, of_item, EachHasLeaves, of_none, of_first, IsUnfinished, HasOpen, results_in, IsRound}
use Rattle.cp_normal.proofs.Greatest.{greatest, greatest_falls}

-- ---- the results of candidates

-- The results of two lists, one behind the other, are those of the first and those of the second.
record Parted {I D : Type 0} (becomes : I → List (Candidate I D) → Type 0) (cs ms : List (Candidate I D)) (ds : List D) : Type 0 where
  pub of_first : List D
  pub of_second : List D
  pub joined : ds ≡ of_first ++ of_second
  pub first : EachHasLeaves becomes cs of_first
  pub second : EachHasLeaves becomes ms of_second

module _ {I D : Type 0} (becomes : I → List (Candidate I D) → Type 0) where
  parted : (cs ms all : List (Candidate I D)) (ds : List D) → all ≡ cs ++ ms → EachHasLeaves becomes all ds → Parted becomes cs ms ds
  parted [] ms all ds e h = record { of_first = []; of_second = ds; joined = refl; first = of_none; second = subst (λ (zs : List (Candidate I D)). EachHasLeaves becomes zs ds) e h }
  parted (c ∷ cs) ms [] ds e h = absurd (cc)
  parted (c ∷ cs) ms (x ∷ xs) _ e (of_first {ds = front} {es = back} one rest) =
      let q : x ≡ c = cc in
      let t : xs ≡ cs ++ ms = cc in
      let p = parted cs ms xs back t rest in
      record {
        of_first = front ++ p.of_first;
        of_second = p.of_second;
        joined = ap (λ (zs : List D). front ++ zs) p.joined ∙ sym (append_assoc front p.of_first p.of_second);
        first = of_first (subst (λ (z : Candidate I D). LeavesOf becomes z front) q one) p.first;
        second = p.second;
      }

  both : (cs ms : List (Candidate I D)) (ds es : List D) → EachHasLeaves becomes cs ds → EachHasLeaves becomes ms es → EachHasLeaves becomes (cs ++ ms) (ds ++ es)
  both _ ms _ es of_none h = h
  both _ ms _ es (of_first {c = c} {cs = cs} {ds = front} {es = back} one rest) h =
      subst (λ (zs : List D). EachHasLeaves becomes (c ∷ (cs ++ ms)) zs) (sym (append_assoc front back es)) (of_first one (both cs ms back es rest h))

  -- What an item becomes stands in its place.
  placed : (x : I) (made : List (Candidate I D)) → becomes x made → (done rest : List (Candidate I D)) (ds : List D) → EachHasLeaves becomes ((done ++ made) ++ rest) ds → EachHasLeaves becomes (done ++ Open x ∷ rest) ds
  placed x made b done rest ds h =
      let p = parted done (made ++ rest) ((done ++ made) ++ rest) ds (append_assoc done made rest) h in
      let q = parted made rest (made ++ rest) p.of_second refl p.second in
      subst (λ (zs : List D). EachHasLeaves becomes (done ++ Open x ∷ rest) zs) (sym (p.joined ∙ ap (λ (zs : List D). p.of_first ++ zs) q.joined))
      (both done (Open x ∷ rest) p.of_first (q.of_first ++ q.of_second) p.first (of_first (of_item b q.first) q.second))

-- ---- a round

-- The item is open among what one of the candidates becomes.
abbrev pub IsMade : {I D : Type 0} → (I → List (Candidate I D) → Type 0) → List (Candidate I D) → I → Type 0
IsMade {I = I} {D = D} becomes all y = (x : I) × (made : List (Candidate I D)) × IsIn (Open x) all × becomes x made × IsIn (Open y) made

-- Of all candidates those that are left are still to be done.
pub record IsPartWay {I D : Type 0} (becomes : I → List (Candidate I D) → Type 0) (all left new : List (Candidate I D)) : Type 0 where
  pub each_left : (c : Candidate I D) → IsIn c left → IsIn c all
  pub each_made : (y : I) → IsIn (Open y) new → IsMade becomes all y
  pub leads : (ds : List D) → EachHasLeaves becomes (new ++ left) ds → EachHasLeaves becomes all ds

module _ {I D : Type 0} (becomes : I → List (Candidate I D) → Type 0) where
  pub at_first : (all left new : List (Candidate I D)) → left ≡ all → new ≡ [] → IsPartWay becomes all left new
  at_first all left new same none = record {
    each_left = λ c i. subst (λ (cs : List (Candidate I D)). IsIn c cs) same i;
    each_made = λ y i. elim (subst (λ (cs : List (Candidate I D)). IsIn (Open y) cs) none i) [ ];
    leads = λ ds h.
        subst (λ (cs : List (Candidate I D)). EachHasLeaves becomes cs ds) same
        (subst (λ (cs : List (Candidate I D)). EachHasLeaves becomes (cs ++ left) ds) none h);
  }

  module _ (all left rest old new : List (Candidate I D)) (c : Candidate I D) (so_far : IsPartWay becomes all left old) (taken : left ≡ c ∷ rest) where
    pub next_open : (x : I) (made : List (Candidate I D)) → c ≡ Open x → becomes x made → new ≡ old ++ made → IsPartWay becomes all rest new
    next_open x made is b put = record {
      each_left = λ d i. so_far.each_left d (subst (λ (cs : List (Candidate I D)). IsIn d cs) (sym taken) (there i));
      each_made = λ y i. of y (in_append old made (subst (λ (cs : List (Candidate I D)). IsIn (Open y) cs) put i));
      leads = λ ds h.
          so_far.leads ds (subst (λ (cs : List (Candidate I D)). EachHasLeaves becomes (old ++ cs) ds) (sym first)
          (placed becomes x made b old rest ds (subst (λ (cs : List (Candidate I D)). EachHasLeaves becomes (cs ++ rest) ds) put h)));
    }
      where
        first : left ≡ Open x ∷ rest
        first = taken ∙ ap (λ (d : Candidate I D). d ∷ rest) is

        there_in_all : IsIn (Open x) all
        there_in_all = so_far.each_left (Open x) (subst (λ (cs : List (Candidate I D)). IsIn (Open x) cs) (sym first) here)

        of : (y : I) → IsIn (Open y) old ⊎ IsIn (Open y) made → IsMade becomes all y
        of y (inl i) = so_far.each_made y i
        of y (inr i) = (x, made, there_in_all, b, i)

    pub next_done : (d : D) → c ≡ Done d → new ≡ old ++ Done d ∷ [] → IsPartWay becomes all rest new
    next_done d is put = record {
      each_left = λ e i. so_far.each_left e (subst (λ (cs : List (Candidate I D)). IsIn e cs) (sym taken) (there i));
      each_made = λ y i. of y (in_append old (Done d ∷ []) (subst (λ (cs : List (Candidate I D)). IsIn (Open y) cs) put i));
      leads = λ ds h. so_far.leads ds (subst (λ (cs : List (Candidate I D)). EachHasLeaves becomes cs ds) whole h);
    }
      where
        whole : new ++ rest ≡ old ++ left
        whole =
            ap (λ (cs : List (Candidate I D)). cs ++ rest) put
            ∙ append_assoc old (Done d ∷ []) rest
            ∙ ap (λ (cs : List (Candidate I D)). old ++ cs) (sym (taken ∙ ap (λ (e : Candidate I D). e ∷ rest) is))

        no_result : (y : I) → Open y ≡ Done d → ⊥
        no_result y e = cc

        of : (y : I) → IsIn (Open y) old ⊎ IsIn (Open y) (Done d ∷ []) → IsMade becomes all y
        of y (inl i) = so_far.each_made y i
        of y (inr i) = absurd (no_result y (only_item i))

  pub all_done : (all left new : List (Candidate I D)) (n : ℕ) → IsPartWay becomes all left new → n ≡ length left → n ≡ 0 → IsRound becomes all new
  all_done all [] new n so_far count none = record {
    each_made = so_far.each_made;
    leads = λ ds h. so_far.leads ds (subst (λ (cs : List (Candidate I D)). EachHasLeaves becomes cs ds) (sym (append-nil new)) h);
  }
  all_done all (c ∷ left) new n so_far count none = absurd (omega (arith, count, none))

-- ---- all rounds

-- A result counts nothing.
abbrev pub rank_of : {I D : Type 0} → (I → ℕ) → Candidate I D → ℕ
rank_of f (Open x) = suc (f x)
rank_of f (Done d) = 0

open_rank : {I D : Type 0} (f : I → ℕ) (c : Candidate I D) → IsUnfinished c → 0 < rank_of f c
open_rank f (Open x) h = omega arith
open_rank f (Done d) h = absurd h

module _ {I D : Type 0} (becomes : I → List (Candidate I D) → Type 0) (f : I → ℕ) (falls : Falls becomes f) (old new : List (Candidate I D)) (r : IsRound becomes old new) where
  below : (c : Candidate I D) → IsIn c new → (rank_of f c ≡ 0) ⊎ ((b : Candidate I D) × IsIn b old × (rank_of f c < rank_of f b))
  below (Done d) i = inl refl
  below (Open y) i =
      let m = r.each_made y i in
      let l : f y < f m.0 = falls m.0 y m.1 m.3 m.4 in
      inr (Open m.0, m.2, omega (arith, l))

  pub round_falls : HasOpen old → greatest (rank_of f) new < greatest (rank_of f) old
  round_falls h = greatest_falls (rank_of f) old new h.0 h.1 (open_rank f h.0 h.2) below

-- The results of the candidates are those of the first ones.
pub record IsReached {I D : Type 0} (becomes : I → List (Candidate I D) → Type 0) (first candidates : List (Candidate I D)) : Type 0 where
  pub leads : (ds : List D) → EachHasLeaves becomes candidates ds → EachHasLeaves becomes first ds

module _ {I D : Type 0} (becomes : I → List (Candidate I D) → Type 0) (first : List (Candidate I D)) where
  pub reached_at_first : IsReached becomes first first
  reached_at_first = record { leads = λ ds h. h }

  pub reached_next : (old new : List (Candidate I D)) → IsReached becomes first old → IsRound becomes old new → IsReached becomes first new
  reached_next old new reached r = record { leads = λ ds h. reached.leads ds (r.leads ds h) }

  themselves : (cs : List (Candidate I D)) → (HasOpen cs → ⊥) → EachHasLeaves becomes cs (results_in cs)
  themselves [] shut = of_none
  themselves (Open y ∷ cs) shut = absurd (shut (Open y, here, tt))
  themselves (Done d ∷ cs) shut = of_first of_result (themselves cs (λ h. shut (h.0, there h.1, h.2)))

  pub reached_at_last : (candidates read : List (Candidate I D)) (all : List D) (b : Bool) → IsReached becomes first candidates → b ≡ false → (HasOpen read → b ≡ true) → read ≡ candidates → all ≡ results_in candidates → EachHasLeaves becomes first all
  reached_at_last candidates read all b reached closed finds same e =
      subst (EachHasLeaves becomes first) (sym e)
      (reached.leads (results_in candidates) (themselves candidates (λ h. not_both closed (finds (subst (λ (cs : List (Candidate I D)). HasOpen cs) (sym same) h)))))
    where
      not_both : b ≡ false → b ≡ true → ⊥
      not_both p q = cc

-- ---- whether some candidate is open

module _ {I D : Type 0} (xs : List (Candidate I D)) (i : ℕ) where
  pub open_found : (x : Candidate I D) (b : Bool) → i < length xs → x ≡ get_or xs i x → (b ≡ true) ↔ IsUnfinished x → b ≡ true → (true ≡ true) ↔ HasOpen xs
  open_found x b l e test t = (λ _. (x, item_is_in xs i x l e, test.0 t), λ _. refl)

  pub open_passed : (x : Candidate I D) (b : Bool) → i < length xs → x ≡ get_or xs i x → (b ≡ true) ↔ IsUnfinished x → b ≡ false → (HasOpen xs → HasOpen (drop i xs)) → HasOpen xs → HasOpen (drop (i + 1) xs)
  open_passed x b l e test f left h = of (next_or_rest xs i was.0 x l e was.1)
    where
      was : HasOpen (drop i xs)
      was = left h

      not_both : b ≡ false → b ≡ true → ⊥
      not_both p q = cc

      of : (x ≡ was.0) ⊎ IsIn was.0 (drop (i + 1) xs) → HasOpen (drop (i + 1) xs)
      of (inl q) = absurd (not_both f (test.1 (subst (λ (c : Candidate I D). IsUnfinished c) (sym q) was.2)))
      of (inr p) = (was.0, p, was.2)

  pub none_open : length xs ≤ i → (HasOpen xs → HasOpen (drop i xs)) → (false ≡ true) ↔ HasOpen xs
  none_open l left = (λ r. absurd (cc), λ h. let was = left h in absurd (none_left xs i was.0 l was.1))

-- ---- the items that are still to come

module _ {A : Type 0} where
  pub all_to_come : (whole left : List A) (n k : ℕ) → n ≡ length whole → left ≡ whole → k ≡ n → k ≡ length left
  all_to_come whole left n k count all same = same ∙ (count ∙ ap length (sym all))

  pub one_less : (left rest : List A) (x : A) (n k : ℕ) → n ≡ length left → left ≡ x ∷ rest → k + 1 ≡ n → k ≡ length rest
  one_less left rest x n k count taken less = (let e : length left ≡ suc (length rest) = ap length taken in omega (arith, count, less, e))

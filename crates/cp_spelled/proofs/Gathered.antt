-- The locals of a form that has each number with one sort: each stands in the list of them, and each of these stands in the form.
use Rattle.std.proofs.Common.{◌≡◌, ◌⊎◌, inl, inr, ℕ, suc, ◌+◌, List, [], ◌∷◌, ◌++◌, length, Bool, true, false, ◌==◌, ◌||◌, if◌then◌else◌, eqb-true, eq-eqb, refl, sym, ap, ◌∙◌, arith}
use Rattle.std.specs.Prelude.{Some}
use Rattle.std.proofs.lemmas.List.{append_assoc, append-nil}
use Rattle.cp_lists.specs.Lists.{item_at, IsIn, here, there}
use Rattle.cp_lists.proofs.Members.{in_pushed, of_each}
use Rattle.cp_lists.proofs.Appended.{length_pushed, none_in_both}
use Rattle.cp_base.specs.declared.place.Place.{Place}
use Rattle.cp_model.specs.Same.{same_sort}
use Rattle.cp_model.proofs.SameTests.{sort_is}
use Rattle.cp_model.specs.declared.variable.Variable.{Variable}
use Rattle.cp_report.specs.declared.locals.LocalAt.{LocalAt}
use Rattle.cp_report.specs.Misfits.{misfit_unless}
use Rattle.cp_report.specs.Spelled.{keeps_sort, has_local, locals_onto, clash_misfits, place_of_local, variables_of_locals}
use Rattle.cp_spelled.proofs.GatheredLocals.{added, clash-added}

pub holds : (b : Bool) (at : Place) → misfit_unless b at ≡ [] → b ≡ true
holds true at e = refl
holds false at e = absurd (cc)

-- ---- each local stands in the list

abbrev IsFound : List Variable → Variable → Type 0
IsFound ls l = item_at ls (place_of_local ls l.number) ≡ Some l

found-behind : (front bs : List Variable) (l : Variable) → IsFound front l → IsFound (front ++ bs) l
found-behind [] bs l e = absurd (cc)
found-behind (a ∷ front) bs l e = by_test (a.number == l.number) (found-behind front bs l) e
  where
    by_test : (b : Bool) → (IsFound front l → IsFound (front ++ bs) l) → item_at (a ∷ front) (if b then 0 else suc (place_of_local front l.number)) ≡ Some l
        → item_at (a ∷ (front ++ bs)) (if b then 0 else suc (place_of_local (front ++ bs) l.number)) ≡ Some l
    by_test true rest i = i
    by_test false rest i = rest i

found-kept : (ls : List Variable) (l : Variable) → has_local ls l.number ≡ true → keeps_sort ls l ≡ true → IsFound ls l
found-kept [] l h k = absurd (cc)
found-kept (m ∷ ms) l h k = by_test (m.number == l.number) refl (found-kept ms l) h k
  where
    by_test : (b : Bool) → (m.number == l.number) ≡ b → (has_local ms l.number ≡ true → keeps_sort ms l ≡ true → IsFound ms l) → (b || has_local ms l.number) ≡ true → (if b then same_sort m.sort l.sort else keeps_sort ms l) ≡ true
        → item_at (m ∷ ms) (if b then 0 else suc (place_of_local ms l.number)) ≡ Some l
    by_test true e rest i j =
        let numbers = eqb-true m.number l.number e in
        let sorts = sort_is m.sort l.sort j in
        λ n. Some (record { sort = sorts n; number = numbers n })
    by_test false e rest i j = rest i j

same_itself : (n : ℕ) → (n == n) ≡ true
same_itself n = eq-eqb n n refl

found-last : (ls : List Variable) (l : Variable) → has_local ls l.number ≡ false → IsFound (ls ++ l ∷ []) l
found-last [] l h = ap (λ b. item_at (l ∷ []) (if b then 0 else 1)) (same_itself l.number)
found-last (m ∷ ms) l h = by_test (m.number == l.number) (found-last ms l) h
  where
    by_test : (b : Bool) → (has_local ms l.number ≡ false → IsFound (ms ++ l ∷ []) l) → (b || has_local ms l.number) ≡ false
        → item_at (m ∷ (ms ++ l ∷ [])) (if b then 0 else suc (place_of_local (ms ++ l ∷ []) l.number)) ≡ Some l
    by_test true rest i = absurd (cc)
    by_test false rest i = rest i

found-added : (ls : List Variable) (l : Variable) → keeps_sort ls l ≡ true → IsFound (added ls l) l
found-added ls l k = by_test (has_local ls l.number) refl
  where
    by_test : (b : Bool) → has_local ls l.number ≡ b → IsFound (if b then ls else ls ++ l ∷ []) l
    by_test true e = found-kept ls l e k
    by_test false e = found-last ls l e

found-more : (ls : List Variable) (l m : Variable) → IsFound ls l → IsFound (added ls m) l
found-more ls l m h = by_test (has_local ls m.number)
  where
    by_test : (b : Bool) → IsFound (if b then ls else ls ++ m ∷ []) l
    by_test true = h
    by_test false = found-behind ls (m ∷ []) l h

found-onto : (rest : List LocalAt) (ls : List Variable) (l : Variable) → IsFound ls l → IsFound (locals_onto ls rest) l
found-onto [] ls l h = h
found-onto (m ∷ ms) ls l h = found-onto ms (added ls m.local) l (found-more ls l m.local h)

found-all : (rest : List LocalAt) (ls : List Variable) (l : LocalAt) → clash_misfits ls rest ≡ [] → IsIn l rest → IsFound (locals_onto ls rest) l.local
found-all [] ls l e m = elim m [ ]
found-all (k ∷ ks) ls l e m =
    of_each (λ (j : LocalAt). IsFound (locals_onto (added ls k.local) ks) j.local) (found-onto ks (added ls k.local) k.local (found-added ls k.local (holds (keeps_sort ls k.local) k.place parts.0)))
    (λ i. found-all ks (added ls k.local) l later i) m
  where
    parts : (misfit_unless (keeps_sort ls k.local) k.place ≡ []) × (clash_misfits (ls ++ k.local ∷ []) ks ≡ [])
    parts = none_in_both (misfit_unless (keeps_sort ls k.local) k.place) (clash_misfits (ls ++ k.local ∷ []) ks) e

    later : clash_misfits (added ls k.local) ks ≡ []
    later = sym (clash-added ls k.local ks) ∙ parts.1

pub each-found : (all : List LocalAt) (l : LocalAt) → clash_misfits [] all ≡ [] → IsIn l all → item_at (locals_onto [] all) (place_of_local (locals_onto [] all) l.local.number) ≡ Some l.local
each-found all l e m = found-all all [] l e m

-- ---- no number stands twice in the list

abbrev AreApart : List Variable → List Variable → Type 0
AreApart before [] = Unit {0}
AreApart before (l ∷ ls) = (has_local before l.number ≡ false) × AreApart (before ++ l ∷ []) ls

apart-last : (before ls : List Variable) (m : Variable) → AreApart before ls → has_local (before ++ ls) m.number ≡ false → AreApart before (ls ++ m ∷ [])
apart-last before [] m h e = (ap (λ ks. has_local ks m.number) (sym (append-nil before)) ∙ e, tt)
apart-last before (l ∷ ls) m h e = (h.0, apart-last (before ++ l ∷ []) ls m h.1 (ap (λ ks. has_local ks m.number) (append_assoc before (l ∷ []) ls) ∙ e))

apart-added : (ls : List Variable) (m : Variable) → AreApart [] ls → AreApart [] (added ls m)
apart-added ls m h = by_test (has_local ls m.number) refl
  where
    by_test : (b : Bool) → has_local ls m.number ≡ b → AreApart [] (if b then ls else ls ++ m ∷ [])
    by_test true e = h
    by_test false e = apart-last [] ls m h e

apart-onto : (rest : List LocalAt) (ls : List Variable) → AreApart [] ls → AreApart [] (locals_onto ls rest)
apart-onto [] ls h = h
apart-onto (m ∷ ms) ls h = apart-onto ms (added ls m.local) (apart-added ls m.local h)

place-first : (front : List Variable) (l : Variable) (bs : List Variable) → has_local front l.number ≡ false → place_of_local (front ++ l ∷ bs) l.number ≡ length front
place-first [] l bs e = ap (λ b. if b then 0 else suc (place_of_local bs l.number)) (same_itself l.number)
place-first (a ∷ front) l bs e = by_test (a.number == l.number) (place-first front l bs) e
  where
    by_test : (b : Bool) → (has_local front l.number ≡ false → place_of_local (front ++ l ∷ bs) l.number ≡ length front) → (b || has_local front l.number) ≡ false
        → (if b then 0 else suc (place_of_local (front ++ l ∷ bs) l.number)) ≡ suc (length front)
    by_test true rest i = absurd (cc)
    by_test false rest i = ap suc (rest i)

-- A variable of the list is that of one of the locals.
pub record IsOfLocal (count : ℕ) (ls bs : List Variable) (x : Variable) : Type 0 where
  pub local : Variable
  pub listed : IsIn local bs
  pub is : x ≡ record { sort = local.sort; number = count + place_of_local ls local.number }

of-local : (count : ℕ) (ls front bs : List Variable) (n : ℕ) (x : Variable) → ls ≡ front ++ bs → AreApart front bs → n ≡ count + length front → IsIn x (variables_of_locals n bs) → IsOfLocal count ls bs x
of-local count ls front [] n x e h g m = elim m [ ]
of-local count ls front (b ∷ bs) n x e h g m =
    of_each (IsOfLocal count ls (b ∷ bs)) (record { local = b; listed = here; is = λ i. record { sort = b.sort; number = number i } })
    (λ k. behind (of-local count ls (front ++ b ∷ []) bs (suc n) x (e ∙ sym (append_assoc front (b ∷ []) bs)) h.1 next k)) m
  where
    number : n ≡ count + place_of_local ls b.number
    number = g ∙ ap (λ p. count + p) (sym (ap (λ ks. place_of_local ks b.number) e ∙ place-first front b bs h.0))

    next : suc n ≡ count + length (front ++ b ∷ [])
    next = let last = length_pushed front b in omega (arith, g, last)

    behind : IsOfLocal count ls bs x → IsOfLocal count ls (b ∷ bs) x
    behind one = record { local = one.local; listed = there one.listed; is = one.is }

record StandsIn (l : Variable) (rest : List LocalAt) : Type 0 where
  pub found : LocalAt
  pub listed : IsIn found rest
  pub is : found.local ≡ l

stands-onto : (rest : List LocalAt) (ls : List Variable) (l : Variable) → IsIn l (locals_onto ls rest) → IsIn l ls ⊎ StandsIn l rest
stands-onto [] ls l m = inl m
stands-onto (k ∷ ks) ls l m = of_rest (stands-onto ks (added ls k.local) l m)
  where
    of_added : (b : Bool) → IsIn l (if b then ls else ls ++ k.local ∷ []) → IsIn l ls ⊎ StandsIn l (k ∷ ks)
    of_added true i = inl i
    of_added false i = of_pushed (in_pushed ls k.local l i)
      where
        of_pushed : IsIn l ls ⊎ (k.local ≡ l) → IsIn l ls ⊎ StandsIn l (k ∷ ks)
        of_pushed (inl j) = inl j
        of_pushed (inr e) = inr (record { found = k; listed = here; is = e })

    of_rest : IsIn l (added ls k.local) ⊎ StandsIn l ks → IsIn l ls ⊎ StandsIn l (k ∷ ks)
    of_rest (inl i) = of_added (has_local ls k.local.number) i
    of_rest (inr s) = inr (record { found = s.found; listed = there s.listed; is = s.is })

-- Each variable of the list is that of a local of the form.
pub record IsOfOne (count : ℕ) (ls : List Variable) (all : List LocalAt) (x : Variable) : Type 0 where
  pub found : LocalAt
  pub listed : IsIn found all
  pub is : x ≡ record { sort = found.local.sort; number = count + place_of_local ls found.local.number }

pub each-stands : (count : ℕ) (all : List LocalAt) (x : Variable) → IsIn x (variables_of_locals count (locals_onto [] all)) → IsOfOne count (locals_onto [] all) all x
each-stands count all x m =
    let one = of-local count (locals_onto [] all) [] (locals_onto [] all) count x refl (apart-onto all [] tt) (omega arith) m in
    of_either one (stands-onto all [] one.local one.listed)
  where
    of_either : (one : IsOfLocal count (locals_onto [] all) (locals_onto [] all) x) → IsIn one.local [] ⊎ StandsIn one.local all → IsOfOne count (locals_onto [] all) all x
    of_either one (inl i) = elim i [ ]
    of_either one (inr s) = record {
      found = s.found;
      listed = s.listed;
      is = one.is ∙ ap (λ (l : Variable). record { sort = l.sort; number = count + place_of_local (locals_onto [] all) l.number }) (sym s.is);
    }

-- Locals that are gathered, each number once, and those that have another sort.
use Rattle.std.proofs.Common.{◌≡◌, ℕ, suc, ◌+◌, ◌<◌, ◌≤◌, List, [], ◌∷◌, ◌++◌, length, get_or, drop, Bool, true, false, ◌==◌, ◌||◌, if◌then◌else◌, is_some, eqb-true, refl, sym, ap, ◌∙◌}
use Rattle.std.specs.Prelude.{Option, Some, None}
use Rattle.std.proofs.lemmas.List.{drop_all}
use Rattle.cp_lists.proofs.Members.{drop_read}
use Rattle.cp_base.specs.declared.place.Place.{Place}
use Rattle.cp_model.specs.declared.sort.Sort.{Sort}
use Rattle.cp_model.specs.declared.variable.Variable.{Variable}
use Rattle.cp_model.specs.Same.{same_sort}
use Rattle.cp_report.specs.declared.locals.LocalAt.{LocalAt}
use Rattle.cp_report.specs.Misfits.{place_before, misfit_unless}
use Rattle.cp_report.specs.Spelled.{keeps_sort, has_local, locals_onto, clash_misfits}
use Rattle.cp_spelled.specs.FirstMisfit.{first_onto}
use Rattle.cp_spelled.specs.Tables.{local_from}
use Rattle.cp_scope.proofs.FirstOf.{first_onto-append}
use Rattle.cp_scope.proofs.NamesInUse.{otherwise, otherwise-none, one_more, some_otherwise}

-- the sort with which a number stands first
abbrev first_sort : List Variable → ℕ → Option Sort
first_sort [] n = None
first_sort (l ∷ ls) n = if l.number == n then Some l.sort else first_sort ls n

abbrev kept_by : Option Sort → Sort → Bool
kept_by None s = true
kept_by (Some r) s = same_sort r s

keeps-first : (ls : List Variable) (l : Variable) → keeps_sort ls l ≡ kept_by (first_sort ls l.number) l.sort
keeps-first [] l = refl
keeps-first (m ∷ ms) l = by_test (m.number == l.number) (keeps-first ms l)
  where
    by_test : (b : Bool) → keeps_sort ms l ≡ kept_by (first_sort ms l.number) l.sort
        → (if b then same_sort m.sort l.sort else keeps_sort ms l) ≡ kept_by (if b then Some m.sort else first_sort ms l.number) l.sort
    by_test true e = refl
    by_test false e = e

has-first : (ls : List Variable) (n : ℕ) → has_local ls n ≡ is_some (first_sort ls n)
has-first [] n = refl
has-first (m ∷ ms) n = by_test (m.number == n) (has-first ms n)
  where
    by_test : (b : Bool) → has_local ms n ≡ is_some (first_sort ms n) → (b || has_local ms n) ≡ is_some (if b then Some m.sort else first_sort ms n)
    by_test true e = refl
    by_test false e = e

first-append : (ls : List Variable) (l : Variable) (n : ℕ) → first_sort (ls ++ l ∷ []) n ≡ otherwise (first_sort ls n) (if l.number == n then Some l.sort else None)
first-append [] l n = refl
first-append (m ∷ ms) l n = one_more (m.number == n) m.sort _ _ _ (first-append ms l n)

-- each number stands first with the same sort
abbrev Alike : List Variable → List Variable → Type 0
Alike bs cs = (n : ℕ) → first_sort bs n ≡ first_sort cs n

alike_behind : (bs cs : List Variable) (l : Variable) → Alike bs cs → Alike (bs ++ l ∷ []) (cs ++ l ∷ [])
alike_behind bs cs l h n = first-append bs l n ∙ ap (λ o. otherwise o (if l.number == n then Some l.sort else None)) (h n) ∙ sym (first-append cs l n)

clash-alike : (bs cs : List Variable) (ls : List LocalAt) → Alike bs cs → clash_misfits bs ls ≡ clash_misfits cs ls
clash-alike bs cs [] h = refl
clash-alike bs cs (l ∷ ls) h =
    ap (λ b. misfit_unless b l.place ++ clash_misfits (bs ++ l.local ∷ []) ls) (keeps-first bs l.local ∙ ap (λ o. kept_by o l.local.sort) (h l.local.number) ∙ sym (keeps-first cs l.local))
    ∙ ap (λ rest. misfit_unless (keeps_sort cs l.local) l.place ++ rest) (clash-alike (bs ++ l.local ∷ []) (cs ++ l.local ∷ []) ls (alike_behind bs cs l.local h))

-- A local whose number stood before changes nothing.
stays : (b : Bool) (n m : ℕ) (s : Sort) (o : ℕ → Option Sort) → (m == n) ≡ b → is_some (o m) ≡ true → otherwise (o n) (if b then Some s else None) ≡ o n
stays true n m s o e h = some_otherwise (o n) (Some s) (ap (λ k. is_some (o k)) (sym (eqb-true m n e)) ∙ h)
stays false n m s o e h = otherwise-none (o n)

abbrev pub added : List Variable → Variable → List Variable
added ls l = if has_local ls l.number then ls else ls ++ l ∷ []

alike_added : (ls : List Variable) (l : Variable) → Alike (ls ++ l ∷ []) (added ls l)
alike_added ls l = by_test (has_local ls l.number) refl
  where
    by_test : (b : Bool) → has_local ls l.number ≡ b → Alike (ls ++ l ∷ []) (if b then ls else ls ++ l ∷ [])
    by_test true e n = first-append ls l n ∙ stays (l.number == n) n l.number l.sort (first_sort ls) refl (sym (has-first ls l.number) ∙ e)
    by_test false e n = refl

pub clash-added : (ls : List Variable) (l : Variable) (rest : List LocalAt) → clash_misfits (ls ++ l ∷ []) rest ≡ clash_misfits (added ls l) rest
clash-added ls l rest = clash-alike (ls ++ l ∷ []) (added ls l) rest (alike_added ls l)

pub keeps-found : (ls : List Variable) (l : Variable) (x : Variable) → Some x ≡ local_from 0 ls l.number → same_sort x.sort l.sort ≡ keeps_sort ls l
keeps-found ls l x e = at_place 0 ls e
  where
    at_place : (k : ℕ) (ms : List Variable) → Some x ≡ local_from k ms l.number → same_sort x.sort l.sort ≡ keeps_sort ms l
    at_place k [] g = absurd (cc)
    at_place k (m ∷ ms) g = by_test (m.number == l.number) (at_place (suc k) ms) g
      where
        by_test : (b : Bool) → (Some x ≡ local_from (suc k) ms l.number → same_sort x.sort l.sort ≡ keeps_sort ms l) → Some x ≡ (if b then Some (record { sort = m.sort; number = k }) else local_from (suc k) ms l.number)
            → same_sort x.sort l.sort ≡ (if b then same_sort m.sort l.sort else keeps_sort ms l)
        by_test true rest i = let same : x ≡ record { sort = m.sort; number = k } = cc in ap (λ (y : Variable). same_sort y.sort l.sort) same
        by_test false rest i = rest i

pub keeps-missing : (ls : List Variable) (l : Variable) → None ≡ local_from 0 ls l.number → true ≡ keeps_sort ls l
keeps-missing ls l e = at_place 0 ls e
  where
    at_place : (k : ℕ) (ms : List Variable) → None ≡ local_from k ms l.number → true ≡ keeps_sort ms l
    at_place k [] g = refl
    at_place k (m ∷ ms) g = by_test (m.number == l.number) (at_place (suc k) ms) g
      where
        by_test : (b : Bool) → (None ≡ local_from (suc k) ms l.number → true ≡ keeps_sort ms l) → None ≡ (if b then Some (record { sort = m.sort; number = k }) else local_from (suc k) ms l.number)
            → true ≡ (if b then same_sort m.sort l.sort else keeps_sort ms l)
        by_test true rest i = absurd (cc)
        by_test false rest i = rest i

-- ---- one after another

module _ (fs : List LocalAt) (k : ℕ) where
  pub clash-taken : (f : LocalAt) → k < length fs → f ≡ get_or fs k f → (ls ms : List Variable) (o p all : Option Place) (keeps : Bool) → ms ≡ added ls f.local
      → keeps ≡ keeps_sort ls f.local → p ≡ first_onto o (misfit_unless keeps f.place)
      → first_onto o (clash_misfits ls (drop k fs)) ≡ all → first_onto p (clash_misfits ms (drop (k + 1) fs)) ≡ all
  clash-taken f h e ls ms o p all keeps g b q i =
      let l = f.local in
      let rest = drop (k + 1) fs in
      ap (λ x. first_onto p (clash_misfits x rest)) g
      ∙ ap (first_onto p) (sym (clash-added ls l rest))
      ∙ ap (λ x. first_onto x (clash_misfits (ls ++ l ∷ []) rest)) (q ∙ ap (λ d. first_onto o (misfit_unless d f.place)) b)
      ∙ sym (first_onto-append place_before o (misfit_unless (keeps_sort ls l) f.place) (clash_misfits (ls ++ l ∷ []) rest))
      ∙ sym (ap (λ gs. first_onto o (clash_misfits ls gs)) (drop_read fs k f h e)) ∙ i

  pub onto-taken : (f : LocalAt) → k < length fs → f ≡ get_or fs k f → (ls ms all : List Variable) → ms ≡ added ls f.local
      → locals_onto ls (drop k fs) ≡ all → locals_onto ms (drop (k + 1) fs) ≡ all
  onto-taken f h e ls ms all g i =
      ap (λ x. locals_onto x (drop (k + 1) fs)) g ∙ sym (ap (λ gs. locals_onto ls gs) (drop_read fs k f h e)) ∙ i

  pub clash-done : length fs ≤ k → (ls : List Variable) (o all : Option Place) → first_onto o (clash_misfits ls (drop k fs)) ≡ all → o ≡ all
  clash-done h ls o all i = ap (λ gs. first_onto o (clash_misfits ls gs)) (sym (drop_all k fs h)) ∙ i

  pub onto-done : length fs ≤ k → (ls all : List Variable) → locals_onto ls (drop k fs) ≡ all → ls ≡ all
  onto-done h ls all i = ap (λ gs. locals_onto ls gs) (sym (drop_all k fs h)) ∙ i

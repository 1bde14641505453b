-- Children that are made until one gives a pattern.
use Rattle.std.proofs.Common.{append_assoc, ◌≡◌, ℕ, zero, suc, ◌+◌, ◌<◌, ◌≤◌, List, [], ◌∷◌, ◌++◌, length, take, map, get_or, Option, Some, None, sym, ap, ◌∙◌, subst, ⊎_elim, arith}
use Rattle.cp_lists.specs.Lists.{item_at, IsIn}
use Rattle.cp_lists.proofs.Items.{place_of, item_below, item_of_read, item_in_front}
use Rattle.cp_lists.proofs.Least.{less_or_same}
use Rattle.cp_model.specs.Problem.{numbers_from}
use Rattle.cp_model.specs.Strand.{Role, Protocol}
use Rattle.cp_model.specs.Tree.{Pattern}
use Rattle.cp_cohort.specs.declared.widening.Widening.{Widening}
use Rattle.cp_cohort.specs.GatheredLists.{EachGives, nothing_given, then_given, StartsGiving, starts_here, starts_later}
use Rattle.cp_cohort.specs.CoveringChildren.{Child}
use Rattle.cp_cohort.specs.Cohort.{GuardedTest, AreContracted, DisplacesStrand, AddsEvent, StartsEvent, AreFirstAdded, AreListeners, IsCohort}
use Rattle.cp_cohort.specs.Views.{PutsChildren}
use Rattle.cp_cohort.specs.Widening.{NoneGives, IsGiven, FindsWidening, PutsUntil, IsCohortUntil}
use Rattle.cp_cohort.proofs.ChildLists.{gives_all, puts_other, puts_nothing, puts_next, puts_last}
use Rattle.cp_cohort.proofs.FourLists.{all_put}

-- ---- what the first items give

pub starts_at : {A B : Type 0} {gives starts : A → List B → Type 0} (xs : List A) (i : ℕ) (x : A) → item_at xs i ≡ Some x → (ys zs : List B) → EachGives gives (take i xs) ys → starts x zs → StartsGiving gives starts xs (ys ++ zs)
starts_at [] i x e ys zs g s = absurd (cc)
starts_at {gives = gives} {starts = starts} (y ∷ xs) zero x e _ zs nothing_given s = let same : y ≡ x = cc in subst (λ v. StartsGiving gives starts (v ∷ xs) zs) (sym same) (starts_here s)
starts_at {gives = gives} {starts = starts} (y ∷ xs) (suc i) x e _ zs (then_given {ys = bs} {zs = cs} h rest) s =
    subst (StartsGiving gives starts (y ∷ xs)) (sym (append_assoc bs cs zs)) (starts_later h (starts_at xs i x e cs zs rest s))

pub starts_all : {A B C : Type 0} (gives starts : A → List B → Type 0) (f : C → A) {xs : List C} {ys : List B} → StartsGiving (λ x. gives (f x)) (λ x. starts (f x)) xs ys → StartsGiving gives starts (map f xs) ys
starts_all gives starts f (starts_here s) = starts_here s
starts_all gives starts f (starts_later h rest) = starts_later h (starts_all gives starts f rest)

-- What the events of a role give, and what the first of them do.
abbrev pub EventsOf : GuardedTest → Role → List Child → Type 0
EventsOf q role = EachGives (AddsEvent q role) (numbers_from 0 role.trace)

abbrev pub FirstEventsOf : GuardedTest → Role → List Child → Type 0
FirstEventsOf q role = StartsGiving (AddsEvent q role) (StartsEvent q role) (numbers_from 0 role.trace)

module _ (source : Child → Pattern → Type 0) where
  -- ---- children that give no pattern

  pub none_at_first : (cs : List Child) → NoneGives source cs 0
  none_at_first cs i c p below at gives = absurd (omega (arith, below))

  pub none_next : (cs : List Child) (n : ℕ) (child : Child) → n < length cs → child ≡ get_or cs n child → ((p : Pattern) → source child p → ⊥) → NoneGives source cs n → NoneGives source cs (n + 1)
  none_next cs n child below is none before i c p under at gives =
      ⊎_elim (λ less. before i c p less at gives)
      (λ same. let here : item_at cs n ≡ Some child = item_of_read cs n child below is in
      let there : item_at cs n ≡ Some c = rw same at at in
      let e : child ≡ c = cc in none p (subst (λ d. source d p) (sym e) gives))
      (less_or_same i n (omega (arith, under)))

  pub none_to_end : (cs : List Child) (n : ℕ) → length cs ≤ n → NoneGives source cs n → NoneGives source cs (length cs)
  none_to_end cs n whole none i c p below at gives = none i c p (omega (arith, below, whole)) at gives

  pub none_listed : (cs : List Child) → NoneGives source cs (length cs) → (c : Child) (p : Pattern) → IsIn c cs → source c p → ⊥
  none_listed cs none c p listed gives =
      let place = place_of listed in
      none place.0 c p (item_below cs place.0 c place.1) place.1 gives

  pub given_at : (cs : List Child) (n : ℕ) (child : Child) (p : Pattern) → n < length cs → child ≡ get_or cs n child → source child p → NoneGives source cs n → IsGiven source cs n p
  given_at cs n child p below is gives none = record { child = child; at = item_of_read cs n child below is; gives_it = gives; first = none }

  none_in_front : (old added new : List Child) → new ≡ old ++ added → NoneGives source old (length old) → NoneGives source new (length old)
  none_in_front old added new behind none i c p below at gives =
      none i c p below (sym (item_in_front old added i below) ∙ ap (λ cs. item_at cs i) (sym behind) ∙ at) gives

  -- ---- what is put until a child gives one

  pub until_put : (gives : List Child → Type 0) (old new : List Child) (found : Option Widening) (n : ℕ) → n ≡ length old → PutsChildren gives old new → (NoneGives source new n → FindsWidening source new found) → PutsUntil source gives gives old new found
  until_put gives old new None n is p finds = record { puts = p; finds = λ none. finds (subst (NoneGives source new) (sym is) (none_in_front old p.added new p.behind none)) }
  until_put gives old new (Some w) n is p finds = record { puts = p; finds = λ none. finds (subst (NoneGives source new) (sym is) (none_in_front old p.added new p.behind none)) }

  pub until_nothing : {all first : List Child → Type 0} (old : List Child) → all [] → PutsUntil source all first old old None
  until_nothing old given = record { puts = puts_nothing old given; finds = λ none. none }

  pub until_other : {P Q R S : List Child → Type 0} (old new : List Child) (found : Option Widening) → ((cs : List Child) → P cs → R cs) → ((cs : List Child) → Q cs → S cs) → PutsUntil source P Q old new found → PutsUntil source R S old new found
  until_other old new None f g p = record { puts = puts_other old new f p.puts; finds = p.finds }
  until_other old new (Some w) f g p = record { puts = puts_other old new g p.puts; finds = p.finds }

  module _ {A : Type 0} (gives starts : A → List Child → Type 0) (xs : List A) where
    -- What the first items give, none of which gives a pattern.
    abbrev pub PutsFirst : ℕ → List Child → List Child → Type 0
    PutsFirst i old new = PutsUntil source (EachGives gives (take i xs)) (EachGives gives (take i xs)) old new None

    pub until_first : (old : List Child) → PutsFirst 0 old old
    until_first old = until_nothing old nothing_given

    pub until_next : (i : ℕ) (x : A) → item_at xs i ≡ Some x → (old mid new : List Child) → PutsFirst i old mid → PutsUntil source (gives x) (starts x) mid new None → PutsFirst (i + 1) old new
    until_next i x e old mid new p q = record { puts = puts_next gives xs i x e old mid new p.puts q.puts; finds = λ none. q.finds (p.finds none) }

    pub until_found : (i : ℕ) (x : A) → item_at xs i ≡ Some x → (old mid new : List Child) (w : Widening) → PutsFirst i old mid → PutsUntil source (gives x) (starts x) mid new (Some w) →
        PutsUntil source (EachGives gives xs) (StartsGiving gives starts xs) old new (Some w)
    until_found i x e old mid new w p q = record {
      puts = record {
        added = p.puts.added ++ q.puts.added;
        behind = q.puts.behind ∙ ap (λ zs. zs ++ q.puts.added) p.puts.behind ∙ append_assoc old p.puts.added q.puts.added;
        given = starts_at xs i x e p.puts.added q.puts.added p.puts.given q.puts.given;
      };
      finds = λ none. q.finds (p.finds none);
    }

    pub until_last : (n : ℕ) → length xs ≤ n → (old new : List Child) → PutsFirst n old new → PutsUntil source (EachGives gives xs) (StartsGiving gives starts xs) old new None
    until_last n h old new p = record { puts = puts_last gives xs n h old new p.puts; finds = p.finds }

  pub until_of_map : {A C : Type 0} (gives starts : A → List Child → Type 0) (f : C → A) (xs : List C) (old new : List Child) (found : Option Widening) →
      PutsUntil source (EachGives (λ x. gives (f x)) xs) (StartsGiving (λ x. gives (f x)) (λ x. starts (f x)) xs) old new found → PutsUntil source (EachGives gives (map f xs)) (StartsGiving gives starts (map f xs)) old new found
  until_of_map gives starts f xs old new found = until_other old new found (gives_all gives f xs) (λ cs s. starts_all gives starts f s)

  -- ---- the cohort

  module _ (protocol : Protocol) (q : GuardedTest) where
    abbrev AreAdded : List Child → Type 0
    AreAdded = EachGives (EventsOf q) protocol.roles

    pub until_whole : (start added none one two three four : List Child) → start ≡ [] → PutsUntil source AreAdded (AreFirstAdded protocol q) start added None → none ≡ [] → PutsChildren (AreContracted q) none one →
        PutsChildren (EachGives (DisplacesStrand q) (numbers_from 0 q.skeleton.strands)) one two → three ≡ two ++ added → PutsChildren (AreListeners q) three four → IsCohortUntil source protocol q four None
    until_whole start added none one two three four begins adds empty a b behind d =
        let same : added ≡ adds.puts.added = adds.puts.behind ∙ ap (λ cs. cs ++ adds.puts.added) begins in
        let all : AreAdded added = subst AreAdded (sym same) adds.puts.given in (
          all_put protocol q none one two three four empty a b (record { added = added; behind = behind; given = all }) d,
          none_listed added (adds.finds (subst (λ cs. NoneGives source cs (length cs)) (sym begins) (none_at_first []))),
        )

    pub until_some : (start added : List Child) (w : Widening) → start ≡ [] → PutsUntil source AreAdded (AreFirstAdded protocol q) start added (Some w) → IsCohortUntil source protocol q added (Some w)
    until_some start added w begins adds =
        let same : added ≡ adds.puts.added = adds.puts.behind ∙ ap (λ cs. cs ++ adds.puts.added) begins in
        (subst (AreFirstAdded protocol q) (sym same) adds.puts.given, adds.finds (subst (λ cs. NoneGives source cs (length cs)) (sym begins) (none_at_first [])))

-- ---- no child gives a pattern

-- What is put until no pattern is given is all of it.
pub until_none : {all first : List Child → Type 0} (old new : List Child) (found : Option Widening) → PutsUntil (λ c p. ⊥) all first old new found → PutsChildren all old new
until_none old new None p = p.puts
until_none old new (Some w) p = absurd ((p.finds (λ i c q below at none. none)).gives_it)

pub whole_cohort : (protocol : Protocol) (q : GuardedTest) (cs : List Child) (found : Option Widening) → IsCohortUntil (λ c p. ⊥) protocol q cs found → IsCohort protocol q cs
whole_cohort protocol q cs None is = is.0
whole_cohort protocol q cs (Some w) is = absurd (is.1.gives_it)

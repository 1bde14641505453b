-- Lists of children that grow, item by item.
use Rattle.std.proofs.Common.{append_assoc, ◌≡◌, ℕ, ◌+◌, ◌<◌, ◌≤◌, List, [], ◌∷◌, ◌++◌, length, take, map, Some, sym, ap, ◌∙◌, subst, add-one, arith}
use Rattle.std.proofs.lemmas.List.{append-nil, take_all}
use Rattle.cp_model.specs.Problem.{numbers_from}
use Rattle.cp_model.proofs.NumbersFrom.{numbers_length}
use Rattle.cp_collapse.proofs.Lowest.{numbers_at}
use Rattle.cp_lists.specs.Lists.{item_at}
use Rattle.cp_lists.proofs.Items.{take_to_item}
use Rattle.cp_cohort.specs.GatheredLists.{EachGives, nothing_given, then_given}
use Rattle.cp_cohort.specs.CoveringChildren.{Child}
use Rattle.cp_cohort.specs.Views.{PutsChildren}

-- ---- what items give

module _ {A B : Type 0} (gives : A → List B → Type 0) where
  pub one_more : {xs : List A} {ys : List B} (x : A) (bs : List B) → EachGives gives xs ys → gives x bs → EachGives gives (xs ++ x ∷ []) (ys ++ bs)
  one_more x bs nothing_given g = subst (λ zs. EachGives gives (x ∷ []) zs) (append-nil bs) (then_given g nothing_given)
  one_more x bs (then_given {x = y} {xs = ys} {ys = cs} {zs = ds} h rest) g =
      subst (λ zs. EachGives gives (y ∷ (ys ++ x ∷ [])) zs) (sym (append_assoc cs ds bs)) (then_given h (one_more x bs rest g))

  pub each_nothing : (xs : List A) → ((x : A) → gives x []) → EachGives gives xs []
  each_nothing [] h = nothing_given
  each_nothing (x ∷ xs) h = then_given (h x) (each_nothing xs h)

  pub gives_all : {C : Type 0} (f : C → A) (xs : List C) (ys : List B) → EachGives (λ x. gives (f x)) xs ys → EachGives gives (map f xs) ys
  gives_all f _ _ nothing_given = nothing_given
  gives_all f _ _ (then_given {xs = xs} {zs = zs} h rest) = then_given h (gives_all f xs zs rest)

-- ---- what is put

pub puts_other : {P Q : List Child → Type 0} (old new : List Child) → ((cs : List Child) → P cs → Q cs) → PutsChildren P old new → PutsChildren Q old new
puts_other old new f p = record { added = p.added; behind = p.behind; given = f p.added p.given }

pub puts_nothing : {P : List Child → Type 0} (old : List Child) → P [] → PutsChildren P old old
puts_nothing old p = record { added = []; behind = sym (append-nil old); given = p }

module _ {A : Type 0} (gives : A → List Child → Type 0) (xs : List A) where
  pub puts_first : (old : List Child) → PutsChildren (EachGives gives (take 0 xs)) old old
  puts_first old = puts_nothing old nothing_given

  pub puts_next : (i : ℕ) (x : A) → item_at xs i ≡ Some x → (old mid new : List Child) → PutsChildren (EachGives gives (take i xs)) old mid → PutsChildren (gives x) mid new → PutsChildren (EachGives gives (take (i + 1) xs)) old new
  puts_next i x e old mid new p q = record {
    added = p.added ++ q.added;
    behind = q.behind ∙ ap (λ zs. zs ++ q.added) p.behind ∙ append_assoc old p.added q.added;
    given = subst (λ zs. EachGives gives zs (p.added ++ q.added)) (sym (ap (λ n. take n xs) (add-one i) ∙ take_to_item xs i x e)) (one_more gives x q.added p.given q.given);
  }

  pub puts_last : (n : ℕ) → length xs ≤ n → (old new : List Child) → PutsChildren (EachGives gives (take n xs)) old new → PutsChildren (EachGives gives xs) old new
  puts_last n h old new p = puts_other old new (λ cs e. subst (λ zs. EachGives gives zs cs) (take_all n xs h) e) p

-- ---- numbers

pub number_there : {A : Type 0} (xs : List A) (i : ℕ) → i < length xs → item_at (numbers_from 0 xs) i ≡ Some i
number_there xs i lt = let e : 0 + i ≡ i = omega arith in numbers_at 0 xs i lt ∙ ap (λ (n : ℕ). Some n) e

pub numbers_past : {A : Type 0} (xs : List A) (n : ℕ) → length xs ≤ n → length (numbers_from 0 xs) ≤ n
numbers_past xs n past = let e : length (numbers_from 0 xs) ≡ length xs = numbers_length 0 xs in omega (arith, e, past)

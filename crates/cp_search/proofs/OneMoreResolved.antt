-- One label more is resolved, and labels are made behind others.
use Rattle.std.proofs.Common.{◌≡◌, ℕ, suc, ◌+◌, ◌<◌, ◌≤◌, List, [], ◌∷◌, ◌++◌, length, map, Option, sym, ap, subst, ◌∙◌, refl, arith}
use Rattle.std.proofs.lemmas.List.{append_assoc, append-nil}
use Rattle.cp_model.specs.Strand.{Protocol}
use Rattle.cp_model.specs.Problem.{numbers_from}
use Rattle.cp_model.specs.Tree.{Label, is_expanded, expanded_count}
use Rattle.cp_model.specs.declared.tree.Mark.{Mark}
use Rattle.cp_model.specs.declared.tree.Limits.{Limits}
use Rattle.cp_tree.specs.Made.{Made, LabelLink}
use Rattle.cp_tree.specs.Searched.{Resolves, AreResolved, all_settled, then_settled, children_of}
use Rattle.cp_search.proofs.Links.{still_found, resolves_alike}

-- ---- lists

pub numbers_of_map : {A B : Type 0} (f : A → B) (n : ℕ) (xs : List A) → numbers_from n (map f xs) ≡ numbers_from n xs
numbers_of_map f n [] = refl
numbers_of_map f n (x ∷ xs) = ap (λ ns. n ∷ ns) (numbers_of_map f (suc n) xs)

pub children_behind : (ls : List Label) (l : Label) → children_of (ls ++ l ∷ []) ≡ children_of ls ++ l.children
children_behind [] l = append-nil l.children
children_behind (x ∷ ls) l = ap (λ ns. x.children ++ ns) (children_behind ls l) ∙ sym (append_assoc x.children (children_of ls) l.children)

pub count_behind : (ls : List Label) (l : Label) → expanded_count (ls ++ l ∷ []) ≡ expanded_count ls + is_expanded l.test
count_behind [] l = let n = is_expanded l.test in omega arith
count_behind (x ∷ ls) l = let e = count_behind ls l in omega (arith, e)

module _ (protocol : Protocol) (limits : Limits) (marks : ℕ → Option Mark → Type 0) (links : List LabelLink) where
  -- ---- one more

  last_resolved : (i before n c : ℕ) (m : Made) (l : Label) (gives : List Made) → n ≡ i → c ≡ before → Resolves protocol limits links marks n c m l gives → AreResolved protocol limits links marks i before (m ∷ []) (l ∷ []) gives
  last_resolved i before n c m l gives e f b =
      subst (AreResolved protocol limits links marks i before (m ∷ []) (l ∷ [])) (append-nil gives)
      (then_settled (subst (λ (a : ℕ). Resolves protocol limits links marks i a m l gives) f (subst (λ (a : ℕ). Resolves protocol limits links marks a c m l gives) e b)) all_settled)

  pub one_more : (i before n c : ℕ) (made : List Made) (labels : List Label) (given : List Made) (m : Made) (l : Label) (gives : List Made) → AreResolved protocol limits links marks i before made labels given
      → n ≡ i + length made → c ≡ before + expanded_count labels → Resolves protocol limits links marks n c m l gives → AreResolved protocol limits links marks i before (made ++ m ∷ []) (labels ++ l ∷ []) (given ++ gives)
  one_more i before n c made labels given m l gives all_settled e f b = last_resolved i before n c m l gives (omega (arith, e)) (omega (arith, f)) b
  one_more i before n c made labels given m l gives (then_settled {m = x} {l = y} {made = ms} {labels = ls} {from_this = fs} {from_others = gs} a s) e f b =
      subst (AreResolved protocol limits links marks i before (x ∷ (ms ++ m ∷ [])) (y ∷ (ls ++ l ∷ []))) (sym (append_assoc fs gs gives))
      (then_settled a (one_more (suc i) (before + is_expanded y.test) n c ms ls gs m l gives s (omega (arith, e)) (omega (arith, f)) b))

  -- ---- labels behind

  module _ (more : List LabelLink) where
    pub resolved_still : (i before : ℕ) (made : List Made) (labels : List Label) (given : List Made) → i + length made ≤ length links → AreResolved protocol limits links marks i before made labels given → AreResolved protocol limits (links ++ more) marks i before made labels given
    resolved_still i before made labels given w all_settled = all_settled
    resolved_still i before made labels given w (then_settled {m = m} {l = l} {made = ms} {labels = ls} {from_this = fs} {from_others = gs} b s) =
        let within : i < length links = omega (arith, w) in
        then_settled (resolves_alike protocol limits marks links (links ++ more) i before m l fs (still_found links more i within) b) (resolved_still (suc i) (before + is_expanded l.test) ms ls gs (omega (arith, w)) s)

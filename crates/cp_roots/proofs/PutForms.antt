-- Normal forms that are put behind other roots.
use Rattle.cp_model.specs.declared.variable.Declaration.{Declaration}
use Rattle.std.proofs.Common.{◌≡◌, ◌⊎◌, inl, inr, ℕ, List, [], ◌∷◌, ◌++◌, map, length, reverse, nat_eq, true, false, refl, sym, ap, ap₂, ◌∙◌, subst, append_assoc}
use Rattle.std.proofs.lemmas.List.{reverse-reverse, append-nil}
use Rattle.cp_lists.specs.Lists.{IsIn, here}
use Rattle.cp_model.specs.Skeleton.{Skeleton}
use Rattle.cp_model.specs.declared.tree.Operation.{Operation}
use Rattle.cp_model.specs.declared.tree.Operation.TheVariants.{Problem as by_problem, Collapsed as by_collapse}
use Rattle.cp_lists.proofs.Members.{in_append, in_append_left, in_append_right, from_reverse, only_item}
use Rattle.cp_lists.proofs.Appended.{some_counted, next_first}
use Rattle.cp_fingerprint.specs.FirstPlaces.{firsts}
use Rattle.cp_roots.specs.Roots.{Root, in_report_order, living}
use Rattle.cp_skel.specs.Tables.{HaveTable}
use Rattle.cp_roots.specs.GatheredRoots.{RootsHave, AreNormalForms, PutsForms, PutsCollapse, AreFirstRoots}

-- The root that is made so, of this skeleton.
abbrev pub root_of : Operation → Skeleton → Root
root_of by k = record { operation = by; skeleton = k; dead = false }

-- ---- lists

-- Roots with one more.
have_more : (variables : List Declaration) (old new : List Root) (r : Root) → new ≡ old ++ r ∷ [] → r.skeleton.variables ≡ variables → RootsHave variables old → RootsHave variables new
have_more variables old new r e same have s i = by (in_append old (r ∷ []) (subst (IsIn s) e i))
  where
    by : IsIn s old ⊎ IsIn s (r ∷ []) → s.skeleton.variables ≡ variables
    by (inl j) = have s j
    by (inr j) = subst (λ (m : Root). m.skeleton.variables ≡ variables) (sym (only_item j)) same

have_last : (variables : List Declaration) (left rest : List Skeleton) (k : Skeleton) → left ≡ rest ++ k ∷ [] → HaveTable variables left → k.variables ≡ variables
have_last variables left rest k e have = have k (subst (IsIn k) (sym e) (in_append_right rest here))

have_front : (variables : List Declaration) (left rest : List Skeleton) (k : Skeleton) → left ≡ rest ++ k ∷ [] → HaveTable variables left → HaveTable variables rest
have_front variables left rest k e have m i = have m (subst (IsIn m) (sym e) (in_append_left (k ∷ []) i))

pub have_reversed : (variables : List Declaration) (all ks : List Skeleton) → all ≡ reverse ks → HaveTable variables ks → HaveTable variables all
have_reversed variables all ks e have k i = have k (from_reverse ks (subst (IsIn k) e i))

-- ---- one after the other

-- Of the forms, which are taken from the end, those that are left are still to be put.
pub record PutsSoFar (by : Operation) (all left : List Skeleton) (start now : List Root) : Type 0 where
  pub roots : now ++ map (living by) (reverse left) ≡ start ++ map (living by) (reverse all)
  pub have : (variables : List Declaration) → RootsHave variables start → HaveTable variables all → RootsHave variables now
  pub left_have : (variables : List Declaration) → HaveTable variables all → HaveTable variables left

pub none_put : (by : Operation) (all : List Skeleton) (roots : List Root) → PutsSoFar by all all roots roots
none_put by all roots = record { roots = refl; have = λ variables old forms. old; left_have = λ variables forms. forms }

-- The last of those that are left is put with its assumptions listed.
pub next_put : (by : Operation) (all left rest : List Skeleton) (start now new : List Root) (how : Operation) (k in_order : Skeleton) → PutsSoFar by all left start now → left ≡ rest ++ k ∷ [] →
    in_order ≡ in_report_order k → in_order.variables ≡ k.variables → how ≡ by → new ≡ now ++ root_of how in_order ∷ [] → PutsSoFar by all rest start new
next_put by all left rest start now new how k in_order part popped same named made e = record {
  roots =
      ap (λ (rs : List Root). rs ++ map (living by) (reverse rest))
      (e ∙ ap₂ (λ o l. now ++ record { operation = o; skeleton = l; dead = false } ∷ []) made same)
      ∙ append_assoc now (living by k ∷ []) (map (living by) (reverse rest))
      ∙ ap (λ (ks : List Skeleton). now ++ map (living by) ks) (sym (next_first left rest k popped))
      ∙ part.roots;
  have = λ variables old forms. have_more variables now new (root_of how in_order) e (named ∙ have_last variables left rest k popped (part.left_have variables forms)) (part.have variables old forms);
  left_have = λ variables forms. have_front variables left rest k popped (part.left_have variables forms);
}

pub all_put : (by : Operation) (forms all left : List Skeleton) (start now : List Root) → all ≡ reverse forms → left ≡ [] → PutsSoFar by all left start now → PutsForms by forms start now
all_put by forms all left start now e done part = record {
  roots =
      sym (append-nil now)
      ∙ ap (λ (ks : List Skeleton). now ++ map (living by) (reverse ks)) (sym done)
      ∙ part.roots
      ∙ ap (λ (ks : List Skeleton). start ++ map (living by) ks) (ap reverse e ∙ reverse-reverse forms);
  variables = λ variables old have. part.have variables old (have_reversed variables all forms e have);
}

-- ---- the first roots, and those of a collapse

module _ (k : Skeleton) (copied : Skeleton) (same : copied ≡ k) (named : copied.variables ≡ k.variables) where
  -- The problem itself, dead.
  pub dead_root : (another : Skeleton) (how : Operation) (forms : List Skeleton) (empty roots : List Root) → forms ≡ [] → AreNormalForms copied forms → another ≡ k → another.variables ≡ k.variables →
      how ≡ by_problem → empty ≡ [] → roots ≡ empty ++ record { operation = how; skeleton = another; dead = true } ∷ [] → AreFirstRoots k k.variables roots
  dead_root another how forms empty roots none are alike names made start e =
      let r : Root = record { operation = how; skeleton = another; dead = true } in
      let one : roots ≡ r ∷ [] = e ∙ ap (λ (rs : List Root). rs ++ r ∷ []) start in
      record {
        forms = [];
        are_forms = subst (λ (l : Skeleton). AreNormalForms l []) same (subst (AreNormalForms copied) none are);
        whole = one ∙ ap (λ o. record { operation = o; skeleton = another; dead = true } ∷ []) made ∙ ap (λ (l : Skeleton). record { operation = by_problem; skeleton = l; dead = true } ∷ []) alike;
        same_variables = have_more k.variables empty roots r e names (λ s i. elim (subst (IsIn s) start i) [ ]);
      }

  -- The normal forms, where there is one.
  some_living : (forms : List Skeleton) (empty roots : List Root) → (forms ≡ [] → ⊥) → AreNormalForms copied forms → ((r : Skeleton) → IsIn r forms → r.variables ≡ copied.variables) →
      empty ≡ [] → PutsForms by_problem forms empty roots → AreFirstRoots k k.variables roots
  some_living [] empty roots none are names start puts = absurd (none refl)
  some_living (f ∷ forms) empty roots none are names start puts = record {
    forms = f ∷ forms;
    are_forms = subst (λ (l : Skeleton). AreNormalForms l (f ∷ forms)) same are;
    whole = puts.roots ∙ ap (λ (rs : List Root). rs ++ map (living by_problem) (f ∷ forms)) start;
    same_variables = puts.variables k.variables (λ s i. elim (subst (IsIn s) start i) [ ]) (λ r i. names r i ∙ named);
  }

  pub living_roots : (forms : List Skeleton) (n : ℕ) (empty roots : List Root) → n ≡ length forms → nat_eq n 0 ≡ false → AreNormalForms copied forms → ((r : Skeleton) → IsIn r forms → r.variables ≡ copied.variables) →
      empty ≡ [] → PutsForms by_problem forms empty roots → AreFirstRoots k k.variables roots
  living_roots forms n empty roots count test = some_living forms empty roots (some_counted forms n count test)

pub collapse_put : (l : Skeleton) (by : Operation) (partition places : List ℕ) (forms : List Skeleton) (old new : List Root) → AreNormalForms l forms → ((r : Skeleton) → IsIn r forms → r.variables ≡ l.variables) →
    places ≡ l.from_problem.strands → partition ≡ firsts places → by ≡ by_collapse partition → PutsForms by forms old new → PutsCollapse l old new
collapse_put l by partition places forms old new are names at read made puts = record {
  forms = forms;
  are_forms = are;
  roots = puts.roots ∙ ap (λ o. old ++ map (living o) forms) (made ∙ ap by_collapse (read ∙ ap firsts at));
  variables = λ variables have same. puts.variables variables have (λ r i. names r i ∙ same);
}

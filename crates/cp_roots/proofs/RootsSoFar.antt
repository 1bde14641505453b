-- The collapses of a problem, whose normal forms are put behind the first roots one after the other.
use Rattle.cp_model.specs.declared.variable.Declaration.{Declaration}
use Rattle.std.proofs.Common.{◌≡◌, List, [], ◌∷◌, ◌++◌, reverse, refl, sym, ap, ◌∙◌, subst, append_assoc}
use Rattle.std.proofs.lemmas.List.{reverse-reverse, append-nil}
use Rattle.cp_lists.specs.Lists.{IsIn, here}
use Rattle.cp_model.specs.Skeleton.{Skeleton}
use Rattle.cp_lists.proofs.Members.{in_append_left, in_append_right}
use Rattle.cp_lists.proofs.Appended.{next_first}
use Rattle.cp_roots.specs.Roots.{Root}
use Rattle.cp_skel.specs.Tables.{HaveTable}
use Rattle.cp_roots.specs.GatheredRoots.{RootsHave, PutsCollapse}
use Rattle.cp_roots.proofs.EachCollapse.{AreOfEach, roots_of, one_more}
use Rattle.cp_roots.proofs.PutForms.{have_reversed}

-- Of the collapses, which are taken from the end, those that are left are still to be done.
pub record AreRootsSoFar (all left : List Skeleton) (start now : List Root) : Type 0 where
  pub done : List Skeleton
  pub others : List Root
  pub of_each : AreOfEach done others
  pub whole : done ++ reverse left ≡ reverse all
  pub roots : now ≡ start ++ others
  pub each_left : (l : Skeleton) → IsIn l left → IsIn l all
  pub have : (variables : List Declaration) → RootsHave variables start → HaveTable variables all → RootsHave variables now

pub none_done : (all : List Skeleton) (start : List Root) → AreRootsSoFar all all start start
none_done all start = record {
  done = [];
  others = [];
  of_each = refl;
  whole = refl;
  roots = sym (append-nil start);
  each_left = λ l i. i;
  have = λ variables roots collapses. roots;
}

module _ (all left rest : List Skeleton) (start now : List Root) (l : Skeleton) (part : AreRootsSoFar all left start now) (popped : left ≡ rest ++ l ∷ []) where
  is_listed : IsIn l all
  is_listed = part.each_left l (subst (IsIn l) (sym popped) (in_append_right rest here))

  pub one_done : (new : List Root) → PutsCollapse l now new → AreRootsSoFar all rest start new
  one_done new puts = record {
    done = part.done ++ l ∷ [];
    others = part.others ++ roots_of l puts.forms;
    of_each = one_more part.done part.others l puts.forms part.of_each puts.are_forms;
    whole =
        append_assoc part.done (l ∷ []) (reverse rest)
        ∙ ap (λ (ks : List Skeleton). part.done ++ ks) (sym (next_first left rest l popped))
        ∙ part.whole;
    roots =
        puts.roots
        ∙ ap (λ (rs : List Root). rs ++ roots_of l puts.forms) part.roots
        ∙ append_assoc start part.others (roots_of l puts.forms);
    each_left = λ m i. part.each_left m (subst (IsIn m) (sym popped) (in_append_left (l ∷ []) i));
    have = λ variables roots collapses. puts.variables variables (part.have variables roots collapses) (collapses l is_listed);
  }

-- All of them are done.
pub record AreRootsOf (collapses : List Skeleton) (start now : List Root) : Type 0 where
  pub others : List Root
  pub of_each : AreOfEach collapses others
  pub roots : now ≡ start ++ others
  pub have : (variables : List Declaration) → RootsHave variables start → HaveTable variables collapses → RootsHave variables now

pub all_done : (collapses all left : List Skeleton) (start now : List Root) → all ≡ reverse collapses → left ≡ [] → AreRootsSoFar all left start now → AreRootsOf collapses start now
all_done collapses all left start now e done part = record {
  others = part.others;
  of_each = subst (λ (ls : List Skeleton). AreOfEach ls part.others)
      (sym (append-nil part.done) ∙ ap (λ (ks : List Skeleton). part.done ++ reverse ks) (sym done) ∙ part.whole ∙ (ap reverse e ∙ reverse-reverse collapses)) part.of_each;
  roots = part.roots;
  have = λ variables roots have. part.have variables roots (have_reversed variables all collapses e have);
}

-- Without collapses the first roots are all.
pub no_others : (start : List Root) → AreRootsOf [] start start
no_others start = record { others = []; of_each = refl; roots = sym (append-nil start); have = λ variables roots collapses. roots }

-- How each label of a tree was made, and that its parent and its children agree with it.
use Rattle.std.proofs.Common.{◌≡◌, ◌⊎◌, inl, inr, ℕ, zero, suc, ◌+◌, List, [], ◌∷◌, length, map, Option, Some, None, refl, sym, ap, ◌∙◌, subst, ⊎_elim, arith}
use Rattle.cp_lists.specs.Lists.{item_at, IsIn, here, there}
use Rattle.cp_lists.proofs.Items.{at_place, item_of_map, front_or_behind}
use Rattle.cp_lists.proofs.Members.{not_in_none, only_item, in_append, from_map}
use Rattle.cp_model.specs.declared.variable.Declaration.{Declaration}
use Rattle.cp_model.specs.Skeleton.{Skeleton}
use Rattle.cp_model.specs.Problem.{numbers_from}
use Rattle.cp_model.specs.Tree.{Label, Tree}
use Rattle.cp_model.specs.declared.tree.Operation.{Operation}
use Rattle.cp_model.specs.declared.tree.Operation.TheVariants.{Problem as by_problem, Collapsed as by_collapse, Contracted as by_contraction, Displaced as by_displacement, AddedStrand as by_added_strand, AddedListener as by_added_listener, Generalised as by_generalising}
use Rattle.cp_model.specs.declared.tree.Limits.{Limits}
use Rattle.cp_skel.specs.Tables.{DiffersInTable}
use Rattle.cp_collapse.specs.Collapses.{AreCollapsesBy, no_collapses, collapse_by}
use Rattle.cp_roots.specs.declared.root.Root.{Root}
use Rattle.cp_roots.specs.Roots.{living, in_report_order, first_roots, AreFormsOfCollapses, forms_of_one, AreRoots}
use Rattle.cp_roots.specs.Roots as rooting
use Rattle.cp_cohort.specs.declared.child.Child.{Child}
use Rattle.cp_expansion.specs.Expansion.{guarded_test_about, Expansion, IsExpansionOf, AreWidened, has_most, none_widens, one_widens}
use Rattle.cp_cohort.specs.Cohort.{GuardedTest, IsCohort}
use Rattle.cp_tree.specs.Made.{Made, made_of_root, made_of_child, LabelLink, link_of}
use Rattle.cp_tree.specs.Searched.{IsMarkedAmong, IsTreeFrom}
use Rattle.cp_tree.proofs.MadeChildren.{child_label}
use Rattle.cp_tree.proofs.Placed.{children_are}
use Rattle.cp_tree.proofs.Settled.{IsOfMade, IsMadeOfChild, IsMadeOfGeneralisation, made_from}
use Rattle.cp_tree.proofs.SoundLabels.{made, settled_here, of_made_here, label_here}
use Rattle.cp_language.specs.Problems.{Problem}
use Rattle.cp_report.specs.FittingTrees.{IsPartitionOf, IsOperationOn, HasParent, IsParentOf, AreChildrenOf}
use Rattle.cp_printable.proofs.NamedChildren.{NamesIn, named_child}

-- ---- roots

-- The operation is one by which a root is made, of a problem of so many strands.
abbrev IsOfRoot : ℕ → Operation → Type 0
IsOfRoot n by_problem = Unit {0}
IsOfRoot n (by_collapse ps) = IsPartitionOf n ps
IsOfRoot n (by_contraction x) = ⊥
IsOfRoot n (by_displacement x) = ⊥
IsOfRoot n (by_added_strand s) = ⊥
IsOfRoot n (by_added_listener s) = ⊥
IsOfRoot n by_generalising = ⊥

module _ (k : Skeleton) where
  abbrev AreOfRoots : List Root → Type 0
  AreOfRoots roots = (r : Root) → IsIn r roots → IsOfRoot (length k.strands) r.operation

  living_of : (by : Operation) (ls : List Skeleton) → IsOfRoot (length k.strands) by → AreOfRoots (map (living by) ls)
  living_of by ls is r i = let m = from_map (living by) ls i in subst (λ (x : Root). IsOfRoot (length k.strands) x.operation) m.2 is

  first_of : (forms : List Skeleton) → AreOfRoots (first_roots k forms)
  first_of [] r i = let same = only_item i in subst (λ (x : Root). IsOfRoot (length k.strands) x.operation) (sym same) tt
  first_of (f ∷ fs) r i = living_of by_problem (f ∷ fs) tt r i

  -- The roots that are made by collapses are made by their partitions.
  of_partition : (ps : List (List ℕ)) (ls : List Skeleton) (roots : List Root) → AreFormsOfCollapses ps ls roots → (r : Root) → IsIn r roots → (p : List ℕ) × IsIn p ps × (r.operation ≡ by_collapse p)
  of_partition _ _ _ rooting.no_collapses r i = absurd (not_in_none i)
  of_partition _ _ _ (forms_of_one {p = p} {ps = ps} {l = l} {ls = ls} {rs = rs} {roots = more} has rest) r i =
      ⊎_elim
      (λ j. let m = from_map (living (by_collapse p)) rs j in (p, here, ap (λ (x : Root). x.operation) (sym m.2)))
      (λ j. let m = of_partition ps ls more rest r j in (m.0, there m.1, m.2)) (in_append (map (living (by_collapse p)) rs) more i)

  partition_listed : {ps : List (List ℕ)} {ls : List Skeleton} → AreCollapsesBy k ps ls → (p : List ℕ) → IsIn p ps → IsPartitionOf (length k.strands) p
  partition_listed no_collapses p i = absurd (not_in_none i)
  partition_listed (collapse_by c cs) p here = record { each = c.partition.each; lowest = c.partition.lowest }
  partition_listed (collapse_by c cs) p (there i) = partition_listed cs p i

  others_of : (ps : List (List ℕ)) (ls : List Skeleton) (roots : List Root) → AreFormsOfCollapses ps ls roots → AreCollapsesBy k ps ls → AreOfRoots roots
  others_of ps ls roots forms are r i = let m = of_partition ps ls roots forms r i in subst (IsOfRoot (length k.strands)) (sym m.2) (partition_listed are m.0 m.1)

  pub roots_are_of : (roots : List Root) → AreRoots k roots → AreOfRoots roots
  roots_are_of roots are r i =
      ⊎_elim (λ j. first_of are.forms r j) (λ j. others_of are.are_collapses.partitions are.collapses are.others are.of_collapses are.are_collapses.each r j)
      (in_append (first_roots k are.forms) are.others (subst (IsIn r) are.whole i))

-- ---- operation and parent

-- What is asked for of a label's operation and parent.
pub record IsPlaced (p : Problem) (labels : List Label) (i : ℕ) (k : Skeleton) (by : Operation) (parent : Option ℕ) : Type 0 where
  pub operation : IsOperationOn p k by
  pub parents : IsParentOf labels i by parent

-- The table of the skeleton does not matter.
operation_tabled : (p : Problem) (k : Skeleton) (ds : List Declaration) (by : Operation) → IsOperationOn p k by → IsOperationOn p (record k { variables = ds }) by
operation_tabled p k ds by_problem is = is
operation_tabled p k ds (by_collapse ps) is = is
operation_tabled p k ds (by_contraction n) is = is
operation_tabled p k ds (by_displacement n) is = is
operation_tabled p k ds (by_added_strand s) is = is
operation_tabled p k ds (by_added_listener s) is = is
operation_tabled p k ds by_generalising is = is

placed_tabled : {p : Problem} {labels : List Label} {i : ℕ} {k l : Skeleton} {by : Operation} {m : Option ℕ} → DiffersInTable k l → IsPlaced p labels i k by m → IsPlaced p labels i l by m
placed_tabled {p = p} {labels = labels} {i = i} {k = k} {l = l} {by = by} {m = m} differs is =
    subst (λ (y : Skeleton). IsPlaced p labels i y by m) (sym differs) (record { operation = operation_tabled p k l.variables by is.operation; parents = is.parents })

same_placed : {p : Problem} {labels : List Label} {i : ℕ} {k l : Skeleton} {by of : Operation} {m n : Option ℕ} → DiffersInTable k l → of ≡ by → n ≡ m → IsPlaced p labels i k by m → IsPlaced p labels i l of n
same_placed {p = p} {labels = labels} {i = i} {k = k} {l = l} {by = by} {of = of} {n = n} differs same_by same_m is =
    placed_tabled {p = p} {labels = labels} {i = i} {k = k} {l = l} {by = of} {m = n} differs (subst (λ (y : Operation). IsPlaced p labels i k y n) (sym same_by) (subst (IsPlaced p labels i k by) (sym same_m) is))

root_placed : (p : Problem) (labels : List Label) (i : ℕ) (k : Skeleton) (by : Operation) → IsOfRoot (length p.skeleton.strands) by → IsPlaced p labels i k by None
root_placed p labels i k by_problem is = record { operation = tt; parents = refl }
root_placed p labels i k (by_collapse ps) is = record { operation = is; parents = refl }
root_placed p labels i k (by_contraction n) is = absurd is
root_placed p labels i k (by_displacement n) is = absurd is
root_placed p labels i k (by_added_strand s) is = absurd is
root_placed p labels i k (by_added_listener s) is = absurd is
root_placed p labels i k by_generalising is = absurd is

step_placed : (p : Problem) (labels : List Label) (i : ℕ) (k : Skeleton) (by : Operation) (parent : Option ℕ) → NamesIn k by → HasParent labels i parent → IsPlaced p labels i k by parent
step_placed p labels i k by_problem parent is has = absurd is
step_placed p labels i k (by_collapse ps) parent is has = absurd is
step_placed p labels i k (by_contraction n) parent is has = record { operation = is; parents = has }
step_placed p labels i k (by_displacement n) parent is has = record { operation = is; parents = has }
step_placed p labels i k (by_added_strand s) parent is has = record { operation = is; parents = has }
step_placed p labels i k (by_added_listener s) parent is has = record { operation = is; parents = has }
step_placed p labels i k by_generalising parent is has = absurd is

-- A skeleton whose assumptions stand in the order of a report has the same strands.
named_in : (k : Skeleton) (by : Operation) → NamesIn k by → NamesIn (in_report_order k) by
named_in k by_problem is = is
named_in k (by_collapse ps) is = is
named_in k (by_contraction n) is = is
named_in k (by_displacement n) is = is
named_in k (by_added_strand s) is = is
named_in k (by_added_listener s) is = is
named_in k by_generalising is = is

-- ---- numbers in a row

number_at : {A : Type 0} (n a m : ℕ) (xs : List A) → item_at (numbers_from n xs) a ≡ Some m → m ≡ n + a
number_at n a m [] e = absurd (cc)
number_at n zero m (x ∷ xs) e = let same : n ≡ m = cc in omega (arith, same)
number_at n (suc a) m (x ∷ xs) e = let later = number_at (suc n) a m xs e in omega (arith, later)

numbered_once : {A : Type 0} (n : ℕ) (xs : List A) (a b m : ℕ) → item_at (numbers_from n xs) a ≡ Some m → item_at (numbers_from n xs) b ≡ Some m → a ≡ b
numbered_once n xs a b m d e = let first = number_at n a m xs d in let second = number_at n b m xs e in omega (arith, first, second)

module _ (p : Problem) (limits : Limits) (roots : List Root) (tree : Tree) (are : AreRoots p.skeleton roots) (from : IsTreeFrom p.protocol p.variables limits roots tree) where
  abbrev MadeHere : List Made
  MadeHere = made p.protocol p.variables limits roots tree from

  abbrev links : List LabelLink
  links = map link_of tree.labels

  -- ---- a label that was made from another

  -- The last test of an expansion has its children.
  last_cohort : {q last : GuardedTest} {children : List Child} → AreWidened p.protocol q last children → IsCohort p.protocol last children
  last_cohort (has_most most is) = is
  last_cohort (none_widens fewer is none) = is
  last_cohort (one_widens fewer is first w rest) = last_cohort rest

  child_placed : (i j : ℕ) (k : Skeleton) (e : Expansion) → IsExpansionOf p.protocol k e → (c : Child) → IsIn c e.children → HasParent tree.labels j (Some i)
      → IsPlaced p tree.labels j (made_of_child i c).skeleton (made_of_child i c).operation (made_of_child i c).parent
  child_placed i j k e is c listed has =
      let m = made_of_child i c in
      step_placed p tree.labels j m.skeleton c.operation (Some i) (named_in c.skeleton c.operation (named_child (guarded_test_about e.skeleton e.test e.patterns) p.protocol e.children (last_cohort is.widened) c listed)) has

  abbrev IsPlacedMade : ℕ → Made → Type 0
  IsPlacedMade j x = IsPlaced p tree.labels j x.skeleton x.operation x.parent

  given_placed : (i j : ℕ) (so x : Made) → x.parent ≡ Some i → IsMadeOfChild p.protocol limits links (IsMarkedAmong from.candidates) i so x ⊎ IsMadeOfGeneralisation p.protocol limits links (IsMarkedAmong from.candidates) i so x
      → HasParent tree.labels j (Some i) → IsPlacedMade j x
  given_placed i j so x parent (inl c) has = subst (IsPlacedMade j) c.is_made (child_placed i j so.skeleton c.expansion c.is_expansion c.child c.listed has)
  given_placed i j so x parent (inr c) has = subst (IsPlacedMade j) c.is_made (record { operation = tt; parents = has })

  -- ---- all labels

  made_placed : (i : ℕ) (l : Label) → item_at tree.labels i ≡ Some l → (m : Made) → item_at MadeHere i ≡ Some m → l.parent ≡ m.parent → IsPlacedMade i m
  made_placed i l at m made_at same =
      ⊎_elim
      (λ (front : item_at (map made_of_root roots) i ≡ Some m).
      let r = item_of_map made_of_root roots i m front in
      subst (IsPlacedMade i) r.2 (root_placed p tree.labels i r.0.skeleton r.0.operation (roots_are_of p.skeleton roots are r.0 (at_place roots i r.0 r.1))))
      (λ (listed : IsIn m from.children).
      let f = made_from p.protocol limits links (IsMarkedAmong from.candidates) 0 0 MadeHere tree.labels from.children from.settled m listed in
      let number : f.place ≡ f.number = (let w = f.number_is in omega (arith, w)) in
      let parent = label_here p.protocol p.variables limits roots tree from f.number f.so (subst (λ (n : ℕ). item_at MadeHere n ≡ Some f.so) number f.at_made) in
      let child : IsIn i parent.0.children = (children_are p.protocol p.variables limits roots tree from f.number i parent.0 l parent.1 at).1 (same ∙ f.is_made.parent) in
      given_placed f.number i f.so m f.is_made.parent f.is_made.way (parent.0, parent.1, child))
      (front_or_behind (map made_of_root roots) from.children i m made_at)

  pub label_placed : (i : ℕ) (l : Label) → item_at tree.labels i ≡ Some l → IsPlaced p tree.labels i l.skeleton l.operation l.parent
  label_placed i l at =
      let s = settled_here p.protocol p.variables limits roots tree from i l at in
      let o : IsOfMade p.protocol limits links (IsMarkedAmong from.candidates) s.expanded_before s.so l s.gives = of_made_here p.protocol p.variables limits roots tree from i l s in
      same_placed {k = s.so.skeleton} {l = l.skeleton} o.skeleton o.operation o.parent (made_placed i l at s.so s.at_made o.parent)

  -- ---- children

  pub label_children : (i : ℕ) (l : Label) → item_at tree.labels i ≡ Some l → AreChildrenOf tree.labels i l.children
  label_children i l at =
      let s = settled_here p.protocol p.variables limits roots tree from i l at in
      record {
        each = λ n listed. child_label p.protocol p.variables limits roots tree from i n l s listed;
        once = subst (λ (ns : List ℕ). (a b n : ℕ) → item_at ns a ≡ Some n → item_at ns b ≡ Some n → a ≡ b) (sym s.numbers) (numbered_once (length roots + s.offset) s.gives);
      }

-- The labels of the roots come first, and each other label is a child of the one from which it was made.
use Rattle.std.proofs.Common.{◌≡◌, ◌↔◌, ℕ, suc, ◌+◌, List, ◌∷◌, length, map, Option, Some, None, refl, sym, ap, ◌∙◌, subst, ⊎_elim, arith}
use Rattle.std.proofs.lemmas.List.{length-map}
use Rattle.cp_lists.specs.Lists.{item_at, IsIn}
use Rattle.cp_lists.proofs.Items.{at_place, map_of_item, item_of_map, item_still, item_in_parts}
use Rattle.cp_lists.proofs.SameLists.{same_parts}
use Rattle.cp_model.specs.Strand.{Protocol}
use Rattle.cp_model.specs.declared.variable.Declaration.{Declaration}
use Rattle.cp_model.specs.Skeleton.{Skeleton}
use Rattle.cp_model.specs.Problem.{numbers_from}
use Rattle.cp_model.specs.Tree.{Label, Tree, is_expanded}
use Rattle.cp_model.specs.declared.tree.Mark.{Mark}
use Rattle.cp_model.specs.declared.tree.Limits.{Limits}
use Rattle.cp_model.proofs.NumbersFrom.{numbers_length}
use Rattle.cp_skel.specs.Tables.{DiffersInTable}
use Rattle.cp_roots.specs.declared.root.Root.{Root}
use Rattle.cp_tree.specs.Made.{Made, made_of_root, LabelLink, link_of}
use Rattle.cp_tree.specs.Searched.{AreResolved, all_settled, then_settled, IsMarkedAmong, children_of, IsTreeFrom}
use Rattle.cp_tree.specs.Placed.{IsLabelOfRoot, RootsAreFirst}
use Rattle.cp_tree.proofs.ByRule.{becomes}
use Rattle.cp_tree.proofs.Numbered.{numbers_append, number_there}
use Rattle.cp_tree.proofs.Settled.{IsOfMade, of_made, made_of}
use Rattle.cp_tree.proofs.SoundLabels.{made, SettledHere, settled_here, of_made_here, same_here, parent_here, made_label}
use Rattle.cp_tree.proofs.MadeChildren.{child_label}

module _ (protocol : Protocol) (limits : Limits) (links : List LabelLink) (marks : ℕ → Option Mark → Type 0) where
  -- A label of which something made is the child with this number.
  record HasChild (i n : ℕ) (labels : List Label) (x : Made) : Type 0 where
    place : ℕ
    label : Label
    at : item_at labels place ≡ Some label
    listed : IsIn n label.children
    number : ℕ
    number_is : number ≡ i + place
    parent : x.parent ≡ Some number

  child_later : (i n : ℕ) (l : Label) (labels : List Label) (x : Made) → HasChild (suc i) n labels x → HasChild i n (l ∷ labels) x
  child_later i n l labels x h = record { place = suc h.place; label = h.label; at = h.at; listed = h.listed; number = h.number; number_is = (let w = h.number_is in omega (arith, w)); parent = h.parent }

  has_child : (i before n : ℕ) (made : List Made) (labels : List Label) (given : List Made) → AreResolved protocol limits links marks i before made labels given → children_of labels ≡ numbers_from n given
      → (q : ℕ) (x : Made) → item_at given q ≡ Some x → HasChild i (n + q) labels x
  has_child i before n made labels given all_settled e q x at = absurd (cc)
  has_child i before n made labels given (then_settled {m = m} {l = l} {made = ms} {labels = ls} {from_this = fs} {from_others = gs} b s) e q x at =
      let parts = same_parts l.children (numbers_from n fs) (children_of ls) (numbers_from (n + length fs) gs) ((of_made protocol limits links marks i before m l fs (becomes protocol limits links marks i before m l fs b)).count ∙ sym (numbers_length n fs)) (e ∙ numbers_append n (n + length fs) fs gs refl) in
      let first : l.children ≡ numbers_from n fs = parts.0 in
      let rest : children_of ls ≡ numbers_from (n + length fs) gs = parts.1 in
      ⊎_elim
      (λ (front : item_at fs q ≡ Some x). record {
        place = 0;
        label = l;
        at = refl;
        listed = subst (λ (ns : List ℕ). IsIn (n + q) ns) (sym first) (number_there n q fs x front);
        number = i;
        number_is = omega arith;
        parent = (made_of protocol limits links marks i before m l fs x (becomes protocol limits links marks i before m l fs b) (at_place fs q x front)).parent;
      })
      (λ (r : (p : ℕ) × (q ≡ length fs + p) × (item_at gs p ≡ Some x)).
      let place : (n + length fs) + r.0 ≡ n + q = (let w = r.1 in omega (arith, w)) in
      child_later i (n + q) l ls x (subst (λ (a : ℕ). HasChild (suc i) a ls x) place (has_child (suc i) (before + is_expanded l.test) (n + length fs) ms ls gs s rest r.0 x r.2)))
      (item_in_parts fs gs q x at)

module _ (protocol : Protocol) (variables : List Declaration) (limits : Limits) (roots : List Root) (tree : Tree) (from : IsTreeFrom protocol variables limits roots tree) where
  abbrev links : List LabelLink
  links = map link_of tree.labels

  pub label_of_root : (i : ℕ) (root : Root) (l : Label) (s : SettledHere protocol variables limits roots tree from i l) → s.so ≡ made_of_root root → IsIn root roots → IsLabelOfRoot variables root l
  label_of_root i root l s same listed =
      let is : IsOfMade protocol limits links (IsMarkedAmong from.candidates) s.expanded_before s.so l s.gives = of_made_here protocol variables limits roots tree from i l s in
      record {
        no_parent = is.parent ∙ ap (λ (m : Made). m.parent) same;
        operation = is.operation ∙ ap (λ (m : Made). m.operation) same;
        skeleton = subst (λ (m : Made). DiffersInTable m.skeleton l.skeleton) same is.skeleton;
        declared = λ e. ap (λ (k : Skeleton). k.variables) (same_here protocol variables limits roots tree from i l s e) ∙ ap (λ (m : Made). m.skeleton.variables) same ∙ from.declared root listed;
      }

  pub roots_are_first : RootsAreFirst variables roots tree.labels
  roots_are_first = record {
    there = λ i root at.
        let front : item_at (map made_of_root roots) i ≡ Some (made_of_root root) = map_of_item made_of_root roots i root at in
        let m = made_label protocol variables limits roots tree from i (made_of_root root) (item_still (map made_of_root roots) from.children i (made_of_root root) front) in
        (m.label, m.at, label_of_root i root m.label m.settled m.same (at_place roots i root at));
  }

  -- What was made from a label is its child.
  listed_where_made : (i j : ℕ) (l : Label) (x : Made) → item_at tree.labels i ≡ Some l → item_at (made protocol variables limits roots tree from) j ≡ Some x → x.parent ≡ Some i → IsIn j l.children
  listed_where_made i j l x at made_at parent =
      ⊎_elim
      (λ (front : item_at (map made_of_root roots) j ≡ Some x).
      let r = item_of_map made_of_root roots j x front in
      let none : x.parent ≡ None = ap (λ (m : Made). m.parent) (sym r.2) in
      absurd (let e : None ≡ Some i = sym none ∙ parent in cc))
      (λ (r : (q : ℕ) × (j ≡ length (map made_of_root roots) + q) × (item_at from.children q ≡ Some x)).
      let h = has_child protocol limits links (IsMarkedAmong from.candidates) 0 0 (length roots) (made protocol variables limits roots tree from) tree.labels from.children from.settled from.numbers r.0 x r.2 in
      let both : Some h.number ≡ Some i = sym h.parent ∙ parent in
      let place : h.place ≡ i = (let a : h.number ≡ i = cc in let b = h.number_is in omega (arith, a, b)) in
      let labels_same : Some h.label ≡ Some l = sym h.at ∙ (ap (item_at tree.labels) place ∙ at) in
      let same : h.label ≡ l = cc in
      let number : length roots + r.0 ≡ j = (let a = r.1 in let b : length (map made_of_root roots) ≡ length roots = length-map roots made_of_root in omega (arith, a, b)) in
      subst (λ (n : ℕ). IsIn n l.children) number (subst (λ (y : Label). IsIn (length roots + r.0) y.children) same h.listed))
      (item_in_parts (map made_of_root roots) from.children j x made_at)

  parent_where_listed : (i j : ℕ) (l m : Label) → item_at tree.labels i ≡ Some l → item_at tree.labels j ≡ Some m → IsIn j l.children → m.parent ≡ Some i
  parent_where_listed i j l m at au p =
      let c = child_label protocol variables limits roots tree from i j l (settled_here protocol variables limits roots tree from i l at) p in
      let both : Some c.0 ≡ Some m = sym c.1 ∙ au in
      let same : c.0 ≡ m = cc in
      ap (λ (x : Label). x.parent) (sym same) ∙ c.2

  pub children_are : (i j : ℕ) (l m : Label) → item_at tree.labels i ≡ Some l → item_at tree.labels j ≡ Some m → (IsIn j l.children ↔ (m.parent ≡ Some i))
  children_are i j l m at au =
      let s = settled_here protocol variables limits roots tree from j m au in
      (λ p. parent_where_listed i j l m at au p, λ e. listed_where_made i j l s.so at s.at_made (sym (parent_here protocol variables limits roots tree from j m s) ∙ e))

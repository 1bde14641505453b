-- The next label is resolved: what is known of a search stays true.
use Rattle.std.proofs.Common.{◌≡◌, ⊎_elim, ℕ, suc, ◌+◌, ◌<◌, ◌≤◌, List, [], ◌∷◌, ◌++◌, length, map, take, Some, sym, ap, subst, ◌∙◌, refl, arith}
use Rattle.std.specs.Prelude.{nat_lt}
use Rattle.std.proofs.lemmas.List.{append_assoc, length-append, length-map, map-append, take-append-le, length-take-le}
use Rattle.cp_lists.specs.Lists.{item_at}
use Rattle.cp_lists.proofs.Items.{item_below, item_still, item_in_front, item_of_push, map_of_item, take_to_item}
use Rattle.cp_lists.proofs.Appended.{length_pushed}
use Rattle.cp_model.specs.Strand.{Protocol}
use Rattle.cp_model.specs.Problem.{numbers_from}
use Rattle.cp_model.specs.Tree.{Label, is_expanded, expanded_count}
use Rattle.cp_model.specs.declared.tree.Limits.{Limits}
use Rattle.cp_skel.specs.Tables.{DiffersInTable}
use Rattle.cp_tree.specs.Made as plain
use Rattle.cp_tree.specs.Made.{LabelLink}
use Rattle.cp_tree.specs.declared.rules.Rule.{Rule}
use Rattle.cp_tree.specs.Rules.{rule_of}
use Rattle.cp_tree.specs.Resolves.{ResolvesBy, Resolves}
use Rattle.cp_tree.specs.Searched.{AreResolved, children_of}
use Rattle.cp_tree.proofs.Numbered.{numbers_append}
use Rattle.cp_search.specs.declared.made.Made.{Made}
use Rattle.cp_search.specs.declared.resolved.Resolved.{Resolved}
use Rattle.cp_search.specs.declared.resolved.Resolved.TheVariants as settled
use Rattle.cp_search.specs.declared.expanded.Expanded.{Expanded}
use Rattle.cp_search.specs.MadeLabels.{made_view, made_link, made_untabled, IsFound, AreFound}
use Rattle.cp_search.specs.ResolvedLabels.{facts_of, resolved_label, resolved_labels, label_untabled, IsOpenMark, AreExpandedOf, AreSoundMade, IsSearched}
use Rattle.cp_search.proofs.OneMoreResolved.{numbers_of_map, children_behind, count_behind, one_more, resolved_still}
use Rattle.cp_search.proofs.RuleKept.{link_kept, steps_kept}

pub no_labels : (ms : List Made) → resolved_labels ms [] ≡ []
no_labels [] = refl
no_labels (m ∷ ms) = refl

labels_next : (ms added : List Made) (ss : List Resolved) (m : Made) (s : Resolved) → item_at ms (length ss) ≡ Some m → resolved_labels (ms ++ added) (ss ++ s ∷ []) ≡ resolved_labels ms ss ++ resolved_label m s ∷ []
labels_next [] added ss m s at = absurd (cc)
labels_next (x ∷ ms) added [] m s at =
    let same : x ≡ m = cc in
    ap (λ (ls : List Label). resolved_label x s ∷ ls) (no_labels (ms ++ added)) ∙ ap (λ (y : Made). resolved_label y s ∷ []) same
labels_next (x ∷ ms) added (t ∷ ss) m s at = ap (λ (ls : List Label). resolved_label x t ∷ ls) (labels_next ms added ss m s at)

take_more : {B : Type 0} (f : Made → B) (n : ℕ) (ms added : List Made) (m : Made) → item_at ms n ≡ Some m → take (suc n) (map f (ms ++ added)) ≡ take n (map f ms) ++ f m ∷ []
take_more f n ms added m at =
    let l : n < length ms = item_below ms n m at in
    let e = length-map ms f in
    ap (take (suc n)) (map-append f ms added) ∙ (take-append-le (suc n) (map f ms) (map f added) (omega (arith, l, e)) ∙ take_to_item (map f ms) n (f m) (map_of_item f ms n m at))

module _ (protocol : Protocol) (limits : Limits) (roots : List plain.Made) (ms : List Made) (ss : List Resolved) (n : ℕ) (r : IsSearched protocol limits roots ms ss n) (m : Made) (at : item_at ms (length ss) ≡ Some m) (added : List Made) (s : Resolved) where
  abbrev label : Label
  label = resolved_label m s

  abbrev labels : List Label
  labels = resolved_labels ms ss

  abbrev place : ℕ
  place = length ss

  -- What the rule says of the label.
  abbrev rule : Rule
  rule = rule_of limits n (facts_of m)

  abbrev Here : Type 0
  Here = ResolvesBy protocol IsOpenMark place (made_view m) m.unrealised rule label (map made_view added)

  found_here : IsFound (map made_link ms) place m
  found_here = r.found.each place m at

  resolves_here : Here → Resolves protocol limits (map made_link ms) IsOpenMark place n (made_view m) label (map made_view added)
  resolves_here b = record {
    facts = facts_of m;
    are_facts = record { dead = refl; dead_none = found_here.dead_none; listed = found_here.listed; copy = found_here.seen; strands = refl };
    within = r.within_steps;
    by_rule = b;
  }

  way : Here → label_untabled label ≡ made_untabled m
  way = link_kept protocol place (made_view m) m.unrealised label (map made_view added) m.dead m.seen_in m.unrealised (nat_lt limits.strands (length m.skeleton.strands)) (nat_lt n limits.steps) found_here.dead_unseen

  below : Here → n + is_expanded label.test ≤ limits.steps
  below = steps_kept protocol place (made_view m) m.unrealised label (map made_view added) n limits.steps r.within_steps m.dead m.seen_in m.unrealised (nat_lt limits.strands (length m.skeleton.strands)) (nat_lt n limits.steps) refl

  all_made_next : map made_view (ms ++ added) ≡ roots ++ (r.children ++ map made_view added)
  all_made_next = map-append made_view ms added ∙ (ap (λ (xs : List plain.Made). xs ++ map made_view added) r.all_made ∙ append_assoc roots r.children (map made_view added))

  same_next : ((e : Expanded) → s ≡ settled.Expanded e → DiffersInTable m.skeleton e.skeleton) → AreExpandedOf (ms ++ added) (ss ++ s ∷ [])
  same_next here i x e au there =
      ⊎_elim
      (λ (old : item_at ss i ≡ Some (settled.Expanded e)).
      let l : i < length ss = item_below ss i (settled.Expanded e) old in
      let w : length ss ≤ length ms = r.within in
      r.tables i x e (sym (item_in_front ms added i (omega (arith, l, w))) ∙ au) old)
      (λ (new : (i ≡ length ss) × (s ≡ settled.Expanded e)).
      let p : i ≡ length ss = new.0 in
      let one : Some m ≡ Some x = sym (item_still ms added (length ss) m at) ∙ (ap (item_at (ms ++ added)) (sym p) ∙ au) in
      let same : m ≡ x = cc in
      subst (λ (y : Made). DiffersInTable y.skeleton e.skeleton) same (here e new.1))
      (item_of_push ss s i (settled.Expanded e) there)

  within_next : length (ss ++ s ∷ []) ≤ length (ms ++ added)
  within_next = let l : length ss < length ms = item_below ms (length ss) m at in let e = length_pushed ss s in let f = length-append ms added in omega (arith, l, e, f)

  links_next : label_untabled label ≡ made_untabled m → map label_untabled (resolved_labels (ms ++ added) (ss ++ s ∷ [])) ≡ take (length (ss ++ s ∷ [])) (map made_untabled (ms ++ added))
  links_next way =
      ap (map label_untabled) (labels_next ms added ss m s at) ∙ (map-append label_untabled labels (label ∷ [])
      ∙ (ap (λ (ws : List LabelLink). ws ++ label_untabled label ∷ []) r.links ∙ (ap (λ (w : LabelLink). take place (map made_untabled ms) ++ w ∷ []) way
      ∙ (sym (take_more made_untabled place ms added m at) ∙ ap (λ (k : ℕ). take k (map made_untabled (ms ++ added))) (sym (length_pushed ss s))))))

  as_many : place ≡ 0 + length (take place (map made_view ms))
  as_many =
      let l : length ss ≤ length ms = r.within in
      let e = length-map ms made_view in
      let t = length-take-le place (map made_view ms) (omega (arith, l, e)) in
      omega (arith, t)

  become_in_front : Here
      → AreResolved protocol limits (map made_link ms) IsOpenMark 0 0 (take place (map made_view ms) ++ made_view m ∷ []) (labels ++ label ∷ []) (r.children ++ map made_view added)
  become_in_front b =
      let c = r.counted in
      one_more protocol limits IsOpenMark (map made_link ms) 0 0 place n (take place (map made_view ms)) labels r.children (made_view m) label (map made_view added) r.become as_many (omega (arith, c)) (resolves_here b)

  not_more : 0 + length (take place (map made_view ms) ++ made_view m ∷ []) ≤ length (map made_link ms)
  not_more =
      let l : length ss < length ms = item_below ms (length ss) m at in
      let e = length-map ms made_link in
      let f = length_pushed (take place (map made_view ms)) (made_view m) in
      let g = as_many in
      omega (arith, l, e, f, g)

  become_next : Here
      → AreResolved protocol limits (map made_link (ms ++ added)) IsOpenMark 0 0 (take (length (ss ++ s ∷ [])) (map made_view (ms ++ added))) (resolved_labels (ms ++ added) (ss ++ s ∷ [])) (r.children ++ map made_view added)
  become_next b =
      let given = r.children ++ map made_view added in
      let front = resolved_still protocol limits IsOpenMark (map made_link ms) (map made_link added) 0 0 (take place (map made_view ms) ++ made_view m ∷ []) (labels ++ label ∷ []) given not_more (become_in_front b) in
      let all = subst (λ (ws : List LabelLink). AreResolved protocol limits ws IsOpenMark 0 0 (take place (map made_view ms) ++ made_view m ∷ []) (labels ++ label ∷ []) given) (sym (map-append made_link ms added)) front in
      let made = subst (λ (xs : List plain.Made). AreResolved protocol limits (map made_link (ms ++ added)) IsOpenMark 0 0 xs (labels ++ label ∷ []) given)
      (sym (take_more made_view place ms added m at) ∙ ap (λ (k : ℕ). take k (map made_view (ms ++ added))) (sym (length_pushed ss s))) all in
      subst (λ (ls : List Label). AreResolved protocol limits (map made_link (ms ++ added)) IsOpenMark 0 0 (take (length (ss ++ s ∷ [])) (map made_view (ms ++ added))) ls given) (sym (labels_next ms added ss m s at)) made

  numbers_next : label.children ≡ numbers_from (length ms) added → children_of (resolved_labels (ms ++ added) (ss ++ s ∷ [])) ≡ numbers_from (length roots) (r.children ++ map made_view added)
  numbers_next own =
      let e = length-map ms made_view in
      let f : length (map made_view ms) ≡ length (roots ++ r.children) = ap length r.all_made in
      let g = length-append roots r.children in
      ap children_of (labels_next ms added ss m s at) ∙ (children_behind labels label
      ∙ (ap (λ (ns : List ℕ). ns ++ label.children) r.numbers ∙ (ap (λ (ns : List ℕ). numbers_from (length roots) r.children ++ ns) (own ∙ sym (numbers_of_map made_view (length ms) added))
      ∙ sym (numbers_append (length roots) (length ms) r.children (map made_view added) (omega (arith, e, f, g))))))

  counted_next : expanded_count (resolved_labels (ms ++ added) (ss ++ s ∷ [])) ≡ n + is_expanded label.test
  counted_next = ap expanded_count (labels_next ms added ss m s at) ∙ (count_behind labels label ∙ ap (λ (k : ℕ). k + is_expanded label.test) r.counted)

  pub resolved_next : AreFound (ms ++ added) → AreSoundMade protocol (ms ++ added) → ((e : Expanded) → s ≡ settled.Expanded e → DiffersInTable m.skeleton e.skeleton) → Here → label.children ≡ numbers_from (length ms) added
      → IsSearched protocol limits roots (ms ++ added) (ss ++ s ∷ []) (n + is_expanded label.test)
  resolved_next found sound here b own = record {
    children = r.children ++ map made_view added;
    all_made = all_made_next;
    found = found;
    sound = sound;
    tables = same_next here;
    within = within_next;
    links = links_next (way b);
    become = become_next b;
    numbers = numbers_next own;
    counted = counted_next;
    within_steps = below b;
  }

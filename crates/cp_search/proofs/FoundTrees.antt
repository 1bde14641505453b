-- The tree of a search that has resolved all labels.
use Rattle.std.proofs.Common.{◌≡◌, ◌≢◌, ℕ, ◌<◌, List, ◌++◌, length, map, take, Option, Some, None, sym, ap, subst, ◌∙◌, refl, arith}
use Rattle.std.proofs.lemmas.List.{length-map, take_all}
use Rattle.cp_lists.specs.Lists.{item_at, IsIn}
use Rattle.cp_lists.proofs.Items.{place_of, item_of_map, map_of_item}
use Rattle.cp_lists.proofs.Mapped.{map_then}
use Rattle.cp_model.specs.Strand.{Protocol}
use Rattle.cp_model.specs.declared.variable.Declaration.{Declaration}
use Rattle.cp_model.specs.Skeleton.{Skeleton, IsSkeleton}
use Rattle.cp_model.specs.Problem.{numbers_from}
use Rattle.cp_model.specs.PointOfView.{IsPointOfView, HasDeclaredVariables}
use Rattle.cp_model.specs.Tree.{Label, Tree}
use Rattle.cp_model.specs.declared.tree.Mark.{Mark}
use Rattle.cp_model.specs.declared.tree.Mark.TheVariants.{Dead as dead, Seen as seen}
use Rattle.cp_model.specs.declared.tree.Outcome.{Outcome}
use Rattle.cp_model.specs.declared.tree.Limits.{Limits}
use Rattle.cp_roots.specs.declared.root.Root.{Root}
use Rattle.cp_roots.specs.Sound.{AreSound}
use Rattle.cp_tree.specs.Candidates.{Candidate, IsCandidate, CandidatesFrom, AreCandidates}
use Rattle.cp_tree.specs.Made as plain
use Rattle.cp_tree.specs.Made.{made_of_root, LabelLink, link_of, seen_in_of}
use Rattle.cp_tree.specs.Searched.{AreResolved, IsMarkedAmong, as_shape, as_instance, HasOutcome, IsTreeFrom}
use Rattle.cp_search.specs.declared.made.Made.{Made}
use Rattle.cp_search.specs.declared.resolved.Resolved.{Resolved}
use Rattle.cp_search.specs.Candidates.{open_from}
use Rattle.cp_search.specs.TreeLabels.{labels_with, AreCandidateMarks}
use Rattle.cp_search.specs.MadeLabels.{made_view, made_link, untabled, made_untabled}
use Rattle.cp_search.specs.ResolvedLabels.{resolved_labels, label_untabled, AreSoundRoots, IsSearched}
use Rattle.cp_search.proofs.AlikeLinks.{resolved_there}
use Rattle.cp_search.proofs.FinalLabels.{TakeMarks, marks_taken, children_still, links_still, resolved_marked, candidates_are, open_ones}

-- ---- marks of candidates

module _ (cs : List Candidate) where
  never_seen_in : (i : ℕ) (mark : Option Mark) → IsMarkedAmong cs i mark → seen_in_of mark ≡ None
  never_seen_in i mark (as_shape a s) = refl
  never_seen_in i mark (as_instance a l b) = refl

  never_dead : (i : ℕ) (mark : Option Mark) → IsMarkedAmong cs i mark → mark ≢ Some dead
  never_dead i mark (as_shape a s) = λ e. cc
  never_dead i mark (as_instance a l b) = λ e. cc

  never_seen : (i k : ℕ) (mark : Option Mark) → IsMarkedAmong cs i mark → mark ≢ Some (seen k)
  never_seen i k mark (as_shape a s) = λ e. cc
  never_seen i k mark (as_instance a l b) = λ e. cc

-- ---- the tree

module _ (protocol : Protocol) (limits : Limits) (roots : List Root) (ms : List Made) (ss : List Resolved) (n : ℕ) (r : IsSearched protocol limits (map made_of_root roots) ms ss n) (all : length ss ≡ length ms)
    (marks : List Mark) (are : AreCandidateMarks (open_from 0 ms ss) marks) where
  abbrev cs : List Candidate
  cs = open_from 0 ms ss

  abbrev labels : List Label
  labels = labels_with ms ss marks

  abbrev olds : List Label
  olds = resolved_labels ms ss

  given : TakeMarks (IsMarkedAmong cs) 0 olds labels
  given = marks_taken (IsMarkedAmong cs) 0 ms ss marks are.count are.each

  whole : {B : Type 0} (f : Made → B) → take (length ss) (map f ms) ≡ map f ms
  whole f = take_all (length ss) (map f ms) (let e = length-map ms f in omega (arith, e, all))

  untabled_links : map label_untabled labels ≡ map made_untabled ms
  untabled_links =
      map_then link_of untabled label_untabled (λ l. refl) labels ∙ (ap (map untabled) (links_still (IsMarkedAmong cs) (λ i mark is. never_seen_in cs i (Some mark) is) 0 olds labels given)
      ∙ (sym (map_then link_of untabled label_untabled (λ l. refl) olds) ∙ (r.links ∙ whole made_untabled)))

  alike : map untabled (map made_link ms) ≡ map untabled (map link_of labels)
  alike = sym (map_then made_link untabled made_untabled (λ m. refl) ms) ∙ (sym untabled_links ∙ map_then link_of untabled label_untabled (λ l. refl) labels)

  candidates_so : AreCandidates labels cs
  candidates_so = subst (CandidatesFrom IsCandidate (λ (l : Label). l.skeleton) 0 labels) (open_ones 0 ms ss)
      (candidates_are (IsMarkedAmong cs) protocol limits (map made_link ms) (λ i mark is e. never_dead cs i (Some mark) is (ap Some e)) (λ i k mark is e. never_seen cs i k (Some mark) is (ap Some e))
      0 0 (take (length ss) (map made_view ms)) olds labels r.children r.become given)

  module _ (variables : List Declaration) (named : (root : Root) → IsIn root roots → root.skeleton.variables ≡ variables) where
    all_made : take (length ss) (map made_view ms) ≡ map made_of_root roots ++ r.children
    all_made = whole made_view ∙ r.all_made

    settled : AreResolved protocol limits (map link_of labels) (IsMarkedAmong cs) 0 0 (map made_of_root roots ++ r.children) labels r.children
    settled =
        let marked = resolved_marked (IsMarkedAmong cs) protocol limits (map made_link ms) 0 0 (take (length ss) (map made_view ms)) olds labels r.children r.become given in
        resolved_there (map made_link ms) (map link_of labels) alike protocol limits (IsMarkedAmong cs) 0 0 (map made_of_root roots ++ r.children) labels r.children
        (subst (λ (xs : List plain.Made). AreResolved protocol limits (map made_link ms) (IsMarkedAmong cs) 0 0 xs labels r.children) all_made marked)

    as_many : length (map made_of_root roots) ≡ length roots
    as_many = length-map roots made_of_root

    parents_before : (i j : ℕ) (l : Label) → item_at labels j ≡ Some l → l.parent ≡ Some i → i < j
    parents_before i j l at parent =
        let m = item_of_map made_untabled ms j (label_untabled l) (ap (λ (ws : List LabelLink). item_at ws j) (sym untabled_links) ∙ map_of_item label_untabled labels j l at) in
        let same : made_untabled m.0 ≡ label_untabled l = m.2 in
        r.found.later j i m.0 m.1 (ap (λ (w : LabelLink). w.parent) same ∙ parent)

    found_tree : (outcome : Outcome) → HasOutcome labels outcome → IsTreeFrom protocol variables limits roots (record { labels = labels; outcome = outcome })
    found_tree outcome ends = record {
      declared = named;
      children = r.children;
      candidates = cs;
      are_candidates = candidates_so;
      settled = settled;
      numbers = children_still (IsMarkedAmong cs) 0 olds labels given ∙ (r.numbers ∙ ap (λ (k : ℕ). numbers_from k r.children) as_many);
      parents_first = parents_before;
      outcome = ends;
    }

    -- The tree of the search.
    pub is_tree : (tree : Tree) → tree.labels ≡ labels → HasOutcome tree.labels tree.outcome → IsTreeFrom protocol variables limits roots tree
    is_tree tree e ends =
        let made = found_tree tree.outcome (subst (λ (ls : List Label). HasOutcome ls tree.outcome) e ends) in
        subst (λ (ls : List Label). IsTreeFrom protocol variables limits roots (record { labels = ls; outcome = tree.outcome })) (sym e) made

-- ---- sound roots

pub sound_roots : (protocol : Protocol) (variables : List Declaration) (k : Skeleton) (roots : List Root) → IsSkeleton protocol k → IsPointOfView variables k → AreSound protocol k roots → ((r : Root) → IsIn r roots → r.skeleton.variables ≡ variables)
    → ((i : ℕ) (root : Root) → item_at roots i ≡ Some root → HasDeclaredVariables variables root.skeleton) → AreSoundRoots protocol roots
sound_roots protocol variables k roots skeleton own sound named declared = record {
  problem = k;
  variables = variables;
  skeleton = skeleton;
  own = own;
  each = λ r is.
      let p = place_of is in
      record {
        skeleton = sound.skeletons p.0 r p.1;
        from_problem = sound.from_problem p.0 r p.1;
        stated = sound.stated p.0 r p.1;
        declared = subst (λ (ds : List Declaration). HasDeclaredVariables ds r.skeleton) (sym (named r is)) (declared p.0 r p.1);
        assumptions = sound.assumptions p.0 r p.1;
        nowhere = sound.nowhere p.0 r p.1;
      };
}

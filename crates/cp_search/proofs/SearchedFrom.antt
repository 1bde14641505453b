-- A search before its first label is resolved.
use Rattle.std.proofs.Common.{◌≡◌, List, [], map, sym, ap, subst, ◌∙◌, arith}
use Rattle.std.proofs.lemmas.List.{append-nil}
use Rattle.cp_lists.specs.Lists.{item_at}
use Rattle.cp_lists.proofs.Items.{at_place, item_of_map, map_of_item}
use Rattle.cp_model.specs.Strand.{Protocol}
use Rattle.cp_model.specs.Tree.{Label, expanded_count}
use Rattle.cp_model.specs.declared.tree.Limits.{Limits}
use Rattle.cp_roots.specs.declared.root.Root.{Root}
use Rattle.cp_tree.specs.Made as plain
use Rattle.cp_tree.specs.Made.{made_of_root}
use Rattle.cp_tree.specs.Sound.{IsSoundMade}
use Rattle.cp_tree.specs.Searched.{AreResolved, all_settled, children_of}
use Rattle.cp_search.specs.declared.made.Made.{Made}
use Rattle.cp_search.specs.declared.resolved.Resolved.{Resolved}
use Rattle.cp_search.specs.MadeLabels.{made_view, made_link, AddMade}
use Rattle.cp_search.specs.ResolvedLabels.{label_untabled, IsOpenMark, AreSoundMade, AreSoundRoots, IsSearched}
use Rattle.cp_search.proofs.ResolvedNext.{no_labels}
use Rattle.cp_search.proofs.SoundBehind.{for_the_same}

module _ (protocol : Protocol) (limits : Limits) (roots : List Root) (ms : List Made) (a : AddMade (map made_of_root roots) [] ms) (sound : AreSoundRoots protocol roots) where
  as_roots : map made_view ms ≡ map made_of_root roots
  as_roots = ap (map made_view) a.behind ∙ a.same

  are_sound : AreSoundMade protocol ms
  are_sound =
      for_the_same sound
      (λ i m at.
      let r = item_of_map made_of_root roots i (made_view m) (ap (λ (xs : List plain.Made). item_at xs i) (sym as_roots) ∙ map_of_item made_view ms i m at) in
      let same : made_of_root r.0 ≡ made_view m = r.2 in
      subst (IsSoundMade protocol sound.problem) same (sound.each r.0 (at_place roots i r.0 r.1)))

  none_resolved : IsSearched protocol limits (map made_of_root roots) ms [] 0
  none_resolved =
      let none = sym (no_labels ms) in
      record {
        children = [];
        all_made = as_roots ∙ sym (append-nil (map made_of_root roots));
        found = a.found;
        sound = are_sound;
        tables = λ i m e at there. absurd (cc);
        within = omega arith;
        links = ap (map label_untabled) (no_labels ms);
        become = subst (λ (ls : List Label). AreResolved protocol limits (map made_link ms) IsOpenMark 0 0 [] ls []) none all_settled;
        numbers = ap children_of (no_labels ms);
        counted = ap expanded_count (no_labels ms);
        within_steps = omega arith;
      }

  pub searched_first : (ss : List Resolved) → ss ≡ [] → IsSearched protocol limits (map made_of_root roots) ms ss 0
  searched_first ss e = subst (λ (xs : List Resolved). IsSearched protocol limits (map made_of_root roots) ms xs 0) (sym e) none_resolved

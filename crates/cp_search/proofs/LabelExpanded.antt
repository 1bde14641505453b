-- A label that is expanded: what it is asked for, and what comes of it.
use Rattle.std.proofs.Common.{◌≡◌, ◌≢◌, ℕ, List, [], ◌∷◌, length, map, false, Some, refl, sym, subst}
use Rattle.cp_lists.specs.Lists.{item_at, here}
use Rattle.cp_model.specs.Strand.{Protocol}
use Rattle.cp_model.specs.declared.variable.Declaration.{Declaration}
use Rattle.cp_model.specs.Skeleton.{Skeleton}
use Rattle.cp_model.specs.Derivable.{IsUnrealised}
use Rattle.cp_model.specs.Problem.{numbers_from}
use Rattle.cp_model.specs.PointOfView.{IsPointOfView}
use Rattle.cp_model.specs.declared.node.Node.{Node}
use Rattle.cp_model.specs.Tree.{Test}
use Rattle.cp_derive.specs.Unrealised.{ListsUnrealised}
use Rattle.cp_expansion.specs.Expansion.{IsExpansionOf}
use Rattle.cp_expansion.specs.Views.{expansion_by}
use Rattle.cp_expansion.specs.declared.expansion.Expansion as expansions
use Rattle.cp_tree.specs.Made as plain
use Rattle.cp_tree.specs.Sound.{ExpandsSoundly}
use Rattle.cp_search.specs.declared.made.Made.{Made}
use Rattle.cp_search.specs.declared.expanded.Expanded.{Expanded}
use Rattle.cp_search.specs.MadeLabels.{AddMade}
use Rattle.cp_search.specs.ResolvedLabels.{ExpandsLabel, AreSoundMade}
use Rattle.cp_search.proofs.ExpandedNext.{children_sound}

pub some_unrealised : (k : Skeleton) (ns : List Node) → ListsUnrealised k ns → ns ≢ [] → IsUnrealised k
some_unrealised k [] lists some = absurd (some refl)
some_unrealised k (n ∷ ns) lists some = let u = (lists.each n).0 here in record { node = n; message = u.message; reception = u.reception; underivable = u.underivable }

pub label_expanded : (protocol : Protocol) (i : ℕ) (old new : List Made) (label : Made) (test : Test) (x : expansions.Expansion) (e : Expanded) → AreSoundMade protocol old → item_at old i ≡ Some label
    → (label.dead ≡ false) × (label.unrealised ≢ []) → ListsUnrealised label.skeleton label.unrealised → ((variables : List Declaration) (k : Skeleton) → IsPointOfView variables k → ExpandsSoundly protocol k)
    → IsExpansionOf protocol label.skeleton (expansion_by test x)
    → AddMade (map (plain.made_of_child i) x.children.items) old new → e.children ≡ numbers_from (length old) x.children.items
    → e.skeleton ≡ x.skeleton → e.test ≡ test → e.patterns ≡ x.patterns.items → ExpandsLabel protocol i old new e
label_expanded protocol i old new label test x e sound at lives lists law is made numbers skeleton tested patterns =
    let is' : IsExpansionOf protocol label.skeleton (record { test = e.test; skeleton = e.skeleton; patterns = e.patterns; children = x.children.items }) =
    subst (λ (t : Test). IsExpansionOf protocol label.skeleton (record { test = t; skeleton = e.skeleton; patterns = e.patterns; children = x.children.items })) (sym tested)
    (subst (λ (k : Skeleton). IsExpansionOf protocol label.skeleton (record { test = test; skeleton = k; patterns = e.patterns; children = x.children.items })) (sym skeleton)
    (subst (λ ps. IsExpansionOf protocol label.skeleton (record { test = test; skeleton = x.skeleton; patterns = ps; children = x.children.items })) (sym patterns) is)) in
    record {
      label = label;
      at = at;
      children = x.children.items;
      expansion = is';
      table = is'.table;
      made = made;
      sound = children_sound protocol i old new label (expansion_by test x) made sound at lives.0 (some_unrealised label.skeleton label.unrealised lists lives.1) is law;
      numbers = numbers;
    }

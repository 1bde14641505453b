-- The forms of pairs, node by node.
use Rattle.std.proofs.Common.{◌≡◌, ◌==◌, ℕ, ◌+◌, ◌<◌, ◌≤◌, List, [], ◌∷◌, ◌++◌, length, drop, get_or, Bool, true, false, if◌then◌else◌, refl, sym, ap, ◌∙◌}
use Rattle.std.proofs.lemmas.Bool.{eqb-true}
use Rattle.std.proofs.lemmas.List.{drop_all, nil_from_length}
use Rattle.cp_lists.proofs.Members.{drop_read}
use Rattle.cp_model.specs.declared.node.Node.{Node}
use Rattle.cp_model.specs.declared.node.OrderPair.{OrderPair}
use Rattle.cp_sexpr.specs.Syntax.{Form}
use Rattle.cp_language.specs.Printed.{plain_list}
use Rattle.cp_language.specs.Report.{node_form}
use Rattle.cp_print.specs.Order.{led_to, has_node, covered, all_covered}

module _ (nodes : List Node) (i : ℕ) (y : Node) (lt : i < length nodes) (is : y ≡ get_or nodes i y) where
  covered_at : (ends : List Node) (x : Node) (b c : Bool) → b ≡ has_node ends y → b ≡ c
      → covered ends x (drop i nodes) ≡ (if c then plain_list (node_form x ∷ node_form y ∷ []) ∷ covered ends x (drop (i + 1) nodes) else covered ends x (drop (i + 1) nodes))
  covered_at ends x b c e h =
      let rest : List Form = covered ends x (drop (i + 1) nodes) in
      ap (covered ends x) (drop_read nodes i y lt is) ∙ ap (λ (t : Bool). if t then plain_list (node_form x ∷ node_form y ∷ []) ∷ rest else rest) (sym e ∙ h)

  -- one of the ends, and the nodes behind it
  pub covered_here : (ends : List Node) (x : Node) (b : Bool) → b ≡ has_node ends y → b ≡ true
      → covered ends x (drop i nodes) ≡ plain_list (node_form x ∷ node_form y ∷ []) ∷ covered ends x (drop (i + 1) nodes)
  covered_here ends x b e h = covered_at ends x b true e h

  -- another node
  pub covered_behind : (ends : List Node) (x : Node) (b : Bool) → b ≡ has_node ends y → b ≡ false → covered ends x (drop i nodes) ≡ covered ends x (drop (i + 1) nodes)
  covered_behind ends x b e h = covered_at ends x b false e h

  -- what begins at one node, and at those behind it
  pub covered_next : (covers : List OrderPair) (all : List Node) → all_covered covers all (drop i nodes) ≡ covered (led_to covers y) y all ++ all_covered covers all (drop (i + 1) nodes)
  covered_next covers all = ap (all_covered covers all) (drop_read nodes i y lt is)

-- there are no ends
none_covered : (x : Node) (ys : List Node) → covered [] x ys ≡ []
none_covered x [] = refl
none_covered x (y ∷ ys) = none_covered x ys

pub covered_none : (ends : List Node) (x : Node) (ys : List Node) (b : Bool) → b ≡ (length ends == 0) → b ≡ true → covered ends x ys ≡ []
covered_none ends x ys b e h =
    let none : ends ≡ [] = nil_from_length ends (eqb-true (length ends) 0 (sym e ∙ h)) in
    ap (λ (es : List Node). covered es x ys) none ∙ none_covered x ys

-- no node is left
pub all_done : (covers : List OrderPair) (all nodes : List Node) (i : ℕ) → length nodes ≤ i → all_covered covers all (drop i nodes) ≡ []
all_done covers all nodes i h = ap (all_covered covers all) (drop_all i nodes h)

-- Covering pairs.
use Rattle.std.proofs.Common.{◌≡◌, ℕ, suc, ◌&&◌, ◌==◌, List, [], ◌∷◌, ◌++◌, length, Bool, true, false, refl, sym, ap, ◌∙◌, if◌then◌else◌}
use Rattle.std.specs.Prelude.{not, nat_le}
use Rattle.std.proofs.lemmas.Bool.{eqb-true}
use Rattle.std.proofs.lemmas.List.{length-map, nil_from_length}
use Rattle.cp_lists.proofs.Fronts.{length_min}
use Rattle.cp_model.specs.Bundle.{node_at}
use Rattle.cp_model.specs.declared.node.Node.{Node}
use Rattle.cp_model.specs.declared.node.OrderPair.{OrderPair}
use Rattle.cp_model.specs.declared.strand.Event.{Event}
use Rattle.cp_model.specs.Term.{Term}
use Rattle.cp_language.specs.Printed.{plain_list}
use Rattle.cp_language.specs.Report.{node_form, nodes_on, is_before, any_node, is_covering, covering_with, covering_from}
use Rattle.cp_print.specs.Order.{nodes_counted}

no_cover : (b c d e : Bool) → (not b && (not (b && c) && (b && d)) && e) ≡ false
no_cover true c d e = refl
no_cover false c d e = refl

module _ (nodes : List Node) where
  none_covering : (x y : Node) → is_covering [] nodes x y ≡ false
  none_covering x y = no_cover (x.strand == y.strand) (x.index == y.index) (nat_le x.index y.index) (not (any_node (λ z. is_before [] x z && is_before [] z y) nodes))

  none_with : (x : Node) (ys : List Node) → covering_with [] nodes x ys ≡ []
  none_with x [] = refl
  none_with x (y ∷ ys) =
      ap (λ (b : Bool). if b then plain_list (node_form x ∷ node_form y ∷ []) ∷ covering_with [] nodes x ys else covering_with [] nodes x ys) (none_covering x y) ∙ none_with x ys

  none_from : (xs : List Node) → covering_from [] nodes xs ≡ []
  none_from [] = refl
  none_from (x ∷ xs) = ap (λ fs. fs ++ covering_from [] nodes xs) (none_with x nodes) ∙ none_from xs

-- without pairs nothing is covered
pub none_ordered : (given pairs : List OrderPair) (nodes : List Node) → given ≡ pairs → (length given == 0) ≡ true → covering_from pairs nodes nodes ≡ []
none_ordered given pairs nodes same e =
    let none : given ≡ [] = nil_from_length given (eqb-true (length given) 0 e) in
    ap (λ ps. covering_from ps nodes nodes) (sym same ∙ none) ∙ none_from nodes nodes

pub ruleset lengths = (length_min, length-map)

pub nodes_are : (s i : ℕ) (es : List (Event Term)) → nodes_on s i es ≡ nodes_counted s i (length es)
nodes_are s i [] = refl
nodes_are s i (e ∷ es) = ap (λ ns. node_at s i ∷ ns) (nodes_are s (suc i) es)

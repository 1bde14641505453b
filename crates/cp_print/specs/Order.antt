-- Words for the order of a label.
use Rattle.std.specs.Prelude.{◌==◌, ℕ, zero, suc, ◌&&◌, ◌||◌, nat_le, List, [], ◌∷◌, ◌++◌, length, map, Bool, false, not, if◌then◌else◌}
use Rattle.std.specs.List.{filter, list_any}
use Rattle.cp_model.specs.Bundle.{node_at}
use Rattle.cp_model.specs.OrderTests.{any_pair, reaches_within}
use Rattle.cp_model.specs.Same.{same_node}
use Rattle.cp_model.specs.declared.node.Node.{Node}
use Rattle.cp_model.specs.declared.node.OrderPair.{OrderPair}
use Rattle.cp_sexpr.specs.Syntax.{Form}
use Rattle.cp_language.specs.Printed.{plain_list}
use Rattle.cp_language.specs.Report.{node_form}
use Rattle.cp_print.specs.declared.order.Entry.{Entry}

-- So many nodes of a strand, the first having index i.
abbrev pub nodes_counted : ℕ → ℕ → ℕ → List Node
nodes_counted s i zero = []
nodes_counted s i (suc n) = node_at s i ∷ nodes_counted s (suc i) n

-- ---- pairs that others imply

-- q is another pair that ends on the strand on which p ends.
abbrev pub enters_too : OrderPair → OrderPair → Bool
enters_too p q = (q.later.strand == p.later.strand) && (not (same_node q.earlier p.earlier) || not (same_node q.later p.later))

-- The pairs that end on a strand on which others end too.
abbrev pub shared : List OrderPair → List OrderPair
shared pairs = filter (λ p. any_pair (enters_too p) pairs) pairs

-- A pair with the predecessors of its earlier node along these pairs.
abbrev pub entry_of : List OrderPair → OrderPair → Entry
entry_of pairs q = record { pair = q; predecessors = record { pairs = pairs; node = q.earlier } }

-- The order has a way over the pair q from the earlier node of p to the later one: q ends there or before that on its
-- strand, and p's earlier node reaches q's.
abbrev pub implies : OrderPair → Entry → Bool
implies p q = nat_le q.pair.later.index p.later.index && enters_too p q.pair && reaches_within (length q.predecessors.pairs) q.predecessors.pairs p.earlier q.predecessors.node

abbrev pub is_implied : List Entry → OrderPair → Bool
is_implied [] p = false
is_implied (q ∷ qs) p = implies p q || is_implied qs p

-- The pairs that the others do not imply.
abbrev pub covers_of : List OrderPair → List Entry → List OrderPair
covers_of pairs entries = filter (λ p. not (is_implied entries p)) pairs

-- ---- their forms

-- The later nodes of the pairs that begin at x.
abbrev pub led_to : List OrderPair → Node → List Node
led_to pairs x = map (λ p. p.later) (filter (λ p. same_node p.earlier x) pairs)

abbrev pub has_node : List Node → Node → Bool
has_node ends y = list_any (λ z. same_node z y) ends

-- A pair as a form.
abbrev pub pair_form : OrderPair → Form
pair_form p = plain_list (node_form p.earlier ∷ node_form p.later ∷ [])

abbrev pub covered : List Node → Node → List Node → List Form
covered ends x [] = []
covered ends x (y ∷ ys) = if has_node ends y then plain_list (node_form x ∷ node_form y ∷ []) ∷ covered ends x ys else covered ends x ys

-- The forms of the pairs that begin with these nodes, by first node and then by second.
abbrev pub all_covered : List OrderPair → List Node → List Node → List Form
all_covered covers nodes [] = []
all_covered covers nodes (x ∷ xs) = covered (led_to covers x) x nodes ++ all_covered covers nodes xs

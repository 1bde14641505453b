-- The nodes of a strand, counted.
use Rattle.std.proofs.Common.{◌≡◌, ℕ, suc, ◌+◌, ◌-◌, ◌<◌, List, [], ◌∷◌, ◌++◌, length, drop, get_or, sym, ap, ◌∙◌, append_assoc, arith}
use Rattle.std.proofs.lemmas.List.{drop_more}
use Rattle.cp_model.specs.Bundle.{node_at}
use Rattle.cp_model.specs.declared.node.Node.{Node}
use Rattle.cp_model.specs.Skeleton.{SkeletonStrand, skeleton_trace}
use Rattle.cp_language.specs.Report.{nodes_on, nodes_from}
use Rattle.cp_print.proofs.CoveringPairs.{nodes_are}
use Rattle.cp_print.specs.Order.{nodes_counted}

one_more : (s i m n : ℕ) → n ≡ suc m → nodes_counted s i n ≡ node_at s i ∷ nodes_counted s (i + 1) m
one_more s i m n e =
    let j : suc i ≡ i + 1 = omega arith in
    ap (nodes_counted s i) e ∙ ap (λ k. node_at s i ∷ nodes_counted s k m) j

-- one node of a strand is put behind the others
pub counted_next : (s i n : ℕ) (now more whole : List Node) → i < n → more ≡ now ++ node_at s i ∷ [] → now ++ nodes_counted s i (n - i) ≡ whole → more ++ nodes_counted s (i + 1) (n - (i + 1)) ≡ whole
counted_next s i n now more whole within push before =
    let rest : n - i ≡ suc (n - (i + 1)) = omega (arith, within) in
    ap (λ ns. ns ++ nodes_counted s (i + 1) (n - (i + 1))) push
    ∙ append_assoc now (node_at s i ∷ []) (nodes_counted s (i + 1) (n - (i + 1)))
    ∙ ap (λ ns. now ++ ns) (sym (one_more s i (n - (i + 1)) (n - i) rest))
    ∙ before

-- the nodes of one strand are put behind those of the strands before it
pub strand_next : (n count : ℕ) (strands : List SkeletonStrand) (x : SkeletonStrand) (now more whole : List Node) → n < length strands → x ≡ get_or strands n x → count ≡ length (skeleton_trace x) → more ≡ now ++ nodes_counted n 0 count
    → now ++ nodes_from n (drop n strands) ≡ whole → more ++ nodes_from (n + 1) (drop (n + 1) strands) ≡ whole
strand_next n count strands x now more whole within is counted put before =
    let next : suc n ≡ n + 1 = omega arith in
    let split : drop n strands ≡ x ∷ drop (n + 1) strands = drop_more strands n x within ∙ ap (λ y. y ∷ drop (n + 1) strands) (sym is) in
    let here : nodes_on n 0 (skeleton_trace x) ≡ nodes_counted n 0 count = nodes_are n 0 (skeleton_trace x) ∙ ap (nodes_counted n 0) (sym counted) in
    let whole_now : nodes_from n (drop n strands) ≡ nodes_counted n 0 count ++ nodes_from (n + 1) (drop (n + 1) strands) =
    ap (nodes_from n) split
    ∙ ap (λ ns. ns ++ nodes_from (suc n) (drop (n + 1) strands)) here
    ∙ ap (λ k. nodes_counted n 0 count ++ nodes_from k (drop (n + 1) strands)) next in
    ap (λ ns. ns ++ nodes_from (n + 1) (drop (n + 1) strands)) put
    ∙ append_assoc now (nodes_counted n 0 count) (nodes_from (n + 1) (drop (n + 1) strands))
    ∙ ap (λ ns. now ++ ns) (sym whole_now)
    ∙ before

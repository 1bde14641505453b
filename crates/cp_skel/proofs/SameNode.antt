-- What the test of two nodes for being different answers.
use Rattle.std.proofs.Common.{◌≡◌, true, false, ap, arith}
use Rattle.std.specs.Prelude.{◌==◌, ◌&&◌, not}
use Rattle.std.proofs.lemmas.Bool.Decides.{nat_tests}
use Rattle.cp_model.specs.declared.node.Node.{Node}

pub tested_apart : (x y : Node) → true ≡ not ((x.strand == y.strand) && (x.index == y.index)) → x ≡ y → ⊥
tested_apart x y h e =
    let strands : x.strand ≡ y.strand = ap (λ (n : Node). n.strand) e in
    let indices : x.index ≡ y.index = ap (λ (n : Node). n.index) e in
    grind (arith, nat_tests)

pub tested_same : (x y : Node) → false ≡ not ((x.strand == y.strand) && (x.index == y.index)) → x ≡ y
tested_same x y h =
    let strands : x.strand ≡ y.strand = grind (arith, nat_tests) in
    let indices : x.index ≡ y.index = grind (arith, nat_tests) in
    λ i. record { strand = strands i; index = indices i }

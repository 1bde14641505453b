use Rattle.std.proofs.Common.{◌∙◌, ap, refl}
use Rattle.cp_app.proofs.BenchTotals.{benchmark_of}
use Rattle.cp_app.proofs.bench.benchmark.Goals as goal

pub returns-clause-answer : goal.returns-clause-answer
returns-clause-answer c =
    benchmark_of c.args.n c.args.limits c.in_ok-trees.trees.items c.sums_over-all.result c.into_bytes.result.items _ c.in_ok-trees.ensures.trees (rw c.deref.ensures.value at c.sums_over-all.ensures)
    (ap (λ v. v.items) c.into_bytes.ensures.value ∙ c.in_ok-text.ensures) refl

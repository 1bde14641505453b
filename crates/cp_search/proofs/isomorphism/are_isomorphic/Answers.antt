use Rattle.std.proofs.Common.{refl}
use Rattle.cp_search.proofs.SameSkeletons.{isomorphic_tabled}
use Rattle.cp_search.proofs.isomorphism.are_isomorphic.Goals as goal

pub returns-then-differ_in_tables_alone : goal.returns-then-differ_in_tables_alone
returns-then-differ_in_tables_alone c = record { exact = (λ _. isomorphic_tabled c.args.a.now c.args.b.now (c.differ_in_tables_alone.ensures c.if-differ_in_tables_alone.true), λ _. refl) }

use Rattle.std.proofs.Common.{refl}
use Rattle.std.proofs.lemmas.Result.{on_ok_weaker}
use Rattle.cp_cohort.proofs.ChildLists.{puts_other}
use Rattle.cp_cohort.proofs.AddedListener.{listened_at}
use Rattle.cp_cohort.proofs.listeners.listen_in.Goals as goal

pub add_before-requires : goal.add_before-requires
add_before-requires c = record { copied = c.requires.copied }

pub returns : goal.returns
returns c =
    on_ok_weaker c.put_forms.result
    (λ p. puts_other _ _
    (listened_at c.args.guarded_test.now c.args.term.now c.is_test.ensures c.in_ok-strand.strand c.in_ok-strand.ensures.number _ refl c.new-path.result c.new-path.ensures c.add_before.new.k c.in_ok-strand.ensures.put) p)
    c.put_forms.ensures

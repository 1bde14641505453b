use Rattle.std.proofs.Common.{sym, ap, ◌∙◌, arith}
use Rattle.cp_language.specs.Words.{is_one_of}
use Rattle.cp_names.proofs.FreeNames.{first_numbered-next}
use Rattle.cp_names.proofs.names.free_name.Goals as goal

pub loop-n-preserved : goal.loop-n-preserved
loop-n-preserved c =
    let taken = ap (λ y. is_one_of y c.args.taken.now) (sym (c.as_str.ensures ∙ c.in_ok-numbered.ensures)) ∙ sym c.if-not-has-2.ensures in
    first_numbered-next c.args.taken.now c.args.name.now c.loop-n.n (omega arith) taken ∙ c.loop-n.invariant

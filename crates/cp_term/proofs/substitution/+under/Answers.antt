use Rattle.std.proofs.Common.{◌≡◌, sym, subst, arith}
use Rattle.std.specs.Prelude.{unwrap_or}
use Rattle.std.proofs.lemmas.Result.{IfOk-weaker}
use Rattle.cp_model.specs.Term.{apply_to}
use Rattle.cp_term.proofs.Spinewise.{encryption_under, leads_on, popped, leads_size}
use Rattle.cp_term.proofs.substitution.+under.Goals as goal

pub above_under-returns-in_ok-new_key-in-Encryption :
    goal.above_under-returns-in_ok-new_key-in-Encryption
above_under-returns-in_ok-new_key-in-Encryption g t c =
    IfOk-weaker _ _ _
    (λ changed made. encryption_under (g.V.Valuation.substitution c.args.values.now) _ _ _ c.in_ok-new_key-in-Encryption.new_key c.args.tail changed _
    c.in-Encryption.ensures.1 c.in-Encryption.ensures.2 c.in_ok-new_key-in-Encryption.ensures c.requires.tail made)
    c.encryption_of.ensures

pub long_under-loop-tail-preserved : goal.long_under-loop-tail-preserved
long_under-loop-tail-preserved g t c =
    leads_on (λ r. r.now) _ _ c.loop-tail.rest _ _ c.loop-tail.invariant c.in_ok-push-in-Some.ensures.items c.in-Some.ensures.0 c.in-Some.ensures.1

pub long_under-above_under-requires : goal.long_under-above_under-requires
long_under-above_under-requires g t c =
    let h = c.loop-above.invariant in
    let p = popped (λ r. r.now) _ _ c.in-Some-pop.above _ _ h.1 c.in-Some-pop.ensures.items in
    let l = leads_size _ _ _ p.0 in
    λ _ within. (grind arith, (within, (p.1, subst (λ rest. unwrap_or c.loop-above.changed rest ≡ apply_to (g.V.Valuation.substitution c.args.values.now) rest) (sym p.2) h.2)))

pub long_under-loop-above-preserved : goal.long_under-loop-above-preserved
long_under-loop-above-preserved g t c =
    let h = c.loop-above.invariant in
    let p = popped (λ r. r.now) _ _ c.in-Some-pop.above _ _ h.1 c.in-Some-pop.ensures.items in
    (c.in-Some-pop.above.now, p.0, c.in_ok-changed-2.ensures)

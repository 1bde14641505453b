use Rattle.std.proofs.Common.{ℕ, length, subst}
use Rattle.std.proofs.lemmas.Result.{on_ok_weaker}
use Rattle.cp_search.specs.WaitingRecords.{KeepsLabel}
use Rattle.cp_search.proofs.KeptRecords.{kept_with, kept_behind}
use Rattle.cp_search.proofs.waiting.Queue.push.Goals as goal

pub returns-clause-kept : goal.returns-clause-kept
returns-clause-kept c =
    let seen = record c.args.label { seen_in = c.in_ok-label.field-0 } in
    let key = c.in_ok-label-2.field-0 in
    let slab = c.keep.new.waiting in
    let n = length c.args.self.now.made in
    let own = subst (λ (i : ℕ). KeepsLabel c.args.self.now.waiting slab i seen key) c.len.ensures c.in_ok-label-2.ensures.kept in
    on_ok_weaker c.push.result
    (λ h. kept_behind c.args.self.now (record { made = c.push.new.self; waiting = slab }) (record seen { waiting = key }) h.behind (kept_with c.args.self.now.waiting slab n seen key key own))
    c.push.ensures.pushed

use Rattle.std.proofs.Common.{◌<◌, length, refl, sym, subst, arith}
use Rattle.std.proofs.lemmas.Result.{on_ok_weaker}
use Rattle.cp_derive.specs.Buildable.{Builds}
use Rattle.cp_derive.specs.declared.opened_terms.Locked.{Locked}
use Rattle.cp_derive.specs.declared.opened_terms.Opening.{Opening}
use Rattle.cp_derive.proofs.LockedTerms.{taken_out, unlocked}
use Rattle.cp_derive.proofs.opened_terms.unlock_at.Goals as goal

pub returns-clause-advances : goal.returns-clause-advances
returns-clause-advances c =
    let between : Opening = record { held = c.args.opening.now.held; locked = c.swap_remove-body.new.self } in
    let within : c.args.place < length c.args.opening.now.locked.items = omega arith in
    let value = c.swap_remove-body.ensures.value in
    on_ok_weaker c.take_apart.result
    (λ t. unlocked c.args.secrets.now c.args.opening.now between _ c.swap_remove-body.result
    (taken_out _ c.args.place _ _ within value c.swap_remove-body.ensures.items) refl
    (subst (λ (l : Locked). Builds c.args.secrets.now c.args.opening.now.held.items l.inverse) (sym value) (c.requires.key c.swap_remove-body.result)) t)
    c.take_apart.ensures

use Rattle.std.proofs.Common.{◌<◌, ◌≤◌, length, sym, subst, arith}
use Rattle.cp_model.proofs.CarriedParts.{not_both}
use Rattle.cp_lists.proofs.Members.{none_left}
use Rattle.cp_derive.specs.Buildable.{Builds}
use Rattle.cp_derive.specs.declared.opened_terms.Locked.{Locked}
use Rattle.cp_derive.proofs.Listed.{behind_other}
use Rattle.cp_derive.proofs.LockedTerms.{length_weight}
use Rattle.cp_derive.proofs.opened_terms.unlock.Goals as goal

pub loop-place-smaller-then-builds : goal.loop-place-smaller-then-builds
loop-place-smaller-then-builds c = omega (arith, length_weight c.loop-place.opening.locked.items, c.in_ok-unlock_at.ensures.falls)

pub loop-place-smaller : goal.loop-place-smaller
loop-place-smaller c = omega (arith, length_weight c.loop-place.opening.locked.items)

pub loop-place-preserved : goal.loop-place-preserved
loop-place-preserved c =
    let within : c.loop-place.place < length c.loop-place.opening.locked.items = omega arith in
    record {
      advances = c.loop-place.invariant.advances;
      weighs = c.loop-place.invariant.weighs;
      falls = c.loop-place.invariant.falls;
      done = λ none l h key.
          behind_other _ c.loop-place.place _ c.index-entry.result.now within c.index-entry.ensures
          (λ same.
          not_both c.if-builds.false
          (c.builds.ensures.1
          (subst (λ held. Builds c.args.secrets.now held c.index-entry.result.now.inverse) (sym c.deref.ensures.value)
          (subst (λ (x : Locked). Builds c.args.secrets.now c.loop-place.opening.held.items x.inverse) (sym same) key))))
          (c.loop-place.invariant.done none l h key);
    }

pub returns-clause-done : goal.returns-clause-done
returns-clause-done c =
    let past : length c.loop-place.opening.locked.items ≤ c.loop-place.place = omega arith in
    λ none l h key. none_left _ _ _ past (c.loop-place.invariant.done none l h key)

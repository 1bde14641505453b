use Rattle.std.proofs.Common.{rules, ◌≡◌, ℕ, Option, Some, None, IfOk, refl, sym, subst}
use Rattle.slab.specs.Slab.{get, Updates}
use Rattle.cp_lists.proofs.Collected.{if_mapped}
use Rattle.cp_derive.proofs.TransmissionPlaces.{ok_both}
use Rattle.cp_model.proofs.CarriedParts.{not_both}
use Rattle.cp_search.specs.declared.waiting.Waiting.{Waiting}
use Rattle.cp_search.specs.WaitingRecords.{PutsRecord, KeepsLabel}
use Rattle.cp_search.proofs.waiting.keep.Goals as goal

pub returns-then-not-waits : goal.returns-then-not-waits
returns-then-not-waits c = record { kept = (λ h. not_both c.if-not-waits.true (c.waits.ensures.1 h), refl) }

pub returns : goal.returns
returns c =
    let old = c.args.waiting.now in
    let slab = c.insert.new.self in
    let i = c.args.number in
    let m = c.args.label.now in
    let waits = c.waits.ensures.0 c.if-not-waits.false in
    let w : Waiting = record { label = i; events = c.args.events } in
    let kept : IfOk c.insert.result (λ (key : ℕ). PutsRecord old slab i m key) =
    ok_both (λ (key : ℕ). get old key ≡ None) (λ (key : ℕ). Updates old slab key (Some w)) (λ (key : ℕ). PutsRecord old slab i m key) c.insert.result
    (λ key vacant updates. record { waits = waits; waiting = w; own = record { number = refl; events = c.requires.events waits.lives }; vacant = vacant; updates = updates })
    c.insert.ensures.was_vacant c.insert.ensures.updates in
    record {
      kept = if_mapped {Q = λ (o : Option ℕ). KeepsLabel old slab i m o} c.insert.result c.map.result (λ key o h made. let is : o ≡ Some key = search rules in subst (λ (o : Option ℕ). KeepsLabel old slab i m o) (sym is) h) kept c.map.ensures.cases;
    }

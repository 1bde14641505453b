use Rattle.std.proofs.Common.{◌≡◌, ℕ, ◌<◌, ◌++◌, ◌∷◌, [], length, sym, ap, ◌∙◌, subst, ltb-true}
use Rattle.std.specs.Prelude.{slice_get, Some}
use Rattle.std.proofs.lemmas.Bool.{ltb-false}
use Rattle.cp_model.specs.declared.variable.Declaration.{Declaration}
use Rattle.cp_model.specs.Data.{sorts}
use Rattle.cp_stated.proofs.NumberedLists.{name-taken, names-past, names-done}
use Rattle.cp_stated.proofs.names.named_declarations.Goals as goal

pub sort-sort-requires : goal.sort-sort-requires
sort-sort-requires c =
    let there = ltb-true c.loop-number.number (length c.args.table.now) (sym c.has_variable.ensures ∙ c.if-not-has_variable.false) in
    subst (λ (n : ℕ). n < length c.args.table.now) (sym c.numbered-id.ensures) there

pub returns-then-not-has_variable : goal.returns-then-not-has_variable
returns-then-not-has_variable c =
    names-past c.args.names.now c.args.table.now c.loop-number.number (ltb-false c.loop-number.number (length c.args.table.now) (sym c.has_variable.ensures ∙ c.if-not-has_variable.true)) c.loop-number.variables _ c.loop-number.invariant

pub loop-number-preserved : goal.loop-number-preserved
loop-number-preserved c =
    let t = c.args.table.now in
    let n = c.loop-number.number in
    let x = c.index-names-number.result in
    let old = c.loop-number.variables in
    let sort : slice_get (sorts t) n ≡ Some c.sort-sort.result = ap (slice_get (sorts t)) (sym c.numbered-id.ensures) ∙ c.sort-sort.ensures in
    let name = ap (λ i. old ++ (let d : Declaration = record { identifier = i; sort = c.sort-sort.result } in d) ∷ []) c.in_ok-identifier.ensures in
    name-taken c.args.names.now t n x c.loop-number-test.true c.index-names-number.is (ltb-true c.loop-number.number (length c.args.table.now) (sym c.has_variable.ensures ∙ c.if-not-has_variable.false)) c.sort-sort.result sort
    old c.push.new.self _ (c.in_ok-push.ensures ∙ name) c.loop-number.invariant

pub returns : goal.returns
returns c =
    names-done c.args.names.now c.args.table.now c.loop-number.number c.loop-number-test.false c.loop-number.variables _ c.loop-number.invariant

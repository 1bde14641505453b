use Rattle.std.proofs.Common.{ℕ, [], ◌∷◌, ◌++◌, sym, ap, ◌∙◌}
use Rattle.cp_scope.proofs.NamesInUse.{on_ok}
use Rattle.cp_spelled.specs.Tables.{local_from}
use Rattle.cp_spelled.proofs.Tabled.{locals-pushed, locals-asked, locals-known, locals-new}
use Rattle.cp_spelled.proofs.locals.Locals.add.Goals as goal

pub returns-then-contains_key : goal.returns-then-contains_key
returns-then-contains_key c =
    locals-known c.self.inside.locals.items c.args.local c.self.inside.table c.args.self.now c.self.invariant c.self.view_is (sym c.contains_key.ensures ∙ c.if-contains_key.true)

pub invariant_of-self-else-is_err : goal.invariant_of-self-else-is_err
invariant_of-self-else-is_err c n =
    let put = on_ok c.insert.result _ (sym c.is_err.ensures.value ∙ c.if-is_err.false) c.insert.ensures.updates in
    let asked = locals-asked c.self.inside.locals.items c.args.local c.self.inside.table c.self.invariant (sym c.contains_key.ensures ∙ c.if-contains_key.false) in
    let l = c.args.local in
    locals-pushed c.self.inside.locals.items l c.self.inside.table c.insert.new.self (record { sort = c.args.local.sort; number = c.len-place.result })
    (ap (λ (n : ℕ). record { sort = l.sort; number = n }) (c.len-place.ensures ∙ c.self.inside.locals.ok.0)) c.self.invariant asked put.0 n
    ∙ ap (λ ls. local_from 0 ls n) (sym c.in_ok-push.ensures.items)

pub returns : goal.returns
returns c =
    c.in_ok-push.ensures.items ∙ ap (λ ls. ls ++ c.args.local ∷ []) c.self.view_is
    ∙ locals-new c.self.inside.locals.items c.args.local c.self.inside.table c.args.self.now c.self.invariant c.self.view_is (sym c.contains_key.ensures ∙ c.if-contains_key.false)

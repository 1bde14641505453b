use Rattle.std.proofs.Common.{sym, ◌∙◌}
use Rattle.cp_skel.proofs.KeyLaws.{in_read, found_if_in, still_in, of_found, none_is_some, in_table}
use Rattle.cp_skel.proofs.keys.Keys.put.Goals as goal

pub returns-then-is_some-clause-there : goal.returns-then-is_some-clause-there
returns-then-is_some-clause-there c =
    of_found _ c.find.result c.find.ensures.there (sym c.is_some.ensures ∙ c.if-is_some.true) _
    (λ place e. in_read c.in-Some.table place c.args.key.now e)

pub returns-clause-new : goal.returns-clause-new
returns-clause-new c _ h =
    none_is_some c.find.result (sym c.is_some.ensures ∙ c.if-is_some.false)
    (found_if_in c.in-Some.table c.args.key.now _ (λ place e. c.find.ensures.absent place e) (in_table c.args.self.now c.in-Some.table c.args.key.now c.in-Some.is h))

pub returns-clause-there : goal.returns-clause-there
returns-clause-there c = in_read c.intern.new.self _ c.args.key.now c.in_ok-intern.ensures.there

pub returns-clause-kept : goal.returns-clause-kept
returns-clause-kept c t i =
    still_in c.in-Some.table c.intern.new.self _ t c.in_ok-intern.ensures.kept (in_table c.args.self.now c.in-Some.table t c.in-Some.is i)

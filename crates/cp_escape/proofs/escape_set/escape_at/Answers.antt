use Rattle.std.proofs.Common.{List, map, ap, ◌∙◌, subst}
use Rattle.std.proofs.lemmas.Result.{IfOk-weaker}
use Rattle.cp_lists.specs.Lists.{IsIn}
use Rattle.cp_model.specs.Term.{Term}
use Rattle.cp_escape.specs.Escape.{whole_pattern}
use Rattle.cp_escape.proofs.EscapeGuards.{is_whole_pattern, is_escape, escape_guards, empty_where_none}
use Rattle.cp_escape.proofs.escape_set.escape_at.Goals as goal

pub whole_patterns-requires : goal.whole_patterns-requires
whole_patterns-requires c e i =
    is_whole_pattern c.args.test.now.skeleton c.args.test.now.node c.args.test.now.critical c.in_ok-encryptions.encryptions.items c.in_ok-encryptions.ensures e
    (subst (λ (es : List Term). IsIn e es) c.deref.ensures.value i)

pub returns-clause-exact : goal.returns-clause-exact
returns-clause-exact c =
    IfOk-weaker c.whole_patterns.result _ _
    (λ ps same. is_escape c.args.test.now.skeleton c.args.test.now.node c.args.test.now.critical c.in_ok-encryptions.encryptions.items ps.items c.in_ok-encryptions.ensures (same ∙ ap (map whole_pattern) c.deref.ensures.value))
    c.whole_patterns.ensures

pub returns-clause-guards : goal.returns-clause-guards
returns-clause-guards c =
    IfOk-weaker c.whole_patterns.result _ _
    (λ ps same. escape_guards c.args.test.now.skeleton c.args.test.now.node c.args.test.now.critical c.in_ok-encryptions.encryptions.items ps.items c.in_ok-encryptions.ensures (same ∙ ap (map whole_pattern) c.deref.ensures.value)
    c.is_test.ensures)
    c.whole_patterns.ensures

pub returns-clause-empty : goal.returns-clause-empty
returns-clause-empty c =
    IfOk-weaker c.whole_patterns.result _ _
    (λ ps same. empty_where_none c.args.test.now.skeleton c.args.test.now.node c.args.test.now.critical c.in_ok-encryptions.encryptions.items ps.items c.in_ok-encryptions.ensures (same ∙ ap (map whole_pattern) c.deref.ensures.value))
    c.whole_patterns.ensures

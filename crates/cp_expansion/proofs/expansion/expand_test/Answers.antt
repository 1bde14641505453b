use Rattle.cp_expansion.proofs.Expansions.{expansion_made}
use Rattle.cp_expansion.proofs.expansion.expand_test.Goals as goal

pub returns-clause-exact : goal.returns-clause-exact
returns-clause-exact c =
    let t = c.args.test in
    expansion_made c.args.protocol.now t.skeleton t.node t.critical c.in_ok-patterns.patterns.items c.widened.result c.requires.test c.in_ok-patterns.ensures.exact c.widened.ensures.test c.widened.ensures.widened c.widened.ensures.table

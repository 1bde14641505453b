use Rattle.cp_lists.proofs.Members.{item_is_in}
use Rattle.cp_escape.proofs.EscapeGuards.{alike_pattern}
use Rattle.cp_escape.proofs.escape_set.whole_patterns.Goals as goal

pub new-requires-in-loop-encryption : goal.new-requires-in-loop-encryption
new-requires-in-loop-encryption c =
    alike_pattern c.encryption-item.result c.in_ok-term.term c.new.result c.in_ok-term.ensures c.new.ensures
    (c.requires c.encryption-item.result (item_is_in c.args.encryptions.now c.loop-encryption.encryption-index c.encryption-item.result c.loop-encryption-test.true c.encryption-item.is))

use Rattle.std.proofs.Common.{nat_eq, refl, sym, ◌∙◌}
use Rattle.cp_fingerprint.proofs.Signatures.{found_equal, numbers_differ, seen_through, embedding_through}
use Rattle.cp_fingerprint.proofs.partition.Partition.may_embed.Goals as goal

pub returns-then-self-other : goal.returns-then-self-other
returns-then-self-other c =
    let own = c.self.inside.entries.items in
    let others = c.other.inside.entries.items in
    let found = found_equal own others c.eq.result (sym c.self.invariant.1 ∙ c.if-not-self.false) c.eq.ensures in
    let through = seen_through own others c.args.self.now c.args.other.now c.eq.result c.self.view_is c.other.view_is found in
    record {
      exact = through;
      kept = embedding_through c.args.self.now c.args.other.now c.eq.result through;
    }

pub returns-else-self-other : goal.returns-else-self-other
returns-else-self-other c =
    let own = c.self.inside.entries.items in
    let others = c.other.inside.entries.items in
    let flag = nat_eq c.self.inside.number c.other.inside.number in
    let found = numbers_differ own others flag (sym c.self.invariant.1 ∙ c.if-not-self.false) c.self.inside.number c.other.inside.number c.self.invariant.0 c.other.invariant.0 c.if-self-other.false refl in
    let through = seen_through own others c.args.self.now c.args.other.now flag c.self.view_is c.other.view_is found in
    record {
      exact = through;
      kept = embedding_through c.args.self.now c.args.other.now flag through;
    }

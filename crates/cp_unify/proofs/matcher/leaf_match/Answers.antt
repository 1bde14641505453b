use Rattle.std.proofs.Common.{subst, sym}
use Rattle.std.specs.Option.{option_map}
use Rattle.cp_unify.specs.Matched.{IsFound, is_listed, matched}
use Rattle.cp_unify.proofs.matcher.leaf_match.Goals as goal

pub returns-in-Tag : goal.returns-in-Tag
returns-in-Tag c =
    subst (λ p. IsFound c.is_tag.result c.args.found.now (matched (is_listed (option_map (λ xs. xs.now) c.args.locals)) p c.args.term.now c.args.found.now))
    (sym c.in-Tag.ensures) (c.is_tag.ensures (is_listed (option_map (λ xs. xs.now) c.args.locals)) c.args.found.now)

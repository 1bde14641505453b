use Rattle.std.proofs.Common.{rules, ◌≡◌, sym, ◌∙◌}
use Rattle.std.specs.Prelude.{not}
use Rattle.cp_lists.proofs.Collected.{if_mapped}
use Rattle.cp_unify.specs.Bindings.{as_substitution}
use Rattle.cp_pattern.proofs.Matched.{keys_tell}
use Rattle.cp_pattern.proofs.pattern_matches.keys_differ.Goals as goal

pub returns : goal.returns
returns c =
    let of_pattern = c.in-Encryption.ensures in
    let of_term = c.in-Encryption-shape.ensures in
    if_mapped c.is_image.result c.map.result (λ same differ compared k.
    let told : differ ≡ not same = search rules in
    keys_tell c.args.pattern.now (as_substitution c.args.from.now) c.args.term.now _ _ of_pattern.0 of_term.0 (sym c.term.ensures.term ∙ of_pattern.2) of_term.2 _ _ of_pattern.1 of_term.1
    c.locals.result.now c.locals.ensures.variables (sym (c.holds_local.ensures of_pattern.0 of_pattern.1) ∙ c.if-holds_local.false) same differ told compared) c.is_image.ensures c.map.ensures.cases

use Rattle.std.proofs.Common.{rules, ◌≡◌, ◌∙◌, ap, sym}
use Rattle.std.specs.Prelude.{not, is_some}
use Rattle.cp_lists.proofs.Collected.{if_mapped}
use Rattle.cp_model.specs.declared.strand.Event.TheVariants.{Receive as recv}
use Rattle.cp_general.proofs.FitTests.{was_true}
use Rattle.cp_general.proofs.dropped_pair.is_derived.Goals as goal

pub critical-requires : goal.critical-requires
critical-requires c = record { there = c.requires }

pub returns : goal.returns
returns c =
    if_mapped c.critical.result c.map.result (λ found derived none k t at.
    let told : is_some found ≡ not derived = search rules in
    let derives = none (recv t) at in
    (λ e. derives.0 (told ∙ ap not e), λ d. was_true derived (sym told ∙ derives.1 d))) c.critical.ensures.none c.map.ensures.cases

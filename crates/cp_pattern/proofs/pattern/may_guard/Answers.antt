use Rattle.std.proofs.Common.{◌≡◌, refl, sym, ap, ◌∙◌, true, false}
use Rattle.cp_model.proofs.CarriedParts.{not_both}
use Rattle.cp_model.specs.Strand.{variables_of_trace}
use Rattle.cp_model.specs.Term.{enc_term, variables_of, variables_of_key}
use Rattle.cp_pattern.specs.Within.{has_all_but, has_some}
use Rattle.cp_pattern.proofs.Patterns.{may_guard, no_local_in_key, all_used}
use Rattle.cp_pattern.proofs.pattern.may_guard.Goals as goal

pub returns-then-holds_local : goal.returns-then-holds_local
returns-then-holds_local c =
    let p = c.args.pattern.now in
    let key = c.in-Encryption.ensures.0 in
    let encrypted : p.term ≡ enc_term c.in-Encryption.field-0.now key = sym c.term-term.ensures.term ∙ c.in-Encryption.ensures.2 in
    let held : has_some p.locals (variables_of_key key) ≡ true =
    sym (ap (λ xs. has_some xs (variables_of_key key)) c.locals-locals.ensures.variables) ∙ sym (c.holds_local.ensures key c.in-Encryption.ensures.1) ∙ c.if-holds_local.true in (
      λ e. absurd (not_both refl e),
      λ g. absurd (no_local_in_key (variables_of_trace c.args.events.now) p c.term-term.ensures.pattern _ key encrypted g held),
    )

pub returns : goal.returns
returns c =
    let p = c.args.pattern.now in
    let used = variables_of_trace c.args.events.now in
    let key = c.in-Encryption.ensures.0 in
    let encrypted : p.term ≡ enc_term c.in-Encryption.field-0.now key = sym c.term-term.ensures.term ∙ c.in-Encryption.ensures.2 in
    let none : has_some p.locals (variables_of_key key) ≡ false =
    sym (ap (λ xs. has_some xs (variables_of_key key)) c.locals-locals.ensures.variables) ∙ sym (c.holds_local.ensures key c.in-Encryption.ensures.1) ∙ c.if-holds_local.false in
    let tests : c.all_within.result ≡ has_all_but p.locals used (variables_of p.term) =
    c.all_within.ensures ∙ ap (λ xs. has_all_but xs used (variables_of c.term-term.result.now)) c.locals-locals.ensures.variables ∙ ap (λ t. has_all_but p.locals used (variables_of t)) c.term-term.ensures.term in (
      λ e. may_guard used p c.term-term.ensures.pattern _ key encrypted none (sym tests ∙ e),
      λ g. tests ∙ all_used used p c.term-term.ensures.pattern _ key encrypted g,
    )

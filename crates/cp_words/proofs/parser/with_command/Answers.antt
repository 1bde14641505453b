use Rattle.std.proofs.Common.{◌≡◌, IfOk, subst}
use Rattle.clap.specs.Words.{app_of}
use Rattle.cp_words.proofs.Described.{one_added}
use Rattle.cp_words.proofs.parser.with_command.Goals as goal

pub returns : goal.returns
returns c = λ a b program command plain.
    let p : app_of c.in_ok-program.field-0 ≡ a = subst (λ r. IfOk r (λ x. app_of x ≡ a)) c.in_ok-program.was program in
    let q : app_of c.in_ok-command.field-0 ≡ b = subst (λ r. IfOk r (λ x. app_of x ≡ b)) c.in_ok-command.was command in
    one_added c.in_ok-program.field-0 c.in_ok-command.field-0 c.subcommand.result c.subcommand.ensures a b p q plain

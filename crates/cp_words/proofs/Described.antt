-- What the parser of command lines is told of the commands.
use Rattle.std.proofs.Common.{◌≡◌, ◌∙◌, true, Result, Ok, Err, IfOk, ap, ap₂}
use Rattle.clap.specs.Words.{AddsSubcommand, App, app_of, with_subcommand}
use Rattle.clap.proofs.SimpleLemmas.{plain_fields}
use Rattle.clap.specs.declared.builder.command.Command.{Command}

-- one command is added behind the others
pub one_added : {E : Type 0} (program command : Command) (r : Result Command E) → IfOk r (AddsSubcommand program command) → (a b : App) → app_of program ≡ a → app_of command ≡ b → b.top.is_plain ≡ true
    → IfOk r (λ c. app_of c ≡ with_subcommand a b.top)
one_added program command (Ok all) added a b p q plain =
    added.shape (plain_fields command (ap (λ (x : App). x.top.is_plain) q ∙ plain)).globals ∙ ap₂ (λ (x y : App). with_subcommand x y.top) p q
one_added program command (Err e) added a b p q plain = tt

-- The command `gen`.
use Rattle.std.specs.Prelude.{◌≡◌, ℕ, List}
use Rattle.cp_base.specs.declared.status.Status.{Status}
use Rattle.cp_base.specs.declared.status.Status.TheVariants.{Done}
use Rattle.cp_model.specs.declared.tree.Limits.{Limits}
use Rattle.cp_generate.specs.Generated.{generated_text}

-- It puts the protocol and n problems.
abbrev pub GenAnswers : ℕ → Limits → List ℕ → List ℕ → Status → Type 0
GenAnswers n limits input text status = (text ≡ generated_text n) × (status ≡ Done)

-- The command `shapes`.
use Rattle.std.specs.Prelude.{ℕ, List}
use Rattle.cp_base.specs.declared.status.Status.{Status}
use Rattle.cp_model.specs.declared.tree.Limits.{Limits}
use Rattle.cp_language.specs.ShapesText.{shapes_text}
use Rattle.cp_app.specs.Headline.{IsReported}

-- It prints the report without the labels that are not marked as shapes.
abbrev pub ShapesAnswers : Limits → List ℕ → List ℕ → Status → Type 0
ShapesAnswers = IsReported shapes_text

-- What the clauses of `run` say of a command: whether it reads, which forms it accepts and refuses, and which text it answers to an
-- input. Each command has a file of its own for it, the first of them `Headline.antt`.
use Rattle.std.specs.Prelude.{ℕ, List, Bool, true, false}
use Rattle.cp_base.specs.declared.place.Refusal.{Refusal}
use Rattle.cp_base.specs.declared.status.Status.{Status}
use Rattle.cp_model.specs.declared.tree.Limits.{Limits}
use Rattle.cp_sexpr.specs.Syntax.{Forms}
use Rattle.cp_words.specs.declared.command.Command.{Command}
use Rattle.cp_words.specs.declared.command.CommandName.{CommandName}
use Rattle.cp_words.specs.declared.command.CommandName.TheVariants.{Analyse, Shapes, Gen, Bench}
use Rattle.cp_app.specs.Headline.{AreWellFormed, AreFaulty, AnalyseAnswers}
use Rattle.cp_app.specs.Shapes.{ShapesAnswers}
use Rattle.cp_app.specs.Gen.{GenAnswers}
use Rattle.cp_app.specs.Bench.{BenchAnswers}

-- The commands of this name read the source to its end.
abbrev pub reads : CommandName → Bool
reads Analyse = true
reads Shapes = true
reads (Gen n) = false
reads (Bench n) = false

-- They accept an input of these forms. What a command does not read it accepts.
abbrev pub AcceptsBy : CommandName → Forms → Type 0
AcceptsBy Analyse = AreWellFormed
AcceptsBy Shapes = AreWellFormed
AcceptsBy (Gen n) = λ fs. Unit {0}
AcceptsBy (Bench n) = λ fs. Unit {0}

-- They refuse an input of these forms, with this place and code.
abbrev pub RefusesBy : CommandName → Forms → Refusal → Type 0
RefusesBy Analyse = AreFaulty
RefusesBy Shapes = AreFaulty
RefusesBy (Gen n) = λ fs r. ⊥
RefusesBy (Bench n) = λ fs r. ⊥

-- Within these limits they put this text for this input and end with this status.
abbrev pub AnswersBy : CommandName → Limits → List ℕ → List ℕ → Status → Type 0
AnswersBy Analyse = AnalyseAnswers
AnswersBy Shapes = ShapesAnswers
AnswersBy (Gen n) = GenAnswers n
AnswersBy (Bench n) = BenchAnswers n

-- The command accepts an input of these forms.
abbrev pub Accepts : Command → Forms → Type 0
Accepts command = AcceptsBy command.name

-- The command refuses an input of these forms, with this place and code.
abbrev pub Refuses : Command → Forms → Refusal → Type 0
Refuses command = RefusesBy command.name

-- The command puts this text for this input and ends with this status.
abbrev pub Answers : Command → List ℕ → List ℕ → Status → Type 0
Answers command = AnswersBy command.name command.limits

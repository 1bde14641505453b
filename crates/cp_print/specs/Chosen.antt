-- The labels that are printed.
use Rattle.std.specs.Prelude.{Bool, true}
use Rattle.cp_model.specs.Tree.{Label}
use Rattle.cp_language.specs.ShapesText.{is_marked_shape}
use Rattle.cp_print.specs.declared.report.Chosen.{Chosen}
use Rattle.cp_print.specs.declared.report.Chosen.TheVariants.{All, Shapes}

abbrev pub chosen_by : Chosen → Label → Bool
chosen_by All = λ l. true
chosen_by Shapes = is_marked_shape

-- How far the items of a problem have come.
use Rattle.std.specs.Prelude.{false}
use Rattle.cp_language.specs.Problems as language
use Rattle.cp_load.specs.declared.bodies.Stage.{Stage}

abbrev pub stage_view : Stage → language.ItemStage
stage_view s = record { after_strand = s.after_strand; after_item = s.after_item }

-- No strand and no item stood before.
abbrev pub no_stage : language.ItemStage
no_stage = record { after_strand = false; after_item = false }

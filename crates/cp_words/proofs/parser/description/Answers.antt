use Rattle.std.proofs.Common.{refl}
use Rattle.cp_words.proofs.parser.description.Goals as goal

pub returns : goal.returns
returns c =
    c.with_command.ensures _ _
    (c.with_command-generated.ensures _ _ (c.with_command-shapes.ensures _ _ (c.with_command-analyse.ensures _ _ c.new.ensures.app c.description_of.ensures refl) c.description_of-2.ensures refl) c.numbered.ensures refl)
    c.numbered-2.ensures refl

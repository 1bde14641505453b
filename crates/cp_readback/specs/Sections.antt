-- The forms of a report by those of the input, as the program keeps them.
use Rattle.std.specs.Prelude.{map}
use Rattle.cp_sexpr.specs.View.{view}
use Rattle.cp_report.specs.ReadBack as report
use Rattle.cp_readback.specs.declared.sections.Section.{Section}
use Rattle.cp_readback.specs.declared.sections.Sections.{Sections}

abbrev pub section_view : Section → report.Section
section_view s = record { form = view s.form.now; behind = map view s.behind.now }

abbrev pub sections_view : Sections → report.Sections
sections_view s = record { front = map view s.front.now; sections = map section_view s.sections.items }

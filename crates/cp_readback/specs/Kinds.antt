-- What the entries among the counts of a status form have to be.
use Rattle.std.specs.Prelude.{List}
use Rattle.cp_base.specs.declared.place.Place.{Place}
use Rattle.cp_sexpr.specs.Syntax.{Form}
use Rattle.cp_report.specs.ReadBack.{word_misfits, count_misfits}
use Rattle.cp_readback.specs.declared.status.Kind.{Kind}
use Rattle.cp_readback.specs.declared.status.Kind.TheVariants as kinds

abbrev pub kind_misfits : Kind → Form → List Place
kind_misfits (kinds.Word word) = word_misfits word.now
kind_misfits (kinds.Count count) = count_misfits count

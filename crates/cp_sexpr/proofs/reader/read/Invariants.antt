use Rattle.std.proofs.Common.{length}
use Rattle.cp_sexpr.specs.UnfinishedForms.{building_of}
use Rattle.cp_sexpr.proofs.Readings.{ReadUpTo}
use Rattle.cp_sexpr.proofs.reader.read.Given as goal

abbrev pub invariant-loop-builder : goal.invariant-loop-builder
invariant-loop-builder l = ReadUpTo l.fn.bytes l.rest l.place (building_of l.builder)

abbrev pub decreases-loop-builder : goal.decreases-loop-builder
decreases-loop-builder l = length l.rest

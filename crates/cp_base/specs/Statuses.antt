-- The numbers of the statuses.
use Rattle.std.specs.Prelude.{ℕ}
use Rattle.cp_base.specs.declared.status.Status.{Status}
use Rattle.cp_base.specs.declared.status.Status.TheVariants.{Done, Limit, Usage, Refused, ReadFault, WriteFault, Memory, TooLong}

-- the number that a program ends with
abbrev pub status_number : Status → ℕ
status_number Done = 0
status_number Limit = 1
status_number Usage = 2
status_number (Refused refusal) = 3
status_number ReadFault = 4
status_number WriteFault = 5
status_number Memory = 6
status_number TooLong = 7

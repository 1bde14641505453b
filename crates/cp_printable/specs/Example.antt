-- An example: the problem in which an encryption is heard, under a key that does not originate; one role sends such encryptions.
use Rattle.cp_theory.specs.EncryptionExamples.{locker, protocol, heard}
use Rattle.cp_language.specs.Problems.{Problem}

-- Its two variables, the text and the key, are declared.
abbrev pub heard_problem : Problem
heard_problem = record { protocol = protocol; variables = locker.variables; declared = 2; skeleton = heard }

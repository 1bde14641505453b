-- An example: the children of a test of an encryption that is heard, under a key that does not originate.
use Rattle.std.specs.Prelude.{[], ◌++◌}
use Rattle.cp_model.specs.declared.tree.Operation.TheVariants.{AddedStrand as by_added_strand}
use Rattle.cp_model.specs.PrefixVariables.{prefix_variables}
use Rattle.cp_cohort.specs.CoveringChildren.{Child, child, declarations_among}
use Rattle.cp_cohort.specs.Cohort.{GuardedTest}
use Rattle.cp_theory.specs.EncryptionExamples.{locked, locker, heard, reception, sent_before}

-- The encryption is to be released where it was heard; there are no patterns. Its text and key are the variables.
abbrev pub asked : GuardedTest
asked = record { skeleton = heard; node = reception; critical = locked; patterns = [] }

-- A strand of the one role that sends such encryptions has sent it before; its variables were made for it.
abbrev pub one_child : Child
one_child = child (by_added_strand 1) [] (record sent_before { variables = locker.variables ++ declarations_among locker (prefix_variables locker 1) })

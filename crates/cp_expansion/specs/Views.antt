-- What expansions of the program stand for.
use Rattle.cp_model.specs.Tree.{Test}
use Rattle.cp_cohort.specs.Cohort.{GuardedTest, guarded_test_of}
use Rattle.cp_expansion.specs.declared.expansion.Expansion as program
use Rattle.cp_expansion.specs.Expansion.{Expansion}

-- The test that was asked last: of the skeleton with all variables, under all patterns.
abbrev pub last_test : Test → program.Expansion → GuardedTest
last_test t e = guarded_test_of e.skeleton t.node t.critical e.patterns.items

-- The expansion by this test.
abbrev pub expansion_by : Test → program.Expansion → Expansion
expansion_by t e = record { test = t; skeleton = e.skeleton; patterns = e.patterns.items; children = e.children.items }

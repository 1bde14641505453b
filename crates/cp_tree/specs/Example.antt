-- An example: the tree of a problem in which an encryption is heard, under a key that does not originate.
use Rattle.std.specs.Prelude.{[], ◌∷◌, false, Some, None}
use Rattle.cp_model.specs.Tree.{Test, Label, Tree}
use Rattle.cp_model.specs.declared.tree.Operation.TheVariants.{Problem as by_problem, AddedStrand as by_added_strand}
use Rattle.cp_model.specs.declared.tree.Mark.TheVariants.{Shape as shape}
use Rattle.cp_model.specs.declared.tree.Outcome.TheVariants.{Complete as complete}
use Rattle.cp_model.specs.declared.tree.Limits.{Limits}
use Rattle.cp_theory.specs.EncryptionExamples.{locked, heard, reception}
use Rattle.cp_roots.specs.declared.root.Root.{Root}
use Rattle.cp_roots.specs.Roots.{in_report_order}
use Rattle.cp_cohort.specs.Example.{one_child}

-- The problem is its one root.
abbrev pub heard_root : Root
heard_root = record { operation = by_problem; skeleton = heard; dead = false }

-- It is tested where the encryption is heard.
abbrev pub heard_test : Test
heard_test = record { node = reception; critical = locked }

-- The root, which was expanded under no patterns.
abbrev pub heard_label : Label
heard_label = record {
  parent = None;
  operation = by_problem;
  skeleton = heard;
  unrealised = reception ∷ [];
  test = Some heard_test;
  escape = [];
  children = 1 ∷ [];
  mark = None;
}

-- Its one child, a shape: a strand of the role has sent the encryption before.
abbrev pub sent_label : Label
sent_label = record {
  parent = Some 0;
  operation = by_added_strand 1;
  skeleton = in_report_order one_child.skeleton;
  unrealised = [];
  test = None;
  escape = [];
  children = [];
  mark = Some shape;
}

abbrev pub heard_tree : Tree
heard_tree = record { labels = heard_label ∷ sent_label ∷ []; outcome = complete }

-- One step is enough.
abbrev pub one_step_limits : Limits
one_step_limits = record { steps = 1; strands = 2 }

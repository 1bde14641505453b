-- The skeleton that the fields of one stand for.
use Rattle.cp_model.specs.Skeleton.{Skeleton}
use Rattle.cp_skel.specs.declared.skeleton.Skeleton.TheInside.{Inside}

abbrev pub skeleton_of_parts : Inside → Skeleton
skeleton_of_parts k = record {
  variables = k.variables;
  strands = k.strands.items;
  pairs = k.order;
  assumptions = k.assumptions;
  from_problem = k.from_problem;
}

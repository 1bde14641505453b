-- The role that the fields of one stand for.
use Rattle.cp_model.specs.Strand.{Role}
use Rattle.cp_strand.specs.declared.protocol.Role.TheInside.{Inside}

abbrev pub role_of_parts : Inside → Role
role_of_parts r = record {
  name = r.name;
  variables = r.variables.items;
  trace = r.trace.items;
  non_originating = r.non_originating.items;
  penetrator_non_originating = r.penetrator_non_originating.items;
  uniquely_originating = r.uniquely_originating.items;
}

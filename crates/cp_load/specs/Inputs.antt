-- What loaded input stands for.
use Rattle.std.specs.Prelude.{List, map}
use Rattle.cp_sexpr.specs.View.{view}
use Rattle.cp_language.specs.Problems as language
use Rattle.cp_language.specs.Input as plain
use Rattle.cp_load.specs.declared.input.Problem.{Problem}
use Rattle.cp_load.specs.declared.input.Entry.{Entry}
use Rattle.cp_load.specs.declared.input.Entry.TheVariants as entries
use Rattle.cp_load.specs.declared.input.Input.{Input}

abbrev pub problem_view : Problem → language.Problem
problem_view p = record {
  protocol = p.protocol.value;
  variables = p.skeleton.variables;
  declared = p.declared;
  skeleton = p.skeleton;
}

-- What an entry stands for.
abbrev pub entry_view : Entry → plain.Entry
entry_view (entries.Plain f) = plain.plain_entry (view f.now)
entry_view (entries.Protocol f p) = plain.protocol_entry (view f.now) p.value
entry_view (entries.Problem f p) = plain.problem_entry (view f.now) (problem_view p)

-- The forms of the input, each with what it states.
abbrev pub input_entries : Input → List plain.Entry
input_entries i = map entry_view i.entries.items

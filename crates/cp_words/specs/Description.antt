-- What the parser of command lines is told of the commands.
use Rattle.std.specs.Prelude.{[], ◌∷◌, true, Some, codes}
use Rattle.clap.specs.Words.{App, Rule, Text, new_app, new_rule, with_rule, with_subcommand}

-- The limit is 2,000 where it does not stand.
abbrev pub limit_rule : Rule
limit_rule = record (new_rule (codes "limit")) { long = Some (codes "limit"); defaults = codes "2000" ∷ [] }

-- The bound is 8 where it does not stand.
abbrev pub bound_rule : Rule
bound_rule = record (new_rule (codes "bound")) { long = Some (codes "bound"); defaults = codes "8" ∷ [] }

-- A command of this name, with the two options.
abbrev pub described_as : Text → App
described_as name = with_rule (with_rule (new_app name) limit_rule) bound_rule

-- The number of problems has to stand.
abbrev pub number_rule : Rule
number_rule = record (new_rule (codes "N")) { required = true }

-- A command of this name, with a number.
abbrev pub numbered_as : Text → App
numbered_as name = with_rule (new_app name) number_rule

-- `analyse` and `shapes` have options, `gen` and `bench` a number.
abbrev pub described : App
described =
    let with_options = with_subcommand (with_subcommand (new_app (codes "cpsa")) (described_as (codes "analyse")).top) (described_as (codes "shapes")).top in
    with_subcommand (with_subcommand with_options (numbered_as (codes "gen")).top) (numbered_as (codes "bench")).top

-- Which trees a report has: those of the search.
use Rattle.std.specs.Prelude.{List}
use Rattle.cp_model.specs.Tree.{Tree}
use Rattle.cp_model.specs.declared.tree.Limits.{Limits}
use Rattle.cp_sexpr.specs.Syntax.{Forms}
use Rattle.cp_language.specs.Input.{input_of}
use Rattle.cp_tree.specs.Searched.{IsTreeOf}
use Rattle.cp_app.specs.Headline.{HaveTrees}

-- The tree of each problem that the forms state is one that the rules of the search make within these limits.
abbrev pub AreSearched : Limits → Forms → List Tree → Type 0
AreSearched limits forms trees = HaveTrees (λ p t. IsTreeOf p.protocol p.skeleton p.variables limits t) (input_of forms) trees

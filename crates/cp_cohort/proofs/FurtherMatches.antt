-- What one of several patterns matches, under a further substitution.
use Rattle.std.proofs.Common.{List}
use Rattle.cp_model.specs.Term.{Term, Substitution, apply_to, composed}
use Rattle.cp_model.specs.Tree.{Pattern}
use Rattle.cp_pattern.proofs.LawMatches.{matching_stays}
use Rattle.cp_cohort.specs.Candidates.{OneMatches}

pub one_matches_under : (ps : List Pattern) (s u : Substitution) (e : Term) → OneMatches ps s e → OneMatches ps (composed s u) (apply_to u e)
one_matches_under ps s u e r = record { pattern = r.pattern; listed = r.listed; matches = matching_stays r.pattern s u e r.matches }

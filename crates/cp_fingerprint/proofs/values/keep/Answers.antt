use Rattle.cp_fingerprint.proofs.ValuePlaces.{put_last}
use Rattle.cp_fingerprint.proofs.values.keep.Goals as goal

pub returns-clause-further : goal.returns-clause-further
returns-clause-further c = λ l none. put_last c.args.value.now _ _ _ none c.in_ok-intern.ensures.id c.in_ok-intern.ensures.there c.in_ok-intern.ensures.kept

use Rattle.std.proofs.Common.{length, ◌++◌, ◌∷◌, [], ◌∙◌, ap, if◌then◌else◌, arith}
use Rattle.std.specs.Prelude.{nat_eq}
use Rattle.std.proofs.lemmas.Result.{on_ok_weaker}
use Rattle.cp_search.specs.LabelsByNumber.{with_key}
use Rattle.cp_search.proofs.LabelsByNumber.{with_one_more}
use Rattle.cp_search.proofs.copy_index.CopyIndex.add.Goals as goal

pub returns : goal.returns
returns c =
    let old = c.args.labels.now in
    let n = length old in
    on_ok_weaker c.add_to_bucket.result
    (λ added indexes q.
    added q ∙ ap (λ ns. if nat_eq c.bucket_key.result q then ns ++ n ∷ [] else ns) (indexes q)
    ∙ ap (λ s. if nat_eq s q then with_key q 0 old ++ n ∷ [] else with_key q 0 old) c.bucket_key.ensures
    ∙ with_one_more q 0 old c.args.made.now n (omega arith))
    c.add_to_bucket.ensures

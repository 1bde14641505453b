use Rattle.std.proofs.Common.{◌≡◌, ◌+◌, [], ◌∷◌, ap, ◌∙◌, subst}
use Rattle.cp_model.specs.Bundle.{node_at}
use Rattle.cp_model.specs.Given.{has_unique, uniques_onto}
use Rattle.cp_model.proofs.Gathered.{uniques}
use Rattle.cp_strand.specs.Givens.{unique_on}
use Rattle.cp_skel.specs.InOrder.{ListsTo}
use Rattle.cp_skel.proofs.AlreadyListed.{lists-next, some_listed}
use Rattle.cp_skel.proofs.already_listed.listed_with_unique.Goals as goal

pub returns-then-is_at : goal.returns-then-is_at
returns-then-is_at c =
    let old = c.args.old.now in
    let same : c.index-old-count.result ≡ unique_on c.args.strand c.args.unique.now = c.is_at.ensures.0 c.if-is_at.true in
    subst (λ v. ListsTo has_unique uniques_onto old c.args.count (v ∷ []) (c.args.count + 1)) same
    (lists-next uniques old c.args.count c.index-old-count.result c.if-count-old.true c.index-old-count.is)

pub returns : goal.returns
returns c =
    let same : c.new-stated.result ≡ unique_on c.args.strand c.args.unique.now =
    c.new-stated.ensures ∙ ap (λ v. record { value = v; origin = node_at c.args.strand c.args.unique.now.index }) c.in-Ok.ensures
    in
    some_listed has_unique uniques_onto c.listed_with.result c.args.old.now c.args.count same c.listed_with.ensures

use Rattle.std.proofs.Common.{sym, ap, subst, ◌∙◌}
use Rattle.std.proofs.lemmas.Result.{IfOk-weaker}
use Rattle.cp_model.specs.Given.{listed}
use Rattle.cp_model.specs.Skeleton.{Assumptions, Skeleton, UniqueAt}
use Rattle.cp_model.specs.Term.{AtomTerm}
use Rattle.std.specs.Prelude.{List}
use Rattle.cp_normal.specs.MisplacedValues.{IsFirstMisplacedAt}
use Rattle.cp_normal.proofs.MisplacedOriginations.{alone_first, some_listed}
use Rattle.cp_normal.proofs.misplaced_values.first_listed.Goals as goal

pub returns-then-is_alone : goal.returns-then-is_alone
returns-then-is_alone c =
    let k = c.args.k.now in
    let x = c.args.occurrence.now.node in
    let own = c.uniquely_originating-uniques.ensures ∙ ap (λ (a : Assumptions). a.uniquely_originating) (c.assumptions.ensures ∙ ap (λ (k : Skeleton). k.assumptions) c.skeleton.ensures) in
    let first = alone_first k x c.uniquely_originating-uniques.result.now c.args.found.now own (λ u i s other. c.is_alone.ensures c.if-is_alone.true u i (s, other)) c.requires.misplaced in
    IfOk-weaker c.copy.result _ _ (λ v same. subst (λ (w : AtomTerm). IsFirstMisplacedAt k x (listed k).uniquely_originating w) (sym same) first) c.copy.ensures

pub returns-in-Some : goal.returns-in-Some
returns-in-Some c =
    let k = c.args.k.now in
    let own = c.uniquely_originating.ensures ∙ ap (λ (a : Assumptions). a.uniquely_originating) (c.in_ok-assumptions.ensures ∙ ap listed c.skeleton-2.ensures) in
    let first = subst (λ (us : List UniqueAt). IsFirstMisplacedAt k c.args.occurrence.now.node us c.in-Some.first.now) own (rw c.in-Some.is at c.first_at.ensures) in
    IfOk-weaker c.copy-in-Some.result _ _ (λ v same. subst (λ (w : AtomTerm). IsFirstMisplacedAt k c.args.occurrence.now.node (listed k).uniquely_originating w) (sym same) first) c.copy-in-Some.ensures

pub returns : goal.returns
returns c =
    let own = c.uniquely_originating.ensures ∙ ap (λ (a : Assumptions). a.uniquely_originating) (c.in_ok-assumptions.ensures ∙ ap listed c.skeleton-2.ensures) in
    absurd (some_listed c.args.k.now c.args.occurrence.now.node _ c.args.found.now own c.requires.misplaced (rw c.in-None.is at c.first_at.ensures))

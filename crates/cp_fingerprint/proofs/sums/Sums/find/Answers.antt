use Rattle.std.proofs.Common.{◌+◌, ◌∙◌, ℕ, List, map, take, Option, ap, subst, sym, arith}
use Rattle.cp_fingerprint.specs.Values.{IsPlaceOf, IsAbsent, IsFoundAmong}
use Rattle.cp_fingerprint.specs.SharedValues.{kept}
use Rattle.cp_fingerprint.specs.Weights.{values_of}
use Rattle.cp_fingerprint.specs.declared.sums.ValueSum.{ValueSum}
use Rattle.cp_fingerprint.proofs.ValuePlaces.{all_few, few_found, few_within, more_found, more_unfound}
use Rattle.cp_fingerprint.proofs.sums.Sums.find.Goals as goal

pub returns-in-Some-clause-there : goal.returns-in-Some-clause-there
returns-in-Some-clause-there c =
    let t = c.args.value.now in
    few_within t c.args.self.now.sums.items c.in-Some.number (subst (λ (vs : List ValueSum). IsPlaceOf t (map (λ v. v.value) (take 16 vs)) c.in-Some.number) c.deref.ensures.value c.in-Some.ensures)

pub returns-in-Some-clause-found : goal.returns-in-Some-clause-found
returns-in-Some-clause-found c = λ rest.
    let t = c.args.value.now in
    few_found t c.args.self.now.sums.items c.in-Some.number (subst (λ (vs : List ValueSum). IsPlaceOf t (map (λ v. v.value) (take 16 vs)) c.in-Some.number) c.deref.ensures.value c.in-Some.ensures)

pub returns-then-len-le-FEW-clause-found : goal.returns-then-len-le-FEW-clause-found
returns-then-len-le-FEW-clause-found c = λ rest.
    let t = c.args.value.now in
    let s = c.args.self.now in
    all_few t s.sums.items (omega (arith, c.if-len-le-FEW.true, c.len.ensures, s.sums.ok.0)) (subst (λ (vs : List ValueSum). IsAbsent t (map (λ v. v.value) (take 16 vs))) c.deref.ensures.value c.in_default.ensures)

pub returns-in_err-id-clause-found : goal.returns-in_err-id-clause-found
returns-in_err-id-clause-found c = λ rest.
    let t = c.args.value.now in
    let s = c.args.self.now in
    let absent : IsAbsent t (map (λ v. v.value) (take 16 s.sums.items)) = subst (λ (vs : List ValueSum). IsAbsent t (map (λ v. v.value) (take 16 vs))) c.deref.ensures.value c.in_default.ensures in
    subst (λ (r : Option ℕ). IsFoundAmong t (values_of s) r) (sym c.from_residual.ensures) (more_unfound t s.sums.items s.more rest absent c.in_err-id.ensures.number)

pub returns-then-number-len-clause-found : goal.returns-then-number-len-clause-found
returns-then-number-len-clause-found c = λ rest.
    let t = c.args.value.now in
    let s = c.args.self.now in
    let absent : IsAbsent t (map (λ v. v.value) (take 16 s.sums.items)) = subst (λ (vs : List ValueSum). IsAbsent t (map (λ v. v.value) (take 16 vs))) c.deref.ensures.value c.in_default.ensures in
    more_found t s.sums.items s.more rest absent c.in_ok-id.id c.in_ok-id.ensures.number c.in_ok-id.ensures.there c.saturating_add-number.result (c.saturating_add-number.ensures ∙ ap (λ (k : ℕ). kept (16 + k)) c.number.ensures) (omega (arith, s.sums.ok.0))

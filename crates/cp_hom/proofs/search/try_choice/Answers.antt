use Rattle.std.proofs.Common.{List, subst, subst₂}
use Rattle.cp_model.specs.Homomorphism.{SkeletonMap}
use Rattle.cp_model.specs.Skeleton.{SkeletonStrand}
use Rattle.cp_hom.specs.PartialMaps.{partial_view, Places}
use Rattle.cp_hom.specs.Counterparts.{TakesItem, IsBlocked, KeepsPairs, KeepsOrderApart}
use Rattle.cp_hom.specs.declared.partials.Placement.{Placement}
use Rattle.cp_hom.proofs.Blocked.{blocked_never, none_found, found_extends, broken_never}
use Rattle.cp_hom.proofs.search.try_choice.Goals as goal

pub returns-then-is_blocked : goal.returns-then-is_blocked
returns-then-is_blocked c =
    blocked_never c.args.a.now c.args.b.now c.args.item c.args.choice (partial_view c.args.given.now)
    (subst₂ (λ (xs : List SkeletonStrand) (ps : List Placement). IsBlocked xs c.args.item c.args.choice ps) c.strands.ensures c.deref.ensures.value
    (c.is_blocked.ensures.0 c.if-is_blocked.true))

pub returns-in_default : goal.returns-in_default
returns-in_default c =
    none_found (KeepsOrderApart c.args.a.now c.args.b.now) (TakesItem c.args.a.now c.args.b.now c.args.item c.args.choice)
    (partial_view c.args.given.now) (partial_view c.in_ok-copy.copy) c.in_ok-found.field-0 c.in_ok-copy.ensures c.in_default.is c.in_ok-found.ensures

pub returns-then-branch : goal.returns-then-branch
returns-then-branch c =
    broken_never c.args.a.now c.args.b.now (TakesItem c.args.a.now c.args.b.now c.args.item c.args.choice)
    (partial_view c.args.given.now) (partial_view c.in-Some.found)
    (found_extends (TakesItem c.args.a.now c.args.b.now c.args.item c.args.choice) (partial_view c.args.given.now) (partial_view c.in_ok-copy.copy) c.in_ok-found.field-0
    c.in-Some.found c.in_ok-copy.ensures c.in-Some.is c.in_ok-found.ensures)
    (subst (λ (ps : List Placement). (f : SkeletonMap) → Places f.strands ps → KeepsPairs c.args.a.now.pairs c.args.b.now.pairs f → ⊥) c.deref-2.ensures.value
    (c.in_ok-breaks_order.ensures c.if-branch.true))

pub returns : goal.returns
returns c =
    found_extends (TakesItem c.args.a.now c.args.b.now c.args.item c.args.choice) (partial_view c.args.given.now) (partial_view c.in_ok-copy.copy) c.in_ok-found.field-0
    c.in-Some.found c.in_ok-copy.ensures c.in-Some.is c.in_ok-found.ensures

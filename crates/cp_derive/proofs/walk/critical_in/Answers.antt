use Rattle.cp_derive.proofs.Walks.{first_underivable, first_place, first_listed, leads_from_start, found_some}
use Rattle.cp_derive.specs.Walk.{LeadsToFirst}
use Rattle.cp_derive.proofs.walk.critical_in.Goals as goal
use Rattle.cp_derive.proofs.walk.critical_in.Goals.{In-Some}

leads : (c : In-Some) → LeadsToFirst c.args.known.now c.in-Some.term c.args.t.now c.find.new.here
leads c = leads_from_start _ _ _ _ _ c.new-path.ensures (found_some _ _ _ _ _ _ c.in-Some.is c.in_ok-find.ensures)

pub returns-in-Some-clause-none : goal.returns-in-Some-clause-none
returns-in-Some-clause-none c = (λ e. cc, λ d. absurd (first_underivable _ _ _ _ (leads c) d))

pub returns-in-Some-clause-first : goal.returns-in-Some-clause-first
returns-in-Some-clause-first c = first_listed _ _ _ _ (leads c)

pub returns-in-Some-clause-place : goal.returns-in-Some-clause-place
returns-in-Some-clause-place c = first_place _ _ _ _ (leads c)

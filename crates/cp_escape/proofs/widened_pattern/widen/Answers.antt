use Rattle.cp_theory.specs.Above.{encryptions_above}
use Rattle.cp_model.specs.Term.{Term}
use Rattle.cp_escape.specs.Escape.{IsFirstWith}
use Rattle.cp_escape.specs.WidenedPattern.{EndsBySending, StaysClosed}
use Rattle.cp_escape.proofs.Widened.{new_is_pattern, new_widens}
use Rattle.cp_escape.proofs.widened_pattern.widen.Goals.{In-Some, In_ok-locals}
use Rattle.cp_escape.proofs.widened_pattern.widen.Goals as goal

pub returns-in_default-clause-none : goal.returns-in_default-clause-none
returns-in_default-clause-none c p w =
    let never : (t : Term) → EndsBySending c.args.k.now c.args.child.now t → ⊥ = rw c.in_default.is at c.in_ok-message.ensures.none in
    never w.message w.sends

-- what the last strand ends by sending
sends : (c : In-Some) → EndsBySending c.args.k.now c.args.child.now c.in-Some.message
sends c = rw c.in-Some.is at c.in_ok-message.ensures.some

-- the encryption is the outermost that stays closed
first : (c : In_ok-locals) → IsFirstWith (StaysClosed c.args.k.now) (encryptions_above c.in-Some.message c.args.path.now) c.in-Some-2.encryption
first c = rw c.in-Some-2.is at c.in_ok-encryption.ensures.some

pub new-requires : goal.new-requires
new-requires c =
    let at = goal.at.new-requires c in
    new_is_pattern c.args.k.now c.args.child.now c.args.path.now c.in-Some.message (sends at.In-Some) c.in-Some-2.encryption (first at.In_ok-locals) c.in_ok-locals.locals
    c.in_ok-locals.ensures

pub returns-clause-some : goal.returns-clause-some
returns-clause-some c =
    let at = goal.at.returns-clause-some c in
    new_widens c.args.k.now c.args.child.now c.args.path.now c.in-Some.message (sends at.In-Some) c.in-Some-2.encryption (first at.In_ok-locals) c.in_ok-locals.locals
    c.in_ok-locals.ensures (c.in_ok-binds_nothing.ensures.0 c.if-not-branch.false) c.new.result c.new.ensures

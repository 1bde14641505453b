use Rattle.std.proofs.Common.{◌≡◌, ◌++◌, drop}
use Rattle.cp_derive.specs.Before.{messages_at}
use Rattle.cp_derive.proofs.before.messages_at.Given as goal

-- with the messages at the places that are left, all are there
abbrev pub invariant-loop-place : goal.invariant-loop-place
invariant-loop-place l =
    l.messages.items ++ messages_at (drop l.place-index l.places) l.transmissions ≡ messages_at l.places l.transmissions

-- The atoms that a strand has received.
use Rattle.std.specs.Prelude.{◌==◌, ◌&&◌, nat_lt, if◌then◌else◌, List, [], ◌∷◌, ◌++◌, take}
use Rattle.cp_lists.specs.Lists.{item_at}
use Rattle.cp_model.specs.Term.{AtomTerm, Term, tag_term, atom_term, pair_term, enc_term}
use Rattle.cp_model.specs.declared.strand.Event.{Event}
use Rattle.cp_model.specs.declared.strand.Event.TheVariants.{Send as send, Receive as recv}
use Rattle.cp_model.specs.declared.node.Node.{Node}
use Rattle.cp_model.specs.Skeleton.{Skeleton, skeleton_trace_or_none}
use Rattle.cp_model.specs.Given.{atoms_onto}
use Rattle.cp_skel.specs.Events.{LocatedEvent}

-- The atoms that a term carries, in preorder, left before right.
abbrev pub carried_atoms : Term → List AtomTerm
carried_atoms (tag_term bytes) = []
carried_atoms (atom_term v) = v ∷ []
carried_atoms (pair_term a b) = carried_atoms a ++ carried_atoms b
carried_atoms (enc_term a k) = carried_atoms a

-- The atoms that an event carries, if it is a reception.
abbrev pub received_atoms : Event Term → List AtomTerm
received_atoms (send t) = []
received_atoms (recv t) = carried_atoms t

-- The atoms that receptions carry, in the order of the events.
abbrev pub heard_in : List (Event Term) → List AtomTerm
heard_in [] = []
heard_in (e ∷ es) = received_atoms e ++ heard_in es

-- The atoms that receptions before node x on its strand carry, each once.
abbrev pub heard_before : Skeleton → Node → List AtomTerm
heard_before k x = atoms_onto [] (heard_in (take x.index (skeleton_trace_or_none (item_at k.strands x.strand))))

-- The atoms that an event carries, if it is a reception before node x on its strand.
abbrev pub heard_of : Node → LocatedEvent → List AtomTerm
heard_of x o = if (o.node.strand == x.strand) && nat_lt o.node.index x.index then received_atoms o.event else []

-- The atoms that receptions among these events that are before node x on its strand carry, in the order of the events.
abbrev pub heard_among : Node → List LocatedEvent → List AtomTerm
heard_among x [] = []
heard_among x (o ∷ os) = heard_of x o ++ heard_among x os

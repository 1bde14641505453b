use Rattle.cp_hom.proofs.embeddings.embed_along.Goals as goal

pub returns-then-has_no_choice-clause-none : goal.returns-then-has_no_choice-clause-none
returns-then-has_no_choice-clause-none c = λ f h.
    let started = rw c.in-Some.is at c.in_ok-given.ensures in
    c.has_no_choice.ensures c.if-has_no_choice.true f (started.general f (tt, tt) (record { strands = h.same_strands; values = h.same_values })) h

pub embed_at_once-requires-clause-started : goal.embed_at_once-requires-clause-started
embed_at_once-requires-clause-started c =
    let h = rw c.in-Some.is at c.in_ok-given.ensures in
    record { consistent = h.consistent (tt, tt); problem = h.sound }

pub search-requires-clause-started : goal.search-requires-clause-started
search-requires-clause-started c =
    let h = rw c.in-Some.is at c.in_ok-given.ensures in
    record { consistent = h.consistent (tt, tt); problem = h.sound }

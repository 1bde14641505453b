use Rattle.cp_general.proofs.needed.leads_from.Goals as goal

pub returns : goal.returns
returns c = λ _. c.if-node-strand.false

use Rattle.cp_stated.proofs.Among.{exact-atom}
use Rattle.cp_stated.proofs.values.has_atom.Goals as goal

pub returns : goal.returns
returns c = exact-atom c.has_atom.result c.args.values.now c.args.value.now c.has_atom.ensures.0 c.has_atom.ensures.1

use Rattle.std.proofs.Common.{◌≡◌, position, rules}
use Rattle.cp_intern.proofs.Places.{found_passes}
use Rattle.cp_intern.proofs.interner.Interner.find.Goals as goal

pub returns-clause-there : goal.returns-clause-there
returns-clause-there g c =
    let eq = g.K.PartialEq.eq c.args.k.now in
    let found : c.map.result ≡ position eq c.args.self.now = search rules in
    found_passes eq c.args.self.now c.map.result found

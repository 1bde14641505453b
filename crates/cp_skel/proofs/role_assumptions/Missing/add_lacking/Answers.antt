use Rattle.std.proofs.lemmas.Result.{on_ok_weaker}
use Rattle.cp_skel.specs.JoinedAssumptions.{joined_assumptions}
use Rattle.cp_skel.proofs.StrandsGive.{these-given}
use Rattle.cp_skel.proofs.role_assumptions.Missing.add_lacking.Goals as goal

pub returns-in-Some : goal.returns-in-Some
returns-in-Some c =
    let a = c.args.assumptions.now in
    on_ok_weaker c.add.result (these-given c.args.number c.args.strand.now c.in-Some.given.now (joined_assumptions a c.args.self.now) (joined_assumptions a c.add.new.self) c.in-Some.ensures) c.add.ensures

pub returns : goal.returns
returns c =
    let a = c.args.assumptions.now in
    on_ok_weaker c.add-2.result (these-given c.args.number c.args.strand.now c.in_ok-given.given (joined_assumptions a c.args.self.now) (joined_assumptions a c.add-2.new.self) c.in_ok-given.ensures) c.add-2.ensures

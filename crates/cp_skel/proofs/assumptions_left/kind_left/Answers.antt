use Rattle.std.proofs.Common.{Vec, Global, ◌∙◌}
use Rattle.std.proofs.lemmas.Result.{IfOk-weaker}
use Rattle.cp_skel.specs.Kinds.{stated_as, IsInFirstAlone}
use Rattle.cp_skel.specs.Deletion.{as_it_is, IsForgotten}
use Rattle.cp_strand.specs.declared.atom.Atom.{Atom}
use Rattle.cp_skel.proofs.GivenElsewhere.{forgotten_alone, leaves_same}
use Rattle.cp_skel.proofs.assumptions_left.kind_left.Goals as goal

pub returns : goal.returns
returns c =
    let own = c.args.own.now in
    let same = forgotten_alone (stated_as c.args.kind) c.args.gone c.args.strands.now c.index-strands-gone.result c.deref.result.now c.in_ok-gave.gave.items c.deref-2.result.now
    c.in_ok-elsewhere.elsewhere.items c.deref-3.result.now own c.requires c.index-strands-gone.is (c.deref.ensures.value ∙ c.new-none.ensures.items) c.deref-2.ensures.value c.deref-3.ensures.value
    c.in_ok-gave.ensures c.in_ok-elsewhere.ensures in
    IfOk-weaker c.atoms_left.result _ _
    (λ (v : Vec Atom Global) left. leaves_same (IsInFirstAlone c.deref-2.result.now c.deref-3.result.now own) (IsForgotten (stated_as c.args.kind) c.args.strands.now own c.args.gone) as_it_is
    c.args.atoms.now v.items same left)
    c.atoms_left.ensures

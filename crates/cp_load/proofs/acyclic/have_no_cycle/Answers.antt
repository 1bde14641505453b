use Rattle.std.proofs.Common.{map, subst}
use Rattle.std.proofs.lemmas.Result.{IfOk-weaker}
use Rattle.cp_load.specs.Acyclic.{IsAcyclicIf}
use Rattle.cp_load.specs.declared.acyclic.Ranked.{Ranked}
use Rattle.cp_load.proofs.NoCycles.{acyclic-within}
use Rattle.cp_load.proofs.acyclic.have_no_cycle.Goals as goal

pub returns : goal.returns
returns c =
    IfOk-weaker c.none_leads_back.result _ _
    (λ b h. acyclic-within b c.args.pairs.now (map (λ (r : Ranked). r.pair) c.in_ok-ranked.ranked.items) c.in_ok-ranked.ensures
    (subst (λ rs. IsAcyclicIf b (map (λ (r : Ranked). r.pair) rs)) c.deref-2.ensures.value h))
    c.none_leads_back.ensures

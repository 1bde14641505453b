use Rattle.std.proofs.Common.{refl, arith}
use Rattle.cp_lists.proofs.Members.{item_is_in}
use Rattle.cp_model.proofs.CarriedParts.{not_both}
use Rattle.cp_derive.proofs.direct.is_sent_directly.Goals as goal

pub returns-then-is_listed : goal.returns-then-is_listed
returns-then-is_listed c = λ _. record {
  transmission = c.transmission-item.result;
  listed = item_is_in c.args.transmissions.now c.loop-transmission.transmission-index _ (omega arith) c.transmission-item.is;
  message = c.same.ensures.0 c.if-same.true;
  leads = c.is_listed.ensures c.if-is_listed.true;
}

pub returns : goal.returns
returns c = λ r. absurd (not_both refl r)

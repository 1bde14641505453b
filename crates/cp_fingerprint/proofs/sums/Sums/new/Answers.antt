use Rattle.cp_fingerprint.proofs.SumsBeside.{empty_sums}
use Rattle.cp_fingerprint.proofs.sums.Sums.new.Goals as goal

pub returns : goal.returns
returns c = empty_sums (record { sums = c.in_ok-sums.sums; more = c.new.result; places = c.in_ok-places.places }) c.new.ensures c.in_ok-sums.ensures.items c.in_ok-places.ensures.items

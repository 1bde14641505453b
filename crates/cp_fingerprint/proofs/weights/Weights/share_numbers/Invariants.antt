use Rattle.std.proofs.Common.{map, drop}
use Rattle.cp_fingerprint.specs.SharedValues.{listened, strand_slots, slots_of, bucket_key_of, light_share_of}
use Rattle.cp_fingerprint.proofs.PlaceShares.{StillToAdd}
use Rattle.cp_fingerprint.proofs.weights.Weights.share_numbers.Given as goal

abbrev pub invariant-loop-count : goal.invariant-loop-count
invariant-loop-count l =
    StillToAdd (listened l.self.strands) (slots_of l.self) l.weights.items (drop l.count-index (map strand_slots l.self.strands)) l.bucket_key l.light_share l.rest (bucket_key_of l.self) (light_share_of l.self)

-- Depths.
use Rattle.std.proofs.Common.{◌≤◌, arith}
use Rattle.cp_model.specs.Term.{Term, tag_term, atom_term, pair_term, enc_term}
use Rattle.cp_model.specs.Positions.{depth_of}

pub depth_positive : (t : Term) → 1 ≤ depth_of t
depth_positive (tag_term bytes) = omega arith
depth_positive (atom_term a) = omega arith
depth_positive (pair_term a b) = omega arith
depth_positive (enc_term a k) = omega arith

use Rattle.std.proofs.Common.{◌≡◌, map, drop}
use Rattle.cp_language.specs.Words.{is_one_of}
use Rattle.cp_items.proofs.heads.is_one_of.Given as goal

abbrev pub invariant-loop-other : goal.invariant-loop-other
invariant-loop-other l = is_one_of l.word (map (λ w. w.now) (drop l.other-index l.words)) ≡ is_one_of l.word (map (λ w. w.now) l.words)

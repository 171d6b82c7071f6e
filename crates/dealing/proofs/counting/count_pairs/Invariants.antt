use Rattle.std.proofs.Common.{◌&&◌, ltb, length}
use Rattle.dealing.specs.Counting.{Counted, both_hit}
use Rattle.dealing.proofs.counting.count_pairs.Given as goal

abbrev pub invariant-loop-i : goal.invariant-loop-i
invariant-loop-i l = Counted (length l.hit) (λ a b. ltb a l.i && both_hit l.hit a b) l.initial.pairs l.pairs

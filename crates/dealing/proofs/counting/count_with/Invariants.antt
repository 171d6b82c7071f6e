use Rattle.std.proofs.Common.{false, ◌&&◌, eqb, ltb, length, get_or}
use Rattle.dealing.specs.Counting.{Counted}
use Rattle.dealing.proofs.counting.count_with.Given as goal

abbrev pub invariant-loop-j : goal.invariant-loop-j
invariant-loop-j l = Counted (length l.hit) (λ a b. eqb a l.i && (ltb b l.j && get_or l.hit b false)) l.initial.pairs l.pairs

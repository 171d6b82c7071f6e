use Rattle.std.proofs.Common.{◌≡◌, ◌++◌, take, drop}
use Rattle.dealing.specs.Special.{cells_known, sizes_in}
use Rattle.dealing.specs.Stages.{grown}
use Rattle.dealing.proofs.counting.grow.Given as goal

abbrev pub invariant-loop-i : goal.invariant-loop-i
invariant-loop-i l =
    (take l.i (sizes_in l.special) ++ grown (drop l.i l.hit) (drop l.i (sizes_in l.special)) ≡ grown l.hit (sizes_in l.initial.special))
    × (drop l.i (sizes_in l.special) ≡ drop l.i (sizes_in l.initial.special))
    × (cells_known l.special ≡ cells_known l.initial.special)

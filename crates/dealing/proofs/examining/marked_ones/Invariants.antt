use Rattle.std.proofs.Common.{◌≡◌, ◌+◌, ◌≤◌, ◌++◌, length, take, drop}
use Rattle.clusters.specs.Roots.{roots_of}
use Rattle.dealing.specs.Examining.{seen}
use Rattle.dealing.specs.Special.{cells_known}
use Rattle.dealing.specs.Stages.{trues}
use Rattle.dealing.proofs.examining.marked_ones.Given as goal

abbrev pub invariant-loop-i : goal.invariant-loop-i
invariant-loop-i l =
    (take l.i l.hit ++ seen l.marked.marks.now (roots_of l.parents) (drop l.i (cells_known l.special)) ≡ seen l.marked.marks.now (roots_of l.parents) (cells_known l.special))
    × (l.count + trues (seen l.marked.marks.now (roots_of l.parents) (drop l.i (cells_known l.special))) ≡ trues (seen l.marked.marks.now (roots_of l.parents) (cells_known l.special)))
    × (l.count ≤ l.i)
    × (length l.hit ≡ length l.initial.hit)

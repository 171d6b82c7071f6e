use Rattle.std.proofs.Common.{◌≡◌, ◌+◌, ◌-◌, length}
use Rattle.std.specs.List.{range_with_len}
use Rattle.dealing.specs.Clustering.{roots_in, known, sizes, GoesOn}
use Rattle.dealing.specs.Counting.{pair_count}
use Rattle.dealing.specs.Stages.{merge_row}
use Rattle.dealing.proofs.clustering.SpecialClusters.merge_with.Given as goal

abbrev pub invariant-loop-j : goal.invariant-loop-j
invariant-loop-j l =
    (merge_row l.share (known l.initial.self) (sizes l.initial.self) (pair_count l.initial.self.pairs.now) l.i (range_with_len l.j (length (known l.initial.self) - l.j)) (roots_in l.self.clusters)
    ≡ merge_row l.share (known l.initial.self) (sizes l.initial.self) (pair_count l.initial.self.pairs.now) l.i (range_with_len (l.i + 1) (length (known l.initial.self) - (l.i + 1))) (roots_in l.initial.self.clusters))
    × (l.self.special ≡ l.initial.self.special)
    × (l.self.pairs.now ≡ l.initial.self.pairs.now)
    × GoesOn l.initial.self l.self

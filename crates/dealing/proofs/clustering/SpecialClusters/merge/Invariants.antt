use Rattle.std.proofs.Common.{◌≡◌, ◌-◌, length}
use Rattle.std.specs.List.{range_with_len}
use Rattle.dealing.specs.Clustering.{roots_in, known, sizes, GoesOn}
use Rattle.dealing.specs.Counting.{pair_count}
use Rattle.dealing.specs.Stages.{merge_rows}
use Rattle.dealing.proofs.clustering.SpecialClusters.merge.Given as goal

abbrev pub invariant-loop-i : goal.invariant-loop-i
invariant-loop-i l =
    (merge_rows l.share (known l.initial.self) (sizes l.initial.self) (pair_count l.initial.self.pairs.now) (range_with_len l.i (length (known l.initial.self) - l.i)) (roots_in l.self.clusters)
    ≡ merge_rows l.share (known l.initial.self) (sizes l.initial.self) (pair_count l.initial.self.pairs.now) (range_with_len 0 (length (known l.initial.self))) (roots_in l.initial.self.clusters))
    × (sizes l.self ≡ sizes l.initial.self)
    × (l.self.pairs.now ≡ l.initial.self.pairs.now)
    × GoesOn l.initial.self l.self

use Rattle.std.proofs.Common.{◌≡◌, [], length, take}
use Rattle.dealing.specs.Clustering.{roots_in, named_by_all, known, sizes, IsAt, GoesOn}
use Rattle.dealing.specs.Stages.{fused_of, fuse}
use Rattle.dealing.proofs.clustering.SpecialClusters.fuse.Given as goal

abbrev pub invariant-loop-found : goal.invariant-loop-found
invariant-loop-found l =
    IsAt l.self (fuse (known l.initial.self) (take l.found-index (named_by_all l.initial.self.clusters)) (fused_of (roots_in l.initial.self.clusters) (sizes l.initial.self) []))
    × GoesOn l.initial.self l.self
    × (length l.hit ≡ length l.self.special.items)

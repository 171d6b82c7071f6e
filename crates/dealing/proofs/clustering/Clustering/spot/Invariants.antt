use Rattle.std.proofs.Common.{◌≡◌, ◌≤◌, [], length, drop, replicate}
use Rattle.dealing.specs.Clustering.{roots_in, cell_total, named_by_all, Continues}
use Rattle.dealing.specs.Examining.{AllBelow}
use Rattle.dealing.specs.Special.{cells_known, sizes_in}
use Rattle.dealing.specs.Stages.{clusters_of, spot}
use Rattle.dealing.proofs.clustering.Clustering.spot.Given as goal

abbrev pub invariant-loop-choice : goal.invariant-loop-choice
invariant-loop-choice l =
    (spot (named_by_all l.initial.self) (drop l.choice-index l.choices) (clusters_of (roots_in l.self) (cells_known l.special.items))
    ≡ spot (named_by_all l.initial.self) l.choices (clusters_of (roots_in l.initial.self) []))
    × (length l.special.items ≤ l.choice-index)
    × AllBelow (cell_total l.initial.self) (cells_known l.special.items)
    × (sizes_in l.special.items ≡ replicate (length l.special.items) 0)
    × Continues l.initial.self l.self

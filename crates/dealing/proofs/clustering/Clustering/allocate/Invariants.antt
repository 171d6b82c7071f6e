use Rattle.std.proofs.Common.{◌≡◌, ◌≤◌, ◌∷◌, length}
use Rattle.dealing.specs.Clustering.{roots_in, named_by_all}
use Rattle.dealing.proofs.Allocated.{Queued}
use Rattle.dealing.proofs.clustering.Clustering.allocate.Given as goal

abbrev pub invariant-loop-found : goal.invariant-loop-found
invariant-loop-found l =
    (l.made ≤ l.found-index) × (length l.queue_of ≡ 1024) × (length l.lane_of.items ≡ l.found-index)
    × Queued (roots_in l.self) (named_by_all l.self) l.found-index l.made (l.free_queue ∷ l.queue_of) l.lane_of.items

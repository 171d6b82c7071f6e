use Rattle.std.proofs.Common.{◌-◌, length}
use Rattle.clusters.proofs.forest.+find.Given as goal

abbrev pub decreases-find : goal.decreases-find
decreases-find l = length l.parents.now - l.cell

use Rattle.clusters.proofs.RootLists.{join_roots}
use Rattle.clusters.proofs.forest.joining_makes_one_cluster_of_two.Goals as goal

pub returns : goal.returns
returns c = join_roots

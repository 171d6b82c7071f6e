-- What clusters under work say, by the roots of the cells.
use Rattle.std.specs.Prelude.{◌≡◌, ℕ, ◌<◌, List, length, replicate}
use Rattle.clusters.specs.Roots.{roots_of}
use Rattle.yard.specs.declared.batch.Move.{Move}
use Rattle.dealing.specs.declared.clustering.Clustering.{Clustering}
use Rattle.dealing.specs.declared.clustering.SpecialClusters.{SpecialClusters}
use Rattle.dealing.specs.Counting.{Fusing, Countable}
use Rattle.dealing.specs.Prepared.{cells_of, all_cells, move_count}
use Rattle.dealing.specs.Special.{cells_known, sizes_in}
use Rattle.dealing.specs.Stages.{Fused}

abbrev pub roots_in : Clustering → List ℕ
roots_in c = roots_of c.parents.now

abbrev pub cell_total : Clustering → ℕ
cell_total c = length c.parents.now

-- the active cells of a move, and of each move of the batch
abbrev pub named_by : Clustering → Move → List ℕ
named_by c m = cells_of c.prepared m

abbrev pub named_by_all : Clustering → List (List ℕ)
named_by_all c = all_cells c.prepared

abbrev pub move_total : Clustering → ℕ
move_total c = move_count c.prepared

-- the same batch and the same lent lists as before, so that the lender knows them again
pub record Continues (a b : Clustering) : Type 0 where
  pub prepared : b.prepared ≡ a.prepared
  pub long : length b.parents.now ≡ length a.parents.now
  pub parents : b.parents.ghost_name ≡ a.parents.ghost_name
  pub marks : b.marks.ghost_name ≡ a.marks.ghost_name

abbrev pub known : SpecialClusters → List ℕ
known s = cells_known s.special.items

abbrev pub sizes : SpecialClusters → List ℕ
sizes s = sizes_in s.special.items

-- they are at a state of fuse
abbrev pub IsAt : SpecialClusters → Fused → Type 0
IsAt s f = Fusing (known s) f (roots_in s.clusters) (sizes s) s.pairs.now s.skipped

-- no move is fused yet
pub record Fresh (s : SpecialClusters) : Type 0 where
  pub sizes : sizes s ≡ replicate (length (known s)) 0
  pub pairs : s.pairs.now ≡ replicate 4096 0
  pub skipped : s.skipped ≡ 0

-- each size and each count can grow by 1
pub record Growable (s : SpecialClusters) : Type 0 where
  pub countable : Countable (length (known s)) (sizes s) s.pairs.now
  pub skipped : s.skipped < 65535

-- the same special clusters, of clusters that go on
pub record GoesOn (a b : SpecialClusters) : Type 0 where
  pub clusters : Continues a.clusters b.clusters
  pub known : known b ≡ known a
  pub pairs : b.pairs.ghost_name ≡ a.pairs.ghost_name

-- Spot, fuse and merge, over the list of roots by cell. A move is the list of its active cells; a special cluster is known by one of its cells, so that its number lasts as it grows.
use Rattle.std.specs.Prelude.{ℕ, ◌+◌, ◌-◌, ◌*◌, Bool, false, cond, ◌&&◌, ◌||◌, List, [], ◌∷◌, ◌++◌, length, replicate, ◌==◌, nat_le, nat_lt, slice_index, slice_index_or}
use Rattle.std.specs.List.{count_by, range_with_len}
use Rattle.clusters.specs.Roots.{joined_roots}

-- r is the root of one of the cells
abbrev pub rooted : List ℕ → List ℕ → ℕ → Bool
rooted rs [] r = false
rooted rs (c ∷ cs) r = slice_index rs c == r || rooted rs cs r

-- which special clusters the cells touch; each is known by one of its cells
abbrev pub hits : List ℕ → List ℕ → List ℕ → List Bool
hits rs [] cs = []
hits rs (p ∷ special) cs = rooted rs cs (slice_index rs p) ∷ hits rs special cs

-- how many of the tests hold
abbrev pub trues : List Bool → ℕ
trues bs = count_by (λ b. b) bs

-- the clusters of cells joined with that of the first
abbrev pub joined_with : ℕ → List ℕ → List ℕ → List ℕ
joined_with first [] rs = rs
joined_with first (c ∷ cs) rs = joined_with first cs (joined_roots first c rs)

-- the clusters of the cells joined into one
abbrev pub joined_cells : List ℕ → List ℕ → List ℕ
joined_cells cs rs = joined_with (slice_index cs 0) cs rs

-- the roots by cell, and a cell of each special cluster, in the order of their numbers
pub record Clusters : Type 0 where
  pub roots : List ℕ
  pub special : List ℕ

abbrev pub clusters_of : List ℕ → List ℕ → Clusters
clusters_of rs special = record { roots = rs; special = special }

-- a choice counts if its move has an active cell and touches no special cluster
abbrev pub counts : List ℕ → List ℕ → List ℕ → Bool
counts rs special [] = false
counts rs special (c ∷ cs) = trues (hits rs special (c ∷ cs)) == 0

-- spot: one choice, then all of them
abbrev pub spot_one : List ℕ → Clusters → Clusters
spot_one cs k = cond (counts k.roots k.special cs) (clusters_of (joined_cells cs k.roots) (k.special ++ slice_index cs 0 ∷ [])) k

abbrev pub spot : List (List ℕ) → List ℕ → Clusters → Clusters
spot moves [] k = k
spot moves (m ∷ ms) k = spot moves ms (spot_one (slice_index_or moves m []) k)

-- the sizes of the special clusters that are hit grow by 1
abbrev pub grown : List Bool → List ℕ → List ℕ
grown [] sizes = sizes
grown (b ∷ bs) [] = []
grown (b ∷ bs) (n ∷ sizes) = (n + cond b 1 0) ∷ grown bs sizes

pub record Fused : Type 0 where
  pub roots : List ℕ
  pub sizes : List ℕ
  pub skips : List (List Bool)  -- of each skipped move, latest first: which special clusters it touches

abbrev pub fused_of : List ℕ → List ℕ → List (List Bool) → Fused
fused_of rs sizes skips = record { roots = rs; sizes = sizes; skips = skips }

-- fuse: one move, then all of them
abbrev pub fuse_one : List ℕ → List ℕ → Fused → Fused
fuse_one special cs f =
    let hit = hits f.roots special cs in
    cond (nat_lt 1 (trues hit))
    (fused_of f.roots f.sizes (hit ∷ f.skips))
    (fused_of (joined_cells cs f.roots) (grown hit f.sizes) f.skips)

abbrev pub fuse : List ℕ → List (List ℕ) → Fused → Fused
fuse special [] f = f
fuse special (cs ∷ css) f = fuse special css (fuse_one special cs f)

-- how many of the skipped moves touch both
abbrev pub count_pair : ℕ → ℕ → List (List Bool) → ℕ
count_pair i j [] = 0
count_pair i j (s ∷ ss) = cond (slice_index_or s i false && slice_index_or s j false) 1 0 + count_pair i j ss

-- merge, with the sizes and counts that fuse left: two special clusters are joined if enough of their moves were skipped
abbrev pub merge_at : ℕ → List ℕ → List ℕ → (ℕ → ℕ → ℕ) → ℕ → ℕ → List ℕ → List ℕ
merge_at share special sizes count i j rs =
    cond (nat_le (share * (slice_index sizes i + slice_index sizes j + count i j)) (1000 * count i j)) (joined_roots (slice_index special i) (slice_index special j) rs) rs

abbrev pub merge_row : ℕ → List ℕ → List ℕ → (ℕ → ℕ → ℕ) → ℕ → List ℕ → List ℕ → List ℕ
merge_row share special sizes count i [] rs = rs
merge_row share special sizes count i (j ∷ js) rs = merge_row share special sizes count i js (merge_at share special sizes count i j rs)

abbrev pub merge_rows : ℕ → List ℕ → List ℕ → (ℕ → ℕ → ℕ) → List ℕ → List ℕ → List ℕ
merge_rows share special sizes count [] rs = rs
merge_rows share special sizes count (i ∷ is) rs =
    merge_rows share special sizes count is (merge_row share special sizes count i (range_with_len (i + 1) (length special - (i + 1))) rs)

abbrev pub merge : ℕ → ℕ → List ℕ → Fused → List ℕ
merge share moves special f =
    cond (nat_le (share * moves) (1000 * length f.skips))
    (merge_rows share special f.sizes (λ i j. count_pair i j f.skips) (range_with_len 0 (length special)) f.roots) f.roots

-- the roots by cell after the four stages
abbrev pub spotted : ℕ → List (List ℕ) → List ℕ → Clusters
spotted cells moves choices = spot moves choices (clusters_of (range_with_len 0 cells) [])

abbrev pub fused_all : List (List ℕ) → Clusters → Fused
fused_all moves k = fuse k.special moves (fused_of k.roots (replicate (length k.special) 0) [])

unfoldable pub clustered : ℕ → ℕ → List (List ℕ) → List ℕ → List ℕ
clustered cells share moves choices =
    let k = spotted cells moves choices in merge share (length moves) k.special (fused_all moves k)

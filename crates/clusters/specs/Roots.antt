-- Clusters as the roots of their cells. A list of parents says which cell stands above each; a parent counts only if it is a higher cell of the list.
use Rattle.std.specs.Prelude.{◌≡◌, ℕ, zero, suc, ◌<◌, ◌≤◌, min, max, cond, ◌&&◌, ◌||◌, List, map, length, Some, None, Option, ◌==◌, nat_le, nat_lt, slice_index, slice_set}
use Rattle.std.specs.List.{range_with_len}
use Rattle.std.specs.Option.{unwrap_or}

-- the cell above a cell, if there is one
abbrev pub above_of : List ℕ → ℕ → Option ℕ
above_of ps x = cond (nat_lt x (slice_index ps x) && nat_lt (slice_index ps x) (length ps)) (Some (slice_index ps x)) None

-- the cell one step up, or the cell itself where it is a root
unfoldable pub up_of : List ℕ → ℕ → ℕ
up_of ps x = unwrap_or (above_of ps x) x

-- n steps up
abbrev pub climb : ℕ → List ℕ → ℕ → ℕ
climb zero ps x = x
climb (suc n) ps x = climb n ps (up_of ps x)

-- the topmost cell; as many steps as there are cells always suffice
unfoldable pub root_of : List ℕ → ℕ → ℕ
root_of ps x = climb (length ps) ps x

-- the root of every cell, by cell
unfoldable pub roots_of : List ℕ → List ℕ
roots_of ps = map (root_of ps) (range_with_len 0 (length ps))

-- the lower root under the higher, where both are cells of the list and the higher has 16 bits at most
abbrev pub put_under : ℕ → ℕ → List ℕ → List ℕ
put_under low high ps = cond (nat_lt low high && nat_lt high (length ps) && nat_le high 65535) (slice_set ps low high) ps

-- the parents after the clusters of two cells were joined
abbrev pub joined : ℕ → ℕ → List ℕ → List ℕ
joined a b ps = put_under (min (root_of ps a) (root_of ps b)) (max (root_of ps a) (root_of ps b)) ps

-- the root r after the roots p and q were joined
abbrev pub fused : ℕ → ℕ → ℕ → ℕ
fused p q r = cond (r == p || r == q) (max p q) r

-- the roots after the clusters of two cells were joined
unfoldable pub joined_roots : ℕ → ℕ → List ℕ → List ℕ
joined_roots a b rs = map (fused (slice_index rs a) (slice_index rs b)) rs

abbrev pub JoiningMakesOneClusterOfTwo : Type 0
JoiningMakesOneClusterOfTwo =
    (ps : List ℕ) (a b : ℕ) → a < length ps → b < length ps → length ps ≤ 65536 → roots_of (joined a b ps) ≡ joined_roots a b (roots_of ps)

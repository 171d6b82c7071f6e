-- Special clusters in lists: each by one of its cells, their sizes, and the counts of their pairs.
use Rattle.std.specs.Prelude.{◌≡◌, ℕ, ◌+◌, ◌*◌, ◌<◌, ◌≤◌, Bool, false, cond, ◌&&◌, List, [], ◌∷◌, ◌++◌, length, Some, None, Option, slice_index, slice_index_or}
use Rattle.dealing.specs.Examining.{AllBelow}
use Rattle.dealing.specs.Stages.{Fused, count_pair}

-- the place of a pair in the pair counts
abbrev pub pair_place : ℕ → ℕ → ℕ
pair_place i j = 64 * i + j

abbrev pub pair_count : List ℕ → ℕ → ℕ → ℕ
pair_count pairs i j = slice_index pairs (pair_place i j)

-- at most 64 special clusters, each known by a cell below so many
pub record Specials (cells : ℕ) (special : List ℕ) : Type 0 where
  pub few : length special ≤ 64
  pub below : AllBelow cells special

-- one special cluster more, or none
abbrev pub with_one : List ℕ → Option ℕ → List ℕ
with_one special None = special
with_one special (Some cell) = special ++ cell ∷ []

-- lists for the sizes and pair counts of so many special clusters, in which each can grow by 1
pub record Countable (n : ℕ) (sizes pairs : List ℕ) : Type 0 where
  pub sizes_long : length sizes ≡ n
  pub sizes_room : AllBelow 65535 sizes
  pub pairs_long : length pairs ≡ 4096
  pub pairs_room : (a b : ℕ) → a < b → b < n → pair_count pairs a b < 65535

-- each pair's count has grown by 1 where a test of the pair holds
abbrev pub Counted : ℕ → (ℕ → ℕ → Bool) → List ℕ → List ℕ → Type 0
Counted n test before after = (a b : ℕ) → a < b → b < n → pair_count after a b ≡ pair_count before a b + cond (test a b) 1 0

abbrev pub both_hit : List Bool → ℕ → ℕ → Bool
both_hit hit a b = slice_index_or hit a false && slice_index_or hit b false

-- what the lists hold of a state of fuse
pub record Fusing (special : List ℕ) (f : Fused) (rs ns ps : List ℕ) (n : ℕ) : Type 0 where
  pub roots : rs ≡ f.roots
  pub sizes : ns ≡ f.sizes
  pub skipped : n ≡ length f.skips
  pub pairs : (a b : ℕ) → a < b → b < length special → pair_count ps a b ≡ count_pair a b f.skips

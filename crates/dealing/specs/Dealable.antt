-- What the stages ask of a batch and of the lists that they work with.
use Rattle.std.specs.Prelude.{◌≡◌, ℕ, ◌≤◌, List, length}
use Rattle.yard.specs.Batches.{Listed}
use Rattle.dealing.specs.Active.{Within}
use Rattle.dealing.specs.Examining.{AllBelow}
use Rattle.dealing.specs.Opening.{Lists}

-- a batch that can be dealt
pub record Dealable (b : Listed) : Type 0 where
  pub cells : b.cells ≤ 1024
  pub moves : length b.moves ≤ 256
  pub choices : length b.choices ≤ 64
  pub within : Within b.cells b.steps
  pub chosen : AllBelow (length b.moves) b.choices

-- working lists for so many cells
pub record Working (cells : ℕ) (parents marks pairs : List ℕ) : Type 0 where
  pub parents_long : length parents ≡ cells
  pub marks_long : length marks ≡ cells
  pub pairs_long : length pairs ≡ 4096

-- lists of full lengths to fill and to work with
pub record Roomy (l : Lists) : Type 0 where
  pub line_up_long : 256 ≤ length l.line_up
  pub lanes_long : 257 ≤ length l.lanes
  pub outcomes_long : 256 ≤ length l.outcomes
  pub parents_long : 1024 ≤ length l.parents
  pub marks_long : 1024 ≤ length l.marks
  pub pairs_long : 4096 ≤ length l.pairs

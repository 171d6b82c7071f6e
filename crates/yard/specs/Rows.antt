-- How a kind's values stand in a sheet: an occupancy row is the cell, at place 0, and the words of its value.
use Rattle.std.specs.Prelude.{◌≡◌, ℕ, ◌<◌, Some, Option}

pub record Rows (V : Type 0) : Type 0 where
  pub letter : ℕ  -- the letter of the kind's sheets, by its code
  pub words : ℕ  -- the words of a row, the cell among them
  pub unnamed : V  -- the value of a cell that no row names
  pub takes : ℕ → ℕ → V → Option V  -- the value with the word at a place; nothing where the word is out of range
  pub tells : ℕ → V → ℕ  -- the word at a place

-- a word that was taken is told again, and so are the words before it
pub record ToldAgain {V : Type 0} (rows : Rows V) : Type 0 where
  pub itself : (k n : ℕ) (v w : V) → 0 < k → k < rows.words → rows.takes k n v ≡ Some w → rows.tells k w ≡ n
  pub before : (j k n : ℕ) (v w : V) → 0 < j → j < k → k < rows.words → rows.takes k n v ≡ Some w → rows.tells j w ≡ rows.tells j v

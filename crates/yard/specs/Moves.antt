-- The cells that steps and moves name and write, and when two moves conflict.
use Rattle.std.specs.Prelude.{◌≡◌, ℕ, Bool, true, false, ◌&&◌, ◌||◌, List, [], ◌∷◌, take, drop, ◌==◌}
use Rattle.yard.specs.declared.batch.Step.{Step}
use Rattle.yard.specs.declared.batch.Move.{Move}
use Rattle.yard.specs.Rules.{Rules}

-- an entry of a list of steps, and of a list of moves, that nothing has been written to; 32 is the space, which is no order's letter
abbrev pub nothing_written : Step
nothing_written = record { cell = 0; order = record { letter = 32; number = 0 } }

abbrev pub nothing_in_moves : Move
nothing_in_moves = record { label = 0; first = 0; count = 0 }

abbrev pub is_in : ℕ → List ℕ → Bool
is_in x [] = false
is_in x (y ∷ ys) = y == x || is_in x ys

-- the steps of a move
abbrev pub steps_of : List Step → Move → List Step
steps_of steps m = take m.count (drop m.first steps)

-- the cells that a step names
abbrev pub names : Step → List ℕ
names s = s.cell ∷ []

-- some of the steps names the cell
abbrev pub named : List Step → ℕ → Bool
named [] c = false
named (s ∷ ss) c = is_in c (names s) || named ss c

module _ {V : Type 0} (R : Rules V) where
  abbrev pub writes : Step → Bool
  writes s = R.writes s.order.letter s.order.number

  -- some of the steps writes the cell
  abbrev pub written : List Step → ℕ → Bool
  written [] c = false
  written (s ∷ ss) c = (writes s && is_in c (names s)) || written ss c

-- two moves, as lists of steps, conflict: there is a cell that both name and that one of them writes
pub record Conflict {V : Type 0} (R : Rules V) (a b : List Step) : Type 0 where
  pub cell : ℕ
  pub one : named a cell ≡ true
  pub other : named b cell ≡ true
  pub writes_it : (written R a cell || written R b cell) ≡ true

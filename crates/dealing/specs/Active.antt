-- Prepare: the active cells of a batch, and which of them each move names.
use Rattle.std.specs.Prelude.{ℕ, ◌+◌, ◌<◌, ◌≤◌, Bool, false, cond, List, [], ◌∷◌, map, length, get_or, Some, None, Option, slice_index_or}
use Rattle.std.specs.List.{range_with_len}
use Rattle.yard.specs.declared.batch.Move.{Move}
use Rattle.yard.specs.declared.batch.Step.{Step}
use Rattle.yard.specs.Moves.{names, written, steps_of}
use Rattle.yard.specs.Rules.{Rules}

-- what a list of moves, or of steps, gives past its end
abbrev pub no_move : Move
no_move = record { label = 0; first = 0; count = 0 }

abbrev pub no_step : Step
no_step = record { cell = 0; order = record { letter = 0; number = 0 } }

-- which cells are active: some step of the batch writes them
unfoldable pub active_flags : {V : Type 0} → Rules V → ℕ → List Step → List Bool
active_flags R cells steps = map (written R steps) (range_with_len 0 cells)

-- the active ones of some cells, before others
abbrev pub kept_cells : List Bool → List ℕ → List ℕ → List ℕ
kept_cells act [] rest = rest
kept_cells act (c ∷ cs) rest = cond (slice_index_or act c false) (c ∷ kept_cells act cs rest) (kept_cells act cs rest)

-- the active cells that some steps name, be it only by a look, in the order of the steps
abbrev pub active_cells : List Bool → List Step → List ℕ
active_cells act [] = []
active_cells act (s ∷ ss) = kept_cells act (names s) (active_cells act ss)

-- the first of some cells
abbrev pub head_of : List ℕ → Option ℕ
head_of [] = None
head_of (c ∷ cs) = Some c

-- the active cells of each move
abbrev pub move_cells : List Bool → List Step → List Move → List (List ℕ)
move_cells act steps [] = []
move_cells act steps (m ∷ ms) = active_cells act (steps_of steps m) ∷ move_cells act steps ms

-- the cells of the steps are below n
abbrev pub Within : ℕ → List Step → Type 0
Within n steps = (k : ℕ) → k < length steps → (get_or steps k no_step).cell < n

-- the moves' steps are among the steps
abbrev pub Inside : List Step → List Move → Type 0
Inside steps moves = (k : ℕ) → k < length moves → (get_or moves k no_move).first + (get_or moves k no_move).count ≤ length steps

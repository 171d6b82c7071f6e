-- The lists of a run: those that no call alters, those that calls alter, and the rows of lanes.
use Rattle.std.specs.Prelude.{ℕ, ◌+◌, Bool, List, length, nat_le, nat_lt, slice_index, slice_index_or, slice_range}
use Rattle.yard.specs.declared.batch.Step.{Step}
use Rattle.yard.specs.declared.batch.Move.{Move}
use Rattle.yard.specs.declared.run.LaneRow.{LaneRow}
use Rattle.yard.specs.Moves.{steps_of}
use Rattle.yard.specs.Runs.{Numbers, End}
use Rattle.dealing.specs.Active.{no_move, no_step}

-- what no call alters: the numbers of the opening, the moves, their steps, the line-up
pub record Script : Type 0 where
  pub numbers : Numbers
  pub moves : List Move
  pub steps : List Step
  pub line_up : List ℕ

abbrev pub script : Numbers → List Move → List Step → List ℕ → Script
script numbers moves steps line_up = record { numbers = numbers; moves = moves; steps = steps; line_up = line_up }

-- what calls alter: the values of the board, the saved list, how each move ended, the rows of the lanes
pub record State (V : Type 0) : Type 0 where
  pub values : List V
  pub saved : List V
  pub ends : List End
  pub lanes : List LaneRow

abbrev pub state : {V : Type 0} → List V → List V → List End → List LaneRow → State V
state values saved ends lanes = record { values = values; saved = saved; ends = ends; lanes = lanes }

-- what a list of rows gives past its end
abbrev pub no_row : LaneRow
no_row = record { first = 0; next = 0; end = 0; taken = 0 }

abbrev pub row_of : {V : Type 0} → State V → ℕ → LaneRow
row_of st a = slice_index_or st.lanes a no_row

-- the part of a list from a place to before another
abbrev pub part : {A : Type 0} → List A → ℕ → ℕ → List A
part xs from to = slice_range xs from to

module _ (S : Script) where
  abbrev pub move_at : ℕ → Move
  move_at m = slice_index_or S.moves m no_move

  abbrev pub step_at : ℕ → Step
  step_at i = slice_index_or S.steps i no_step

  -- the steps of a move
  abbrev pub move_steps : ℕ → List Step
  move_steps m = steps_of S.steps (move_at m)

  -- the moves of a row, and of a lane
  abbrev pub row_moves : LaneRow → List ℕ
  row_moves row = part S.line_up row.first row.end

  abbrev pub lane_moves : {V : Type 0} → State V → ℕ → List ℕ
  lane_moves st a = row_moves (row_of st a)

  -- the saved list has a place for each step
  abbrev pub room_to_save : {V : Type 0} → State V → Bool
  room_to_save st = nat_le S.numbers.steps (length st.saved)

  -- the move that a lane has under way, and the place of its step that is due
  abbrev pub due : LaneRow → ℕ
  due row = slice_index S.line_up row.next

  abbrev pub due_place : LaneRow → ℕ
  due_place row = (move_at (due row)).first + row.taken

  -- the move has a step after the one that is due
  abbrev pub more : LaneRow → Bool
  more row = nat_lt (row.taken + 1) (move_at (due row)).count

-- the row after a step, and after the end of a move
abbrev pub onward : LaneRow → LaneRow
onward row = record { first = row.first; next = row.next; end = row.end; taken = row.taken + 1 }

abbrev pub over : LaneRow → LaneRow
over row = record { first = row.first; next = row.next + 1; end = row.end; taken = 0 }

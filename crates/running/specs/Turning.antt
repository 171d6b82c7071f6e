-- The step that is due in a lane: what it stands on, and what it leaves.
use Rattle.std.specs.Prelude.{◌<◌, ◌≤◌, length, Ok}
use Rattle.yard.specs.declared.run.LaneRow.{LaneRow}
use Rattle.yard.specs.declared.run.Answer.{Answer}
use Rattle.yard.specs.Rules.{Rules}
use Rattle.yard.specs.Runs.{reply_of}
use Rattle.books.specs.Scripts.{Script, State, move_at, due, due_place}
use Rattle.books.specs.Calls.{Turn}
use Rattle.running.specs.Working.{Workable}

-- the row has a move under way, which stands in its lists, and the step that is due can be worked
pub record Due {V : Type 0} (R : Rules V) (S : Script) (st : State V) (row : LaneRow) : Type 0 where
  pub waits : row.next < row.end
  pub in_line_up : row.next < length S.line_up
  pub a_move : due S row < length S.moves
  pub an_outcome : due S row < length st.ends
  pub left : row.taken < (move_at S (due S row)).count
  -- so its number from 1 can be told
  pub few : (move_at S (due S row)).count ≤ 1024
  pub step : Workable R S.steps st.values st.saved (due_place S row)

-- the state that the code leaves, the row and the answer that it gives, as a turn
abbrev pub turn_of : {V : Type 0} → State V → LaneRow × Answer V → Turn V
turn_of st r = record { values = st.values; saved = st.saved; ends = st.ends; row = r.0; reply = reply_of (Ok r.1) }

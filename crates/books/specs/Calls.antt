-- What a call does to the lists of a run, and what it answers, for lists of any length and content.
use Rattle.std.specs.Prelude.{◌≡◌, ℕ, zero, suc, ◌+◌, Bool, false, cond, ◌&&◌, ◌||◌, List, length, take, drop, Some, None, Option, ◌==◌, nat_le, nat_lt, slice_index_or, slice_set}
use Rattle.std.specs.List.{slice_get}
use Rattle.yard.specs.declared.batch.Step.{Step}
use Rattle.yard.specs.declared.run.LaneRow.{LaneRow}
use Rattle.yard.specs.declared.run.Call.{Call}
use Rattle.yard.specs.declared.run.Call.TheVariants.{Step as StepOn, Look, Tally}
use Rattle.yard.specs.Cells.{value_at}
use Rattle.yard.specs.Rules.{Rules}
use Rattle.yard.specs.Runs.{End, done, failed, Reply, passes, ends, fails, holds, counts, refuses}
use Rattle.yard.specs.Told.{Told}
use Rattle.dealing.specs.Opening.{all_known}
use Rattle.books.specs.Scripts.{Script, State, state, no_row, row_of, move_at, step_at, room_to_save, due, due_place, more, onward, over}
use Rattle.books.specs.Steps.{Went, goes, stuck, applied, kept, set_back}
use Rattle.books.specs.Tallies.{tallied}

-- some queue up to a number has a step left
abbrev pub busy : List LaneRow → ℕ → Bool
busy lanes zero = false
busy lanes (suc q) = nat_lt (slice_index_or lanes (suc q) no_row).next (slice_index_or lanes (suc q) no_row).end || busy lanes q

-- the steps of the move under way up to the one that is due
abbrev pub steps_to_due : Script → LaneRow → List Step
steps_to_due S row = take (row.taken + 1) (drop (move_at S (due S row)).first S.steps)

-- what a step leaves, with the lane's row, and what it answers
pub record Turn (V : Type 0) : Type 0 where
  pub values : List V
  pub saved : List V
  pub ends : List End
  pub row : LaneRow
  pub reply : Reply V

-- the lists after a step of a lane
abbrev pub turned : {V : Type 0} → State V → ℕ → Turn V → State V
turned st a t = state t.values t.saved t.ends (slice_set st.lanes a t.row)

abbrev or_refuses : {A V : Type 0} → (A → Reply V) → ℕ → Option A → Reply V
or_refuses f n (Some a) = f a
or_refuses f n None = refuses n

-- what is told, as a reply
abbrev pub replied : {A V : Type 0} → (A → Reply V) → Told A → Reply V
replied f t = or_refuses f t.number t.value

module _ {V : Type 0} (R : Rules V) (S : Script) where
  -- no list is shorter than the numbers say
  abbrev pub long_enough : State V → Bool
  long_enough st =
      nat_le S.numbers.moves (length S.moves) && nat_le S.numbers.steps (length S.steps) && nat_le S.numbers.moves (length S.line_up)
      && nat_lt S.numbers.queues (length st.lanes) && nat_le S.numbers.moves (length st.ends) && nat_le S.numbers.cells (length st.values)
      && room_to_save S st

  -- the row has a move under way, and that move and its steps up to the one due are such as open accepts
  abbrev pub fits : LaneRow → Bool
  fits row =
      nat_lt row.next row.end && nat_le row.end S.numbers.moves && nat_lt (due S row) S.numbers.moves
      && nat_le ((move_at S (due S row)).first + (move_at S (due S row)).count) S.numbers.steps
      && nat_lt row.taken (move_at S (due S row)).count && all_known R S.numbers.cells (steps_to_due S row)

  -- why a step call on a lane is refused, by number
  abbrev pub barred : State V → ℕ → Option ℕ
  barred st a =
      cond (nat_le a S.numbers.queues) (cond (long_enough st) (cond ((row_of st a).next == (row_of st a).end) (Some 20)
      (cond (a == 0 && busy st.lanes S.numbers.queues) (Some 21)
      (cond (fits (row_of st a)) None (Some 18)))) (Some 18)) (Some 19)

  -- the values with the steps taken of the move under way set back
  abbrev pub move_back : List V → LaneRow → List V → List V
  move_back saved row vs = set_back R S.steps saved (move_at S (due S row)).first row.taken vs

  -- a step that passes, and one that fails: then its move is set back
  abbrev pub turn_went : State V → LaneRow → Went V → Turn V
  turn_went st row (goes ws) = record {
    values = ws;
    saved = kept R st.values (step_at S (due_place S row)) st.saved (due_place S row);
    ends = cond (more S row) st.ends (slice_set st.ends (due S row) done);
    row = cond (more S row) (onward row) (over row);
    reply = cond (more S row) passes ends;
  }
  turn_went st row (stuck cause) = record {
    values = move_back st.saved row st.values;
    saved = st.saved;
    ends = slice_set st.ends (due S row) (failed (row.taken + 1) cause);
    row = over row;
    reply = fails (row.taken + 1) cause;
  }

  -- the next step of a lane
  abbrev pub turn : State V → LaneRow → Turn V
  turn st row = turn_went st row (applied R st.values (step_at S (due_place S row)))

  -- the lists after a step call, and its answer; a refusal leaves them as they were
  abbrev pub step_state : State V → ℕ → Option ℕ → State V
  step_state st a None = turned st a (turn st (row_of st a))
  step_state st a (Some n) = st

  abbrev pub step_reply : State V → ℕ → Option ℕ → Reply V
  step_reply st a None = (turn st (row_of st a)).reply
  step_reply st a (Some n) = refuses n

  -- the lists after a call
  abbrev pub after : State V → Call → State V
  after st (StepOn a) = step_state st a (barred st a)
  after st (Look cell) = st
  after st Tally = st

  -- the answer to a call
  abbrev pub reply : State V → Call → Reply V
  reply st (StepOn a) = step_reply st a (barred st a)
  reply st (Look cell) = replied holds (value_at st.values cell)
  reply st Tally = replied counts (tallied S.numbers S.moves st.lanes st.ends)

  abbrev pub after_next : State V → Option Call → State V
  after_next st None = st
  after_next st (Some c) = after st c

  -- the lists after so many of the calls
  abbrev pub stage : State V → List Call → ℕ → State V
  stage st calls zero = st
  stage st calls (suc i) = after_next (stage st calls i) (slice_get calls i)

  -- each call was answered from the lists as the calls before it left them
  abbrev pub Answered : State V → List Call → List (Reply V) → Type 0
  Answered st calls replies = (i : ℕ) (c : Call) → slice_get calls i ≡ Some c → slice_get replies i ≡ Some (reply (stage st calls i) c)

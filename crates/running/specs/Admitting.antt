-- Step calls that can be worked: the row that they are on, or why they are refused.
use Rattle.std.specs.Prelude.{ℕ, ◌+◌, ◌≤◌, Bool, ◌&&◌, length, take, drop, Some, None, Ok, Err, Option, Result, nat_le, nat_lt}
use Rattle.yard.specs.declared.batch.Move.{Move}
use Rattle.yard.specs.declared.refusal.Refusal.{Refusal}
use Rattle.yard.specs.declared.run.LaneRow.{LaneRow}
use Rattle.yard.specs.Numbers.{refusal_number}
use Rattle.yard.specs.Rules.{Rules}
use Rattle.yard.specs.Told.{Told, gives, refuses}
use Rattle.dealing.specs.Opening.{all_known}
use Rattle.books.specs.Scripts.{Script, State, row_of}
use Rattle.books.specs.Calls.{barred}
use Rattle.running.specs.declared.lane.Lane.{Lane}
use Rattle.running.specs.Lanes.{row_in}

-- no list of the script is shorter than its numbers say, as a test and as facts
abbrev pub script_long : Script → Bool
script_long S = nat_le S.numbers.moves (length S.moves) && nat_le S.numbers.steps (length S.steps) && nat_le S.numbers.moves (length S.line_up)

pub record LongScript (S : Script) : Type 0 where
  pub moves : S.numbers.moves ≤ length S.moves
  pub steps : S.numbers.steps ≤ length S.steps
  pub line_up : S.numbers.moves ≤ length S.line_up

-- the steps of a move are among the steps, and one is due after so many others, all known
abbrev pub steps_fit : {V : Type 0} → Rules V → Script → Move → ℕ → Bool
steps_fit R S m taken =
    nat_le (m.first + m.count) S.numbers.steps && nat_lt taken m.count && all_known R S.numbers.cells (take (taken + 1) (drop m.first S.steps))

-- a lane, by its row
abbrev pub told_lane : Result Lane Refusal → Told LaneRow
told_lane (Ok l) = gives (row_in l)
told_lane (Err r) = refuses (refusal_number r)

-- the row of a step call on a lane, or the number of the refusal
abbrev pub unless_barred : LaneRow → Option ℕ → Told LaneRow
unless_barred row None = gives row
unless_barred row (Some n) = refuses n

abbrev pub admitted : {V : Type 0} → Rules V → Script → State V → ℕ → Told LaneRow
admitted R S st a = unless_barred (row_of st a) (barred R S st a)

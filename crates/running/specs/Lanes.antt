-- Lanes and their rows, and the moves of a lane.
use Rattle.std.specs.Prelude.{ℕ, Bool, cond, ◌&&◌, List, length, Some, None, Ok, Err, Option, Result, nat_le, nat_lt, slice_index_or}
use Rattle.std.specs.Borrow.{Bor}
use Rattle.yard.specs.declared.refusal.Refusal.{Refusal}
use Rattle.yard.specs.declared.run.LaneRow.{LaneRow}
use Rattle.yard.specs.Numbers.{refusal_number}
use Rattle.yard.specs.Runs.{Numbers}
use Rattle.yard.specs.Told.{Told, gives, refuses}
use Rattle.books.specs.Scripts.{no_row, part}
use Rattle.running.specs.declared.lane.Lane.{Lane}

-- the row that a lane was made from
abbrev pub row_in : Lane → LaneRow
row_in l = l.row

-- a row, unless it is past its end
abbrev pub checked_row : LaneRow → Option LaneRow
checked_row row = cond (nat_le row.next row.end) (Some row) None

-- the row is not past its end
abbrev pub is_within : LaneRow → Bool
is_within row = nat_le row.next row.end

-- the row has a step left
abbrev pub has_step : LaneRow → Bool
has_step row = nat_lt row.next row.end

-- the lists are those of a run with these numbers, and the row is a part of the line-up
abbrev pub row_fits : Numbers → List ℕ → List LaneRow → LaneRow → Bool
row_fits n line_up lanes row =
    nat_lt n.queues (length lanes) && nat_le n.moves (length line_up)
    && nat_le row.next row.end && nat_le row.first row.end && nat_le row.end n.moves

-- the moves of a lane, or 19 where there is no such lane, or 18
abbrev pub moves_of_lane : Numbers → List ℕ → List LaneRow → ℕ → Told (List ℕ)
moves_of_lane n line_up lanes a =
    let row = slice_index_or lanes a no_row in
    cond (nat_le a n.queues) (cond (row_fits n line_up lanes row) (gives (part line_up row.first row.end)) (refuses 18)) (refuses 19)

-- an answer with moves, by what its reference points to
abbrev pub shown_moves : Result (Bor (List ℕ)) Refusal → Told (List ℕ)
shown_moves (Ok moves) = gives moves.now
shown_moves (Err r) = refuses (refusal_number r)

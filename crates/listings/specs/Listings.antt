-- The listing of a run: its queues, its rest list, its outcomes and its changed cells, as bytes.
use Rattle.std.specs.Prelude.{ℕ, zero, suc, ◌+◌, ◌-◌, Bool, cond, ◌&&◌, List, [], ◌∷◌, ◌++◌, map, length, Some, None, Option, nat_le, nat_lt, slice_index_or, slice_range}
use Rattle.std.specs.List.{slice_get, list_all, zip}
use Rattle.yard.specs.declared.batch.Move.{Move}
use Rattle.yard.specs.declared.run.LaneRow.{LaneRow}
use Rattle.yard.specs.declared.run.Outcome.{Outcome}
use Rattle.yard.specs.Rows.{Rows}
use Rattle.yard.specs.Runs.{Numbers, End, not_ended, done, failed, end_of}
use Rattle.yard.specs.Told.{refuses}
use Rattle.dealing.specs.Opening.{all_below}
use Rattle.listings.specs.Laying.{Answered, listed_as, laid_into}
use Rattle.listings.specs.Lines.{section}

-- what a listing tells of: the lists of a run, the values at open, and the values when it is listed
pub record Run (V : Type 0) : Type 0 where
  pub numbers : Numbers
  pub moves : List Move
  pub line_up : List ℕ
  pub lanes : List LaneRow
  pub ends : List End
  pub opening : List V
  pub closing : List V

abbrev pub run_of : {V : Type 0} → Numbers → List Move → List ℕ → List LaneRow → List Outcome → List V → List V → Run V
run_of numbers moves line_up lanes outcomes opening closing =
    record { numbers = numbers; moves = moves; line_up = line_up; lanes = lanes; ends = map end_of outcomes; opening = opening; closing = closing }

-- the entries of a list from a place to before another
abbrev pub part : {A : Type 0} → List A → ℕ → ℕ → List A
part xs first end = slice_range xs first end

abbrev pub lane_moves : List ℕ → LaneRow → List ℕ
lane_moves line_up row = part line_up row.first row.end

abbrev pub no_row : LaneRow
no_row = record { first = 0; next = 0; end = 0; taken = 0 }

-- a queue: how many moves it has, and their places
abbrev pub queue_line : List ℕ → LaneRow → List ℕ
queue_line line_up row = let places = lane_moves line_up row in length places ∷ places

-- Q is 81
abbrev pub queue_section : List ℕ → List LaneRow → List ℕ
queue_section line_up rows = section 81 (map (queue_line line_up) rows)

-- a move of the rest list: its place alone
abbrev pub alone : ℕ → List ℕ
alone place = place ∷ []

-- R is 82
abbrev pub rest_section : List ℕ → List ℕ
rest_section places = section 82 (map alone places)

-- the outcome, the failing step and the cause
abbrev pub end_words : End → List ℕ
end_words not_ended = 0 ∷ 0 ∷ 0 ∷ []
end_words done = 1 ∷ 0 ∷ 0 ∷ []
end_words (failed step cause) = 2 ∷ step ∷ cause ∷ []

abbrev pub outcome_line : Move × End → List ℕ
outcome_line p = p.0.label ∷ end_words p.1

abbrev pub outcome_lines : List Move → List End → List (List ℕ)
outcome_lines moves ends = map outcome_line (zip moves ends)

-- E is 69
abbrev pub outcome_section : List Move → List End → List ℕ
outcome_section moves ends = section 69 (outcome_lines moves ends)

-- so many words of a value, from a place of its row on
abbrev pub words_from : {V : Type 0} → Rows V → ℕ → ℕ → V → List ℕ
words_from rows place zero v = []
words_from rows place (suc n) v = rows.tells place v ∷ words_from rows (place + 1) n v

-- a cell and the words of its value, which begin at place 1 of its row
abbrev pub cell_line : {V : Type 0} → Rows V → ℕ → V → List ℕ
cell_line rows cell v = cell ∷ words_from rows 1 (rows.words - 1) v

-- what a cell holds in the end, where that is not its opening value
abbrev pub change_of : {V : Type 0} → (V → V → Bool) → V → Option V → Option V
change_of equals opened None = None
change_of equals opened (Some v) = cond (equals v opened) None (Some v)

abbrev pub change_line : {V : Type 0} → Rows V → ℕ → Option V → List (List ℕ)
change_line rows cell None = []
change_line rows cell (Some v) = cell_line rows cell v ∷ []

module _ {V : Type 0} (rows : Rows V) (equals : V → V → Bool) where
  -- the changed cells from one on; the list has the opening values from that cell on
  abbrev pub change_lines : List V → ℕ → List V → List (List ℕ)
  change_lines closing cell [] = []
  change_lines closing cell (v ∷ vs) = change_line rows cell (change_of equals v (slice_get closing cell)) ++ change_lines closing (cell + 1) vs

  -- V is 86
  abbrev pub change_section : List V → List V → List ℕ
  change_section closing opening = section 86 (change_lines closing 0 opening)

  abbrev pub listing_bytes : Run V → List ℕ
  listing_bytes r =
      queue_section r.line_up (part r.lanes 1 (r.numbers.queues + 1)) ++ rest_section (lane_moves r.line_up (slice_index_or r.lanes 0 no_row))
      ++ outcome_section (part r.moves 0 r.numbers.moves) r.ends ++ change_section r.closing (part r.opening 0 r.numbers.cells)

-- a lane begins at or before its end, and ends at or before a place
abbrev pub row_within : ℕ → LaneRow → Bool
row_within n row = nat_le row.first row.end && nat_le row.end n

abbrev pub rows_within : ℕ → List LaneRow → Bool
rows_within n = list_all (row_within n)

-- the lists and the board are long enough for the run
abbrev pub long_enough : {V : Type 0} → Run V → Bool
long_enough r =
    nat_le r.numbers.moves (length r.moves) && nat_le r.numbers.moves (length r.line_up) && nat_le r.numbers.moves (length r.ends)
    && nat_lt r.numbers.queues (length r.lanes) && nat_le r.numbers.cells (length r.opening) && nat_le r.numbers.cells (length r.closing)

-- and no lane and no place lies outside of it
abbrev pub is_this_run : {V : Type 0} → Run V → Bool
is_this_run r =
    long_enough r && rows_within r.numbers.moves (part r.lanes 0 (r.numbers.queues + 1))
    && all_below r.numbers.moves (part r.line_up 0 r.numbers.moves)

-- a list below the full length of 24,576 bytes is refused before all else
abbrev pub list_into : {V : Type 0} → Rows V → (V → V → Bool) → Run V → List ℕ → Answered
list_into rows equals r list =
    cond (nat_le 24576 (length list))
    (cond (is_this_run r) (laid_into (listing_bytes rows equals r) list) (listed_as (refuses 18) list))
    (listed_as (refuses 11) list)

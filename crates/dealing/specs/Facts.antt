-- What holds of every dealing, in the words of the subject.
use Rattle.std.specs.Prelude.{◌≡◌, ℕ, ◌+◌, ◌-◌, ◌<◌, ◌≤◌, true, cond, ◌≢◌, List, [], ◌∷◌, length, take, drop, ◌==◌, slice_index, slice_index_or}
use Rattle.yard.specs.declared.batch.Move.{Move}
use Rattle.yard.specs.declared.batch.Step.{Step}
use Rattle.yard.specs.declared.run.LaneRow.{LaneRow}
use Rattle.yard.specs.Batches.{Listed}
use Rattle.yard.specs.Fronts.{laid}
use Rattle.yard.specs.Moves.{Conflict, is_in, steps_of}
use Rattle.yard.specs.Rules.{Rules}
use Rattle.dealing.specs.Active.{Within, no_move}
use Rattle.dealing.specs.Lanes.{dealt, dealing, line_up_of, lane_rows, row_from}

-- how often x stands in a list
abbrev pub times : ℕ → List ℕ → ℕ
times x [] = 0
times x (y ∷ ys) = cond (y == x) 1 0 + times x ys

-- each move of a batch stands just once in the line-up, and nothing else stands there
abbrev pub EachMoveStandsOnce : {V : Type 0} → Rules V → Type 0
EachMoveStandsOnce R =
    (cells share : ℕ) (steps : List Step) (moves : List Move) (choices : List ℕ) →
    (length (line_up_of (dealt R cells share steps moves choices)) ≡ length moves)
    × ((m : ℕ) → m < length moves → times m (line_up_of (dealt R cells share steps moves choices)) ≡ 1)

-- two moves of different queues never conflict
abbrev pub QueuesNeverConflict : {V : Type 0} → Rules V → Type 0
QueuesNeverConflict R =
    (cells share : ℕ) (steps : List Step) (moves : List Move) (choices : List ℕ) → Within cells steps →
    (m n : ℕ) → m < length moves → n < length moves →
    slice_index (dealt R cells share steps moves choices).lanes m ≢ 0 →
    slice_index (dealt R cells share steps moves choices).lanes n ≢ 0 →
    slice_index (dealt R cells share steps moves choices).lanes m ≢ slice_index (dealt R cells share steps moves choices).lanes n →
    Conflict R (steps_of steps (slice_index_or moves m no_move)) (steps_of steps (slice_index_or moves n no_move)) → ⊥

-- the moves of a lane, as the line-up and the rows show them
abbrev pub shown_by : LaneRow → List ℕ → List ℕ
shown_by row line_up = take (row.end - row.first) (drop row.first line_up)

abbrev pub shown_moves : List ℕ → List LaneRow → ℕ → List ℕ
shown_moves line_up lanes q = shown_by (slice_index_or lanes q (row_from 0 0)) line_up

-- what the lists that a dealing filled say of its batch
pub record WellDealt {V : Type 0} (R : Rules V) (b : Listed) (queues : ℕ) (line_up : List ℕ) (lanes : List LaneRow) : Type 0 where
  -- each move stands just once in the line-up
  pub stands_once : (m : ℕ) → m < length b.moves → times m (take (length b.moves) line_up) ≡ 1
  -- nothing but moves stands in a lane
  pub only_moves : (m q : ℕ) → q ≤ queues → is_in m (shown_moves line_up lanes q) ≡ true → m < length b.moves
  -- each stands in one lane, and in no other
  pub some_lane : (m : ℕ) → m < length b.moves → (q : ℕ) × (q ≤ queues) × (is_in m (shown_moves line_up lanes q) ≡ true)
  pub one_lane : (m p q : ℕ) → p ≤ queues → q ≤ queues → is_in m (shown_moves line_up lanes p) ≡ true → is_in m (shown_moves line_up lanes q) ≡ true → p ≡ q
  -- within a lane moves stand in batch order
  pub batch_order : (q i j : ℕ) → q ≤ queues → i < j → j < length (shown_moves line_up lanes q) →
      slice_index (shown_moves line_up lanes q) i < slice_index (shown_moves line_up lanes q) j
  -- queues are numbered as they were made: each has a move, and before any move of a later queue stands one of an earlier
  pub no_empty_queue : (q : ℕ) → 0 < q → q ≤ queues → 0 < length (shown_moves line_up lanes q)
  pub order_of_making : (p q n : ℕ) → 0 < p → p < q → q ≤ queues → is_in n (shown_moves line_up lanes q) ≡ true →
      (m : ℕ) × (m < n) × (is_in m (shown_moves line_up lanes p) ≡ true)
  -- no two moves of different queues conflict
  pub never_conflict : (p q m n : ℕ) → 0 < p → p ≤ queues → 0 < q → q ≤ queues → p ≢ q →
      is_in m (shown_moves line_up lanes p) ≡ true → is_in n (shown_moves line_up lanes q) ≡ true →
      Conflict R (steps_of b.steps (slice_index_or b.moves m no_move)) (steps_of b.steps (slice_index_or b.moves n no_move)) → ⊥

-- so it is for every batch with its steps' cells below its cells, whatever the lists held before
abbrev pub DealingsAreSound : {V : Type 0} → Rules V → Type 0
DealingsAreSound R =
    (b : Listed) (old_line : List ℕ) (old_lanes : List LaneRow) → Within b.cells b.steps →
    WellDealt R b (dealing R b).queues (laid (line_up_of (dealing R b)) old_line) (laid (lane_rows (dealing R b)) old_lanes)

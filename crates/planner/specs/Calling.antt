-- The step calls that work a run through, from its moves, line-up and lanes alone.
use Rattle.std.specs.Prelude.{◌≡◌, ℕ, ◌<◌, ◌≤◌, List, [], ◌∷◌, ◌++◌, length, replicate, slice_index_or}
use Rattle.std.specs.List.{range_with_len, sum_by}
use Rattle.yard.specs.declared.batch.Move.{Move}
use Rattle.yard.specs.declared.run.Call.{Call}
use Rattle.yard.specs.declared.run.Call.TheVariants.{Step as StepOn}
use Rattle.yard.specs.declared.run.LaneRow.{LaneRow}
use Rattle.yard.specs.declared.run.Outcome.{Outcome}
use Rattle.yard.specs.Batches.{Listed}
use Rattle.yard.specs.Rules.{Rules}
use Rattle.yard.specs.Runs.{Numbers, End}
use Rattle.dealing.specs.Active.{no_move}
use Rattle.dealing.specs.Examining.{AllBelow}
use Rattle.dealing.specs.Opening.{AsOpened}
use Rattle.books.specs.Scripts.{no_row, part, script, state}
use Rattle.books.specs.Through.{all_through}

-- how many steps moves have, by their counts
abbrev pub counts_in : List Move → List ℕ → ℕ
counts_in moves ms = sum_by (λ m. (slice_index_or moves m no_move).count) ms

-- the moves of a lane
abbrev pub moves_in : List ℕ → List LaneRow → ℕ → List ℕ
moves_in line_up lanes a = part line_up (slice_index_or lanes a no_row).first (slice_index_or lanes a no_row).end

-- lanes one after the other: as many step calls on each as its moves have steps
abbrev pub lane_calls : List Move → List ℕ → List LaneRow → List ℕ → List Call
lane_calls moves line_up lanes [] = []
lane_calls moves line_up lanes (a ∷ more) = replicate (counts_in moves (moves_in line_up lanes a)) (StepOn a) ++ lane_calls moves line_up lanes more

-- all queues in order, then the rest list
abbrev pub step_calls_of : Numbers → List Move → List ℕ → List LaneRow → List Call
step_calls_of n moves line_up lanes = lane_calls moves line_up lanes (range_with_len 1 n.queues ++ 0 ∷ [])

-- lists from which the calls can be written where there is room for so many
pub record Callable (n : Numbers) (moves : List Move) (line_up : List ℕ) (lanes : List LaneRow) (room : ℕ) : Type 0 where
  pub lanes_long : n.queues < length lanes
  pub forward : (a : ℕ) → a ≤ n.queues → (slice_index_or lanes a no_row).first ≤ (slice_index_or lanes a no_row).end
  pub within : (a : ℕ) → a ≤ n.queues → (slice_index_or lanes a no_row).end ≤ length line_up
  pub only_moves : (a : ℕ) → a ≤ n.queues → AllBelow (length moves) (moves_in line_up lanes a)
  pub few : length (step_calls_of n moves line_up lanes) ≤ room

-- what holds of the calls of runs that were opened: 2,048 places are enough, and they are all that work the run through
pub record CallsOfOpened {V : Type 0} (R : Rules V) : Type 0 where
  pub callable : (b : Listed) (count : ℕ) (n : Numbers) (line_up : List ℕ) (lanes : List LaneRow) (outcomes : List Outcome) (room : ℕ) →
      AsOpened R b count n line_up lanes outcomes → 2048 ≤ room → Callable n b.moves line_up lanes room
  pub calls_are_all : (b : Listed) (count : ℕ) (n : Numbers) (line_up : List ℕ) (lanes : List LaneRow) (outcomes : List Outcome) (values saved : List V) (ends : List End) →
      AsOpened R b count n line_up lanes outcomes →
      step_calls_of n b.moves line_up lanes ≡ all_through (script n b.moves b.steps line_up) (state values saved ends lanes)

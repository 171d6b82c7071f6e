-- What the proofs use of a run's start: the kind's law, and facts of the lists that open leaves.
use Rattle.std.proofs.Common.{◌≡◌, ℕ, ◌+◌, ◌<◌, ◌≤◌, true, ◌≢◌, length, get_or, take}
use Rattle.yard.specs.declared.run.LaneRow.{LaneRow}
use Rattle.yard.specs.Moves.{Conflict}
use Rattle.yard.specs.Rules.{Rules, Looks}
use Rattle.yard.specs.Runs.{not_ended}
use Rattle.dealing.specs.Opening.{all_known}
use Rattle.books.specs.Scripts.{Script, State, row_of, move_at, move_steps, lane_moves}
use Rattle.books.specs.Law.{In, IsQueue, StandsOnce}

abbrev pub Queue : Script → ℕ → Type 0
Queue S q = IsQueue S.numbers.queues q

-- a row of which no step is taken, within so many moves
pub record Fresh (moves : ℕ) (row : LaneRow) : Type 0 where
  pub at_first : row.next ≡ row.first
  pub none_taken : row.taken ≡ 0
  pub from_to : row.first ≤ row.end
  pub within : row.end ≤ moves

pub record Opened {V : Type 0} (R : Rules V) (S : Script) (start : State V) : Type 0 where
  pub looks : Looks R
  pub moves_long : S.numbers.moves ≤ length S.moves
  pub steps_long : S.numbers.steps ≤ length S.steps
  pub line_up_long : S.numbers.moves ≤ length S.line_up
  pub lanes_long : S.numbers.queues < length start.lanes
  pub ends_long : S.numbers.moves ≤ length start.ends
  pub values_long : S.numbers.cells ≤ length start.values
  pub known : all_known R S.numbers.cells S.steps ≡ true
  pub has_step : (m : ℕ) → m < S.numbers.moves → 1 ≤ (move_at S m).count
  pub steps_within : (m : ℕ) → m < S.numbers.moves → (move_at S m).first + (move_at S m).count ≤ S.numbers.steps
  -- no step is of two moves
  pub one_move : (m n i : ℕ) → m < S.numbers.moves → n < S.numbers.moves → (move_at S m).first ≤ i → i < (move_at S m).first + (move_at S m).count →
      (move_at S n).first ≤ i → i < (move_at S n).first + (move_at S n).count → m ≡ n
  pub none_ended : (m : ℕ) → m < S.numbers.moves → get_or start.ends m not_ended ≡ not_ended
  pub fresh : (a : ℕ) → a ≤ S.numbers.queues → Fresh S.numbers.moves (row_of start a)
  -- the lane of each move
  pub lane_of : ℕ → ℕ
  pub in_lane : (a m : ℕ) → a ≤ S.numbers.queues → In (lane_moves S start a) m → (m < S.numbers.moves) × (lane_of m ≡ a)
  pub stands_once : (m : ℕ) → m < S.numbers.moves → StandsOnce (take S.numbers.moves S.line_up) S.numbers.queues (lane_moves S start) m
  pub no_conflict : (q r m n : ℕ) → Queue S q → Queue S r → q ≢ r →
      In (lane_moves S start q) m → In (lane_moves S start r) n → Conflict R (move_steps S m) (move_steps S n) → ⊥

-- The law of runs: what the board holds and what the calls answer, whoever calls what in which order.
use Rattle.std.specs.Prelude.{◌≡◌, ℕ, zero, suc, ◌<◌, ◌≤◌, Bool, true, false, cond, ◌&&◌, ◌||◌, ◌≢◌, List, map, length, take, Some, Option}
use Rattle.std.specs.List.{slice_get}
use Rattle.std.specs.Option.{option_map, unwrap_or}
use Rattle.yard.specs.declared.run.LaneRow.{LaneRow}
use Rattle.yard.specs.declared.run.Outcome.{Outcome}
use Rattle.yard.specs.declared.run.Call.{Call}
use Rattle.yard.specs.declared.run.Call.TheVariants.{Step as StepOn, Look, Tally}
use Rattle.yard.specs.Batches.{Listed}
use Rattle.yard.specs.Cells.{value_at}
use Rattle.yard.specs.Moves.{is_in, Conflict}
use Rattle.yard.specs.Rules.{Rules}
use Rattle.yard.specs.Runs.{Numbers, end_of, Reply, passes, ends, fails, holds, counts, refuses}
use Rattle.dealing.specs.Facts.{times}
use Rattle.dealing.specs.Opening.{AsOpened}
use Rattle.books.specs.Scripts.{Script, script, State, state, row_of, move_steps, lane_moves}
use Rattle.books.specs.Tallies.{tally_of, accepted_in}
use Rattle.books.specs.Calls.{replied, stage, Answered}
use Rattle.books.specs.Whole.{Stand, stand, wholes, lanes_whole}
use Rattle.books.specs.Books.{Book, is_on, lane_cells, queue_book, joint, rest_book, book_reply}

abbrev pub In : List ℕ → ℕ → Type 0
In xs x = is_in x xs ≡ true

abbrev pub IsQueue : ℕ → ℕ → Type 0
IsQueue queues q = (1 ≤ q) × (q ≤ queues)

-- the move stands once in the line-up, in one lane and in no other
pub record StandsOnce (line_up : List ℕ) (queues : ℕ) (lane : ℕ → List ℕ) (m : ℕ) : Type 0 where
  pub in_line_up : times m line_up ≡ 1
  pub where_it_is : ℕ
  pub a_lane : where_it_is ≤ queues
  pub once_there : times m (lane where_it_is) ≡ 1
  pub nowhere_else : (b : ℕ) → b ≤ queues → b ≢ where_it_is → times m (lane b) ≡ 0

-- an order of the queues
pub record Order (queues : ℕ) (qs : List ℕ) : Type 0 where
  pub each_once : (q : ℕ) → IsQueue queues q → times q qs ≡ 1
  pub no_other : (q : ℕ) → 1 ≤ times q qs → IsQueue queues q

-- an accepted step, the end of a done move, the end of a failed move
abbrev pub accepts : {V : Type 0} → Reply V → Bool
accepts passes = true
accepts ends = true
accepts (fails step cause) = true
accepts (holds v) = false
accepts (counts t) = false
accepts (refuses n) = false

abbrev pub tells_done : {V : Type 0} → Reply V → Bool
tells_done passes = false
tells_done ends = true
tells_done (fails step cause) = false
tells_done (holds v) = false
tells_done (counts t) = false
tells_done (refuses n) = false

abbrev pub tells_failed : {V : Type 0} → Reply V → Bool
tells_failed passes = false
tells_failed ends = false
tells_failed (fails step cause) = true
tells_failed (holds v) = false
tells_failed (counts t) = false
tells_failed (refuses n) = false

-- the reply there is such
abbrev pub such : {V : Type 0} → (Reply V → Bool) → Option (Reply V) → Bool
such test r = unwrap_or (option_map test r) false

-- how many of the first replies are such
abbrev pub how_many : {V : Type 0} → (Reply V → Bool) → List (Reply V) → ℕ → ℕ
how_many test replies zero = 0
how_many test replies (suc i) = cond (such test (slice_get replies i)) (suc (how_many test replies i)) (how_many test replies i)

-- no lane has a step left
abbrev pub NoneLeft : {V : Type 0} → ℕ → State V → Type 0
NoneLeft queues st = (a : ℕ) → a ≤ queues → (row_of st a).end ≤ (row_of st a).next

-- every move worked whole: queue after queue in an order, then the rest list
abbrev pub serial_from : {V : Type 0} → Rules V → Script → State V → List ℕ → Stand V
serial_from R S start qs = wholes R S (lanes_whole R S (lane_moves S start) (stand start.values start.ends) qs) (lane_moves S start 0)

-- a run: what no call alters, the lists at the start, the calls and their replies
module _ {V : Type 0} (R : Rules V) (S : Script) (start : State V) (calls : List Call) (replies : List (Reply V)) where
  abbrev pub queues : ℕ
  queues = S.numbers.queues

  -- the moves of a lane
  abbrev pub moves_of : ℕ → List ℕ
  moves_of a = lane_moves S start a

  -- the books after so many of the calls: of a queue, and of the rest list
  abbrev pub book : ℕ → ℕ → Book V
  book i q = queue_book R S start calls i q

  abbrev pub rest : ℕ → Book V
  rest i = rest_book R S start calls i

  -- a step of the rest list was accepted among so many of the calls
  abbrev pub begun : ℕ → Bool
  begun zero = false
  begun (suc i) = (is_on 0 (slice_get calls i) && such accepts (slice_get replies i)) || begun i

  -- what the cells hold after so many of the calls, by the books
  abbrev pub board_at : ℕ → List V
  board_at i = cond (begun i) (rest i).values (joint S start (book i) queues)

  -- what holds of a run that ended with these lists
  pub record Law (final : State V) : Type 0 where
    -- every move stands just once in the line-up, in one queue or in the rest list
    pub stands_once : (m : ℕ) → m < S.numbers.moves → StandsOnce (take S.numbers.moves S.line_up) queues moves_of m
    -- no two moves of different queues conflict
    pub no_conflict : (q r m n : ℕ) → IsQueue queues q → IsQueue queues r → q ≢ r → In (moves_of q) m → In (moves_of r) n →
        Conflict R (move_steps S m) (move_steps S n) → ⊥
    -- the board is what the books say
    pub board : final.values ≡ board_at (length calls)
    -- while no step of the rest list has been accepted: a cell that a queue names holds its value in that queue's book, any other what it held at open
    pub before_rest_named : (i q x : ℕ) → begun i ≡ false → IsQueue queues q → In (lane_cells S start q) x → slice_get (board_at i) x ≡ slice_get (book i q).values x
    pub before_rest_other : (i x : ℕ) → begun i ≡ false → ((q : ℕ) → IsQueue queues q → In (lane_cells S start q) x → ⊥) → slice_get (board_at i) x ≡ slice_get start.values x
    -- from then on every cell holds its value in the rest list's book
    pub after_rest : (i : ℕ) → begun i ≡ true → board_at i ≡ (rest i).values
    -- a look answers the value that the cell holds at its call, 22 outside the board
    pub looks : (i x : ℕ) → slice_get calls i ≡ Some (Look x) → slice_get replies i ≡ Some (replied holds (value_at (board_at i) x))
    -- a step call is answered as its lane's book answers, fed the calls on that lane so far; 19 where there is no such lane
    pub steps : (i a : ℕ) → slice_get calls i ≡ Some (StepOn a) → a ≤ queues → slice_get replies i ≡ Some (book_reply R S start calls i a)
    pub no_such_lane : (i a : ℕ) → slice_get calls i ≡ Some (StepOn a) → queues < a → slice_get replies i ≡ Some (refuses 19)
    -- when no lane has a step left: board, outcomes, failing steps and causes are those of every move worked whole, whatever the order of the queues
    pub serial : (qs : List ℕ) → Order queues qs → NoneLeft queues final → stand final.values final.ends ≡ serial_from R S start qs
    -- then the accepted steps are the steps of the moves done and the failing place of each failed move
    pub accepted : NoneLeft queues final → how_many accepts replies (length calls) ≡ accepted_in S.moves final.ends S.numbers.moves
    -- a tally tells the accepted steps and the moves done, failed and not ended among the calls before it
    pub tallies : (i : ℕ) → slice_get calls i ≡ Some Tally →
        slice_get replies i ≡ Some (counts (tally_of S.numbers.moves (how_many accepts replies i) (how_many tells_done replies i) (how_many tells_failed replies i)))

-- from lists that open filled for a batch and a board, with a saved list of any length, the law holds of every list of calls
abbrev pub LawOfRuns : {V : Type 0} → Rules V → Type 0
LawOfRuns {V} R =
    (b : Listed) (n : Numbers) (line_up : List ℕ) (lanes : List LaneRow) (outcomes : List Outcome) (values saved : List V) →
    (calls : List Call) (replies : List (Reply V)) →
    AsOpened R b (length values) n line_up lanes outcomes →
    let S = script n b.moves b.steps line_up in
    let start = state values saved (map end_of outcomes) lanes in
    Answered R S start calls replies → Law R S start calls replies (stage R S start calls (length calls))

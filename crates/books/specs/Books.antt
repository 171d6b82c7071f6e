-- Books: what a lane makes of the calls on it, if nobody else had called.
use Rattle.std.specs.Prelude.{ℕ, zero, suc, ◌+◌, Bool, true, false, cond, ◌&&◌, List, [], ◌∷◌, ◌++◌, length, Some, None, Option, ◌==◌, nat_lt, slice_index_or, slice_set}
use Rattle.std.specs.List.{slice_get}
use Rattle.yard.specs.declared.batch.Step.{Step}
use Rattle.yard.specs.declared.run.Call.{Call}
use Rattle.yard.specs.declared.run.Call.TheVariants.{Step as StepOn, Look, Tally}
use Rattle.yard.specs.Moves.{names}
use Rattle.yard.specs.Rules.{Rules}
use Rattle.yard.specs.Runs.{End, done, failed, Reply, passes, ends as ends_move, fails, refuses}
use Rattle.dealing.specs.Active.{no_step}
use Rattle.books.specs.Scripts.{Script, State, move_steps, lane_moves, room_to_save}
use Rattle.books.specs.Steps.{Went, goes, stuck, put, applied}

-- the values, the values before the move under way, the moves not ended, the steps taken of the first, how each move ended
pub record Book (V : Type 0) : Type 0 where
  pub values : List V
  pub before : List V
  pub left : List ℕ
  pub taken : ℕ
  pub ends : List End

-- a book after a call, and what it answers
pub record Entry (V : Type 0) : Type 0 where
  pub book : Book V
  pub reply : Reply V

abbrev pub entry : {V : Type 0} → Book V → Reply V → Entry V
entry b r = record { book = b; reply = r }

abbrev pub book_of : {V : Type 0} → List V → List V → List ℕ → ℕ → List End → Book V
book_of values before left taken ends = record { values = values; before = before; left = left; taken = taken; ends = ends }

-- a book with no move under way
abbrev pub new_book : {V : Type 0} → List V → List ℕ → List End → Book V
new_book values left ends = book_of values values left 0 ends

abbrev pub at_end : {V : Type 0} → Book V → Bool
at_end b = length b.left == 0

abbrev pub is_on : ℕ → Option Call → Bool
is_on a (Some (StepOn b)) = b == a
is_on a (Some (Look cell)) = false
is_on a (Some Tally) = false
is_on a None = false

-- how many of the first calls are step calls on a lane
abbrev pub calls_on : ℕ → List Call → ℕ → ℕ
calls_on a calls zero = 0
calls_on a calls (suc i) = cond (is_on a (slice_get calls i)) (suc (calls_on a calls i)) (calls_on a calls i)

-- some cells of a board copied onto another
abbrev pub copied : {V : Type 0} → List V → List ℕ → List V → List V
copied us [] vs = vs
copied us (c ∷ cs) vs = copied us cs (put vs c (slice_get us c))

-- the cells that steps name
abbrev pub named_cells : List Step → List ℕ
named_cells [] = []
named_cells (s ∷ ss) = names s ++ named_cells ss

-- the cells that moves name, and that a lane names
abbrev pub cells_of : Script → List ℕ → List ℕ
cells_of S [] = []
cells_of S (m ∷ ms) = named_cells (move_steps S m) ++ cells_of S ms

abbrev pub lane_cells : {V : Type 0} → Script → State V → ℕ → List ℕ
lane_cells S st a = cells_of S (lane_moves S st a)

-- how many steps moves have
abbrev pub steps_in : Script → List ℕ → ℕ
steps_in S [] = 0
steps_in S (m ∷ ms) = length (move_steps S m) + steps_in S ms

-- the cells of the first queues as their books have them, on the opening board
abbrev pub joint : {V : Type 0} → Script → State V → (ℕ → Book V) → ℕ → List V
joint S start books zero = start.values
joint S start books (suc q) = copied (books (suc q)).values (lane_cells S start (suc q)) (joint S start books q)

-- the books of the first queues are all at their ends
abbrev pub all_at_end : {V : Type 0} → (ℕ → Book V) → ℕ → Bool
all_at_end books zero = true
all_at_end books (suc q) = at_end (books (suc q)) && all_at_end books q

-- the book of a queue at the start of a run
abbrev pub queue_opens : {V : Type 0} → Script → State V → ℕ → Book V
queue_opens S start q = new_book start.values (lane_moves S start q) start.ends

-- a book whose first move not ended has passed a step: it has a step more, or it is done
abbrev pub fed_past : {V : Type 0} → Book V → ℕ → List ℕ → List V → Bool → Entry V
fed_past b m ms ws true = entry (book_of ws b.before (m ∷ ms) (b.taken + 1) b.ends) passes
fed_past b m ms ws false = entry (new_book ws ms (slice_set b.ends m done)) ends_move

module _ {V : Type 0} (R : Rules V) (S : Script) where
  abbrev pub fed_went : Book V → ℕ → List ℕ → Went V → Entry V
  fed_went b m ms (goes ws) = fed_past b m ms ws (nat_lt (b.taken + 1) (length (move_steps S m)))
  fed_went b m ms (stuck cause) = entry (new_book b.before ms (slice_set b.ends m (failed (b.taken + 1) cause))) (fails (b.taken + 1) cause)

  -- the next step of the first move not ended
  abbrev pub fed_left : Book V → List ℕ → Entry V
  fed_left b [] = entry b (refuses 20)
  fed_left b (m ∷ ms) = fed_went b m ms (applied R b.values (slice_index_or (move_steps S m) b.taken no_step))

  -- a book fed a call, with room to save or not
  abbrev pub fed : Bool → Book V → Entry V
  fed room b = cond room (fed_left b b.left) (entry b (refuses 18))

  -- a book fed so many calls
  abbrev pub feeds : Bool → Book V → ℕ → Book V
  feeds room b zero = b
  feeds room b (suc n) = (fed room (feeds room b n)).book

  -- a book at its end: fed as often as its moves have steps, with room to save
  abbrev pub closed : Book V → Book V
  closed b = feeds true b (steps_in S b.left)

  -- the rest list's book fed a call: it is told whether all queues are at their ends
  abbrev pub rest_fed : Bool → Book V → Bool → Entry V
  rest_fed room b queues_done =
      cond room (cond (at_end b) (entry b (refuses 20)) (cond queues_done (fed room b) (entry b (refuses 21)))) (entry b (refuses 18))

  -- the books of a run, from the lists at its start
  module _ (start : State V) where
    -- the rest list's book starts from what the queue books leave at their ends
    abbrev pub rest_opens : Book V
    rest_opens = new_book (joint S start (λ q. closed (queue_opens S start q)) S.numbers.queues) (lane_moves S start 0) start.ends

    -- the book of a queue after so many of the calls
    abbrev pub queue_book : List Call → ℕ → ℕ → Book V
    queue_book calls i q = feeds (room_to_save S start) (queue_opens S start q) (calls_on q calls i)

    -- the rest list's book after so many of the calls, and after one more on it
    abbrev pub rest_next : Book V → (ℕ → Book V) → Entry V
    rest_next b queue_books = rest_fed (room_to_save S start) b (all_at_end queue_books S.numbers.queues)

    abbrev pub rest_book : List Call → ℕ → Book V
    rest_book calls zero = rest_opens
    rest_book calls (suc i) = cond (is_on 0 (slice_get calls i)) (rest_next (rest_book calls i) (queue_book calls i)).book (rest_book calls i)

    -- a lane's answer to a step call after so many of the calls
    abbrev pub book_reply : List Call → ℕ → ℕ → Reply V
    book_reply calls i zero = (rest_next (rest_book calls i) (queue_book calls i)).reply
    book_reply calls i (suc q) = (fed (room_to_save S start) (queue_book calls i (suc q))).reply

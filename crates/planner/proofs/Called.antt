-- What is written of the step calls and what is left of them are the whole.
use Rattle.std.proofs.Common.{◌≡◌, ℕ, suc, ◌+◌, ◌-◌, ◌<◌, ◌≤◌, List, [], ◌∷◌, ◌++◌, length, get_or, take, drop, replicate, ap, ◌∙◌, append_assoc, arith}
use Rattle.std.specs.List.{range_with_len}
use Rattle.std.proofs.lemmas.List.{length-append, length-replicate, replicate-append-replicate}
use Rattle.std.proofs.lemmas.List.Sums.{sum_by-drop_more}
use Rattle.std.proofs.lemmas.Grind.{common_steps}
use Rattle.yard.specs.declared.batch.Move.{Move}
use Rattle.yard.specs.declared.run.Call.{Call}
use Rattle.yard.specs.declared.run.Call.TheVariants.{Step as StepOn}
use Rattle.yard.specs.declared.run.LaneRow.{LaneRow}
use Rattle.dealing.specs.Active.{no_move}
use Rattle.books.specs.Scripts.{no_row, part}
use Rattle.planner.specs.Calling.{counts_in, lane_calls}

-- there is room for the next calls of what is left, and when they are written it still is the whole
module _ (done left all : List Call) (n : ℕ) (call : Call) (w : done ++ (replicate n call ++ left) ≡ all) where
  pub room_for : length done + n ≤ length all
  room_for = omega (arith, ap length w, length-append done (replicate n call ++ left), length-append (replicate n call) left, length-replicate n call)

  pub written : (now : List Call) → now ≡ done ++ replicate n call → now ++ left ≡ all
  written now e = rw e (append_assoc done (replicate n call) left ∙ w)

-- the next are those of the next move of a lane
pub next_move : (moves : List Move) (places : List ℕ) (i m : ℕ) (call : Call) (done all : List Call) → i < length places → m ≡ get_or places i 0 →
    done ++ replicate (counts_in moves (drop i places)) call ≡ all →
    done ++ (replicate (get_or moves m no_move).count call ++ replicate (counts_in moves (drop (i + 1) places)) call) ≡ all
next_move moves places i m call done all h e w =
    let count : ℕ → ℕ = λ k. (get_or moves k no_move).count in
    rw (e, replicate-append-replicate (count (get_or places i 0)) (counts_in moves (drop (i + 1) places)) call, ← sum_by-drop_more count places i 0 h) w

-- the lanes from a queue on
abbrev pub from_queue : ℕ → ℕ → List ℕ
from_queue queues q = range_with_len q (queues + 1 - q) ++ 0 ∷ []

-- the next are those of the next queue, whose row is at a place among the rows of the queues
module _ (moves : List Move) (line_up : List ℕ) (lanes : List LaneRow) (queues end place : ℕ) (done all : List Call) (e : end ≡ queues) (h : place < queues)
    (w : done ++ lane_calls moves line_up lanes (from_queue queues (place + 1)) ≡ all) where
  abbrev row : LaneRow
  row = get_or (take (end + 1 - 1) (drop 1 lanes)) place no_row

  abbrev its : ℕ
  its = counts_in moves (part line_up row.first row.end)

  first : from_queue queues (place + 1) ≡ (place + 1) ∷ from_queue queues (place + 1 + 1)
  first = let d : queues + 1 - (place + 1) ≡ suc (queues + 1 - (place + 1 + 1)) = omega arith in rw d

  own : row ≡ get_or lanes (place + 1) no_row
  own = grind (arith, common_steps)

  next : done ++ (replicate its (StepOn (place + 1)) ++ lane_calls moves line_up lanes (from_queue queues (place + 1 + 1))) ≡ all
  next = rw own (rw first at w)

  pub room_for_queue : length done + its ≤ length all
  room_for_queue = room_for done (lane_calls moves line_up lanes (from_queue queues (place + 1 + 1))) all its (StepOn (place + 1)) next

  pub queue_written : (now : List Call) → now ≡ done ++ replicate its (StepOn (place + 1)) → now ++ lane_calls moves line_up lanes (from_queue queues (place + 1 + 1)) ≡ all
  queue_written = written done (lane_calls moves line_up lanes (from_queue queues (place + 1 + 1))) all its (StepOn (place + 1)) next

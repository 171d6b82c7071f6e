-- What a tally tells, from the rows of the lanes and how the moves ended.
use Rattle.std.specs.Prelude.{ℕ, zero, suc, ◌+◌, ◌-◌, Bool, true, cond, ◌&&◌, List, length, get_or, nat_le, nat_lt, slice_index_or}
use Rattle.yard.specs.declared.batch.Move.{Move}
use Rattle.yard.specs.declared.run.LaneRow.{LaneRow}
use Rattle.yard.specs.declared.run.Tally.{Tally}
use Rattle.yard.specs.Runs.{Numbers, End, not_ended, done, failed}
use Rattle.yard.specs.Told.{Told, gives, refuses}
use Rattle.dealing.specs.Active.{no_move}
use Rattle.books.specs.Scripts.{no_row}

abbrev pub sum_to : ℕ → (ℕ → ℕ) → ℕ
sum_to zero f = 0
sum_to (suc n) f = sum_to n f + f n

-- the accepted steps of a move that ended: all that it has, or up to the failing one
abbrev pub accepted_of : ℕ → End → ℕ
accepted_of count not_ended = 0
accepted_of count done = count
accepted_of count (failed step cause) = step

abbrev pub one_done : End → ℕ
one_done not_ended = 0
one_done done = 1
one_done (failed step cause) = 0

abbrev pub one_failed : End → ℕ
one_failed not_ended = 0
one_failed done = 0
one_failed (failed step cause) = 1

-- the accepted steps of the first moves that ended, and how many of them are done and failed
abbrev pub accepted_in : List Move → List End → ℕ → ℕ
accepted_in moves ends n = sum_to n (λ m. accepted_of (get_or moves m no_move).count (slice_index_or ends m not_ended))

abbrev pub done_in : List End → ℕ → ℕ
done_in ends n = sum_to n (λ m. one_done (slice_index_or ends m not_ended))

abbrev pub failed_in : List End → ℕ → ℕ
failed_in ends n = sum_to n (λ m. one_failed (slice_index_or ends m not_ended))

-- the steps taken of the moves that the first lanes have under way
abbrev pub taken_in : List LaneRow → ℕ → ℕ
taken_in lanes n = sum_to n (λ a. (get_or lanes a no_row).taken)

-- how far a run is that accepted so many steps, with so many moves done and failed out of all
abbrev pub tally_of : ℕ → ℕ → ℕ → ℕ → Tally
tally_of moves a d f = record { accepted = a; done = d; failed = f; not_ended = moves - (d + f) }

-- none of the first rows is past its end
abbrev pub rows_within : List LaneRow → ℕ → Bool
rows_within lanes zero = true
rows_within lanes (suc n) = nat_le (get_or lanes n no_row).next (get_or lanes n no_row).end && rows_within lanes n

-- the lists that a tally reads are those of a run with these numbers
abbrev pub tally_fits : Numbers → List Move → List LaneRow → List End → Bool
tally_fits n moves lanes ends =
    nat_le n.moves (length moves) && nat_lt n.queues (length lanes) && nat_le n.moves (length ends) && rows_within lanes (suc n.queues)

-- the accepted steps are those of the moves that ended and those taken of the moves under way
abbrev pub tallied : Numbers → List Move → List LaneRow → List End → Told Tally
tallied n moves lanes ends =
    cond (tally_fits n moves lanes ends)
    (gives (tally_of n.moves (accepted_in moves ends n.moves + taken_in lanes (suc n.queues)) (done_in ends n.moves) (failed_in ends n.moves)))
    (refuses 18)

use Rattle.std.proofs.Common.{◌≡◌, ℕ, ◌+◌, ◌<◌, length, get_or, take, drop}
use Rattle.std.specs.List.{range_with_len}
use Rattle.dealing.specs.Lanes.{lined, dealt_of, row_of, row_from}
use Rattle.dealing.proofs.lining.line_up_moves.Given as goal

abbrev pub invariant-loop-q : goal.invariant-loop-q
invariant-loop-q l =
    (l.at ≡ length (lined l.lane_of (range_with_len 1 l.q)))
    × (take l.at l.line_up ≡ lined l.lane_of (range_with_len 1 l.q))
    × (drop l.at l.line_up ≡ drop l.at l.initial.line_up)
    × ((k : ℕ) → k < l.q → get_or l.row-items k (row_from 0 0) ≡ row_of (dealt_of l.lane_of l.queues) (k + 1))

use Rattle.std.proofs.Common.{◌≡◌, ◌+◌, ◌++◌, length, take, drop}
use Rattle.dealing.specs.Lanes.{places_from}
use Rattle.dealing.proofs.lining.line_up_lane.Given as goal

abbrev pub invariant-loop-k : goal.invariant-loop-k
invariant-loop-k l =
    (take l.at l.line_up ++ places_from l.k l.lane (drop l.k l.lane_of) ≡ take l.start l.initial.line_up ++ places_from 0 l.lane l.lane_of)
    × (l.at + length (places_from l.k l.lane (drop l.k l.lane_of)) ≡ l.start + length (places_from 0 l.lane l.lane_of))
    × (drop l.at l.line_up ≡ drop l.at l.initial.line_up)

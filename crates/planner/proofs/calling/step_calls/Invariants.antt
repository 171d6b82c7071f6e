use Rattle.std.proofs.Common.{◌≡◌, ◌+◌, ◌++◌}
use Rattle.dealing.specs.Openings.{numbers_in}
use Rattle.planner.specs.Calling.{lane_calls, step_calls_of}
use Rattle.planner.proofs.Called.{from_queue}
use Rattle.planner.proofs.calling.step_calls.Given as goal

-- what is written and the calls of the lanes that are left are the whole
abbrev pub invariant-loop-place : goal.invariant-loop-place
invariant-loop-place g l =
    l.calls.items ++ lane_calls l.run.script.batch.moves.now l.run.script.line_up.now l.run.lanes.now (from_queue l.run.script.opening.queues (l.place + 1))
    ≡ step_calls_of (numbers_in l.run.script.opening) l.run.script.batch.moves.now l.run.script.line_up.now l.run.lanes.now

use Rattle.std.proofs.Common.{◌≡◌, ◌++◌, drop, replicate}
use Rattle.yard.specs.declared.run.Call.TheVariants.{Step as StepOn}
use Rattle.planner.specs.Calling.{counts_in}
use Rattle.planner.proofs.calling.call_lane.Given as goal

-- what is written and what the moves that are left have steps for are the whole
abbrev pub invariant-loop-place : goal.invariant-loop-place
invariant-loop-place l =
    l.calls.items ++ replicate (counts_in l.script.batch.moves.now (drop l.place-index l.place-items)) (StepOn l.lane)
    ≡ l.initial.calls.items ++ replicate (counts_in l.script.batch.moves.now l.place-items) (StepOn l.lane)

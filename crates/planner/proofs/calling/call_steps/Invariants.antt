use Rattle.std.proofs.Common.{◌≡◌, ◌++◌, replicate}
use Rattle.yard.specs.declared.run.Call.TheVariants.{Step as StepOn}
use Rattle.planner.proofs.calling.call_steps.Given as goal

abbrev pub invariant-loop : goal.invariant-loop
invariant-loop l = l.calls.items ≡ l.initial.calls.items ++ replicate l.counter (StepOn l.lane)

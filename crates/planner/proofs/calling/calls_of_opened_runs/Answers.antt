use Rattle.planner.proofs.OpenedCalls.{calls_of_opened}
use Rattle.planner.proofs.calling.calls_of_opened_runs.Goals as goal

pub returns : goal.returns
returns g c = calls_of_opened g.K.Kind.rules

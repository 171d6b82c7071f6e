use Rattle.std.proofs.Common.{◌≡◌, drop}
use Rattle.dealing.specs.Active.{active_cells}
use Rattle.dealing.proofs.prepared.ActiveCells.first.Given as goal

abbrev pub invariant-loop-step : goal.invariant-loop-step
invariant-loop-step l = active_cells l.self.active.now (drop l.step-index l.self.steps.now) ≡ active_cells l.self.active.now l.self.steps.now

use Rattle.std.proofs.Common.{◌≡◌, drop}
use Rattle.clusters.specs.Roots.{roots_of}
use Rattle.dealing.specs.Active.{active_cells}
use Rattle.dealing.specs.Stages.{joined_with}
use Rattle.dealing.proofs.rooting.join_with.Given as goal

abbrev pub invariant-loop-step : goal.invariant-loop-step
invariant-loop-step l =
    joined_with l.first (active_cells l.cells.active.now (drop l.step-index l.cells.steps.now)) (roots_of l.parents)
    ≡ joined_with l.first (active_cells l.cells.active.now l.cells.steps.now) (roots_of l.initial.parents)

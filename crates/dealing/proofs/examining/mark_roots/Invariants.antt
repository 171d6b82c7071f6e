use Rattle.std.proofs.Common.{◌≡◌, ℕ, ◌<◌, ◌||◌, eqb, length, get_or, drop}
use Rattle.clusters.specs.Roots.{roots_of}
use Rattle.dealing.specs.Active.{active_cells}
use Rattle.dealing.specs.Stages.{rooted}
use Rattle.dealing.proofs.examining.mark_roots.Given as goal

abbrev pub invariant-loop-step : goal.invariant-loop-step
invariant-loop-step l =
    (l.marked.marks.ghost_name ≡ l.initial.marked.marks.ghost_name)
    × (length l.marked.marks.now ≡ length l.parents)
    × ((k : ℕ) → k < length l.marked.marks.now
    → (rooted (roots_of l.parents) (active_cells l.cells.active.now (drop l.step-index l.cells.steps.now)) k || eqb (get_or l.marked.marks.now k 0) 1)
    ≡ rooted (roots_of l.parents) (active_cells l.cells.active.now l.cells.steps.now) k)

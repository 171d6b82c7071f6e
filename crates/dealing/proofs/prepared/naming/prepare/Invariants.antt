use Rattle.std.proofs.Common.{◌≡◌, ℕ, ◌<◌, false, ◌||◌, length, get_or, drop}
use Rattle.yard.specs.Moves.{written}
use Rattle.dealing.proofs.prepared.naming.prepare.Given as goal

abbrev pub invariant-loop-step : goal.invariant-loop-step
invariant-loop-step g l =
    (k : ℕ) → k < length l.active → (written g.K.Kind.rules (drop l.step-index l.steps) k || get_or l.active k false) ≡ written g.K.Kind.rules l.steps k

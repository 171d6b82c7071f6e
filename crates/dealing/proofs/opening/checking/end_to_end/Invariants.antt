use Rattle.std.proofs.Common.{◌≡◌, ◌*◌, ◌≤◌, drop}
use Rattle.dealing.specs.Opening.{end_to_end}
use Rattle.dealing.proofs.opening.checking.end_to_end.Given as goal

abbrev pub invariant-loop-found : goal.invariant-loop-found
invariant-loop-found l = (end_to_end l.at (drop l.found-index l.moves) l.count ≡ end_to_end 0 l.moves l.count) × (l.at ≤ 8 * l.found-index)

use Rattle.std.proofs.Common.{◌≡◌, ◌*◌, ◌≤◌}
use Rattle.books.specs.Tallies.{taken_in}
use Rattle.running.proofs.tallying.under_way.Given as goal

abbrev pub invariant-loop-row : goal.invariant-loop-row
invariant-loop-row l = (l.taken ≡ taken_in l.lanes l.row-index) × (l.taken ≤ 65535 * l.row-index)

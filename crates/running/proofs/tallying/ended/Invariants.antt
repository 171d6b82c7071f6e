use Rattle.std.proofs.Common.{◌≡◌, ◌+◌, ◌*◌, ◌≤◌, map, length}
use Rattle.yard.specs.Runs.{end_of}
use Rattle.books.specs.Tallies.{accepted_in, done_in, failed_in}
use Rattle.running.proofs.tallying.ended.Given as goal

abbrev pub invariant-loop-found : goal.invariant-loop-found
invariant-loop-found l =
    let so_far = length l.yielded in
    (l.accepted ≡ accepted_in l.moves (map end_of l.outcomes) so_far)
    × (l.done ≡ done_in (map end_of l.outcomes) so_far)
    × (l.failed ≡ failed_in (map end_of l.outcomes) so_far)
    × (l.accepted ≤ 65535 * so_far)
    × (l.done + l.failed ≤ so_far)

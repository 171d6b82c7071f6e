use Rattle.std.proofs.Common.{◌+◌, arith}
use Rattle.std.proofs.lemmas.Bool.Decides.{nat_tests}
use Rattle.std.proofs.lemmas.List.{length-map}
use Rattle.yard.specs.Runs.{end_of}
use Rattle.running.proofs.Counted.{all_within}
use Rattle.running.proofs.tallying.fits.Goals as goal

pub returns-then-count-outcomes : goal.returns-then-count-outcomes
returns-then-count-outcomes c =
    let ends = length-map c.args.outcomes.now end_of in
    let rows = all_within c.args.lanes.now (c.args.opening.queues + 1) in
    grind (arith, nat_tests, ends, rows)

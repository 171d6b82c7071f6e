use Rattle.std.proofs.Common.{length, take, rules, arith}
use Rattle.std.proofs.lemmas.List.{length_push}
use Rattle.std.proofs.lemmas.Slice.Zip.{zip_turn}
use Rattle.running.proofs.Counted.{one_more}
use Rattle.running.proofs.tallying.ended.Goals as goal

pub loop-found-preserved-in-Done : goal.loop-found-preserved-in-Done
loop-found-preserved-in-Done c =
    let n = c.args.count in
    let moves = c.args.moves.now in
    let outcomes = c.args.outcomes.now in
    let t = zip_turn (take n moves) (take n outcomes) c.loop-found.yielded c.into_iter-found-iterator.result c.loop-found.found-iterator c.next.new.self c.next.result
    (search rules) (search rules) c.loop-found.yielded_by (c.in-Some.found, c.in-Some.outcome) c.in-Some.is c.next.ensures.steps in
    let more = rw c.in-Done.is at (one_more moves outcomes n (length c.loop-found.yielded) c.in-Some.found.now c.in-Some.outcome.now c.requires.moves c.requires.outcomes t) in
    let accepted = rw c.in-Done.is at c.accepted_steps.ensures in
    rw (length_push c.loop-found.yielded (c.in-Some.found, c.in-Some.outcome)) (omega arith, omega arith, omega arith, omega arith, omega arith)

pub loop-found-preserved : goal.loop-found-preserved
loop-found-preserved c =
    let n = c.args.count in
    let moves = c.args.moves.now in
    let outcomes = c.args.outcomes.now in
    let t = zip_turn (take n moves) (take n outcomes) c.loop-found.yielded c.into_iter-found-iterator.result c.loop-found.found-iterator c.next.new.self c.next.result
    (search rules) (search rules) c.loop-found.yielded_by (c.in-Some.found, c.in-Some.outcome) c.in-Some.is c.next.ensures.steps in
    let more = rw c.in-Failed.is at (one_more moves outcomes n (length c.loop-found.yielded) c.in-Some.found.now c.in-Some.outcome.now c.requires.moves c.requires.outcomes t) in
    let accepted = rw c.in-Failed.is at c.accepted_steps.ensures in
    rw (length_push c.loop-found.yielded (c.in-Some.found, c.in-Some.outcome)) (omega arith, omega arith, omega arith, omega arith, omega arith)

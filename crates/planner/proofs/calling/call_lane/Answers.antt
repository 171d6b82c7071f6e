use Rattle.std.proofs.Common.{◌+◌, ◌++◌, get_or, drop, replicate, ap, arith}
use Rattle.std.proofs.lemmas.List.{length-append, length-replicate}
use Rattle.yard.specs.declared.run.Call.TheVariants.{Step as StepOn}
use Rattle.dealing.specs.Active.{no_move}
use Rattle.planner.specs.Calling.{counts_in}
use Rattle.planner.proofs.Called.{next_move, room_for, written}
use Rattle.planner.proofs.calling.call_lane.Goals as goal

pub call_steps-requires : goal.call_steps-requires
call_steps-requires c =
    let moves = c.args.script.batch.moves.now in
    let places = c.places-place-items.result.now in
    let call = StepOn c.args.lane in
    let steps = counts_in moves places in
    let whole = c.args.calls.now.items ++ replicate steps call in
    let count = (get_or moves c.from.result no_move).count in
    let left = counts_in moves (drop (c.loop-place.place-index + 1) places) in
    let next = next_move moves places c.loop-place.place-index c.from.result call c.loop-place.calls.items whole (omega arith) c.from.ensures c.loop-place.invariant in
    omega (
      arith,
      room_for c.loop-place.calls.items (replicate left call) whole count call next,
      length-append c.args.calls.now.items (replicate steps call),
      length-replicate steps call,
      ap (counts_in moves) c.places-place-items.ensures,
      c.requires.room,
    )

pub loop-place-preserved : goal.loop-place-preserved
loop-place-preserved c =
    let next = next_move c.args.script.batch.moves.now c.places-place-items.result.now c.loop-place.place-index c.from.result (StepOn c.args.lane)
    c.loop-place.calls.items _ (omega arith) c.from.ensures c.loop-place.invariant in
    written _ _ _ _ (StepOn c.args.lane) next c.call_steps.new.calls.items c.call_steps.ensures

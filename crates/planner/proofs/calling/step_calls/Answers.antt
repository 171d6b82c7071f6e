use Rattle.std.proofs.Common.{◌∙◌, arith}
use Rattle.dealing.specs.Openings.{numbers_in}
use Rattle.planner.specs.Calling.{step_calls_of}
use Rattle.planner.proofs.Called.{room_for_queue, queue_written}
use Rattle.planner.proofs.calling.step_calls.Goals as goal

pub call_lane-requires-clause-room : goal.call_lane-requires-clause-room
call_lane-requires-clause-room g c =
    let s = c.args.run.now.script in
    omega (
      arith,
      room_for_queue s.batch.moves.now s.line_up.now c.args.run.now.lanes.now s.opening.queues c.from-queues.result c.loop-place.place c.loop-place.calls.items
          (step_calls_of (numbers_in s.opening) s.batch.moves.now s.line_up.now c.args.run.now.lanes.now)
          (c.from-queues.ensures ∙ c.queues.ensures) (omega arith) c.loop-place.invariant,
      c.requires.callable.few,
    )

pub loop-place-preserved : goal.loop-place-preserved
loop-place-preserved g c =
    let s = c.args.run.now.script in
    queue_written s.batch.moves.now s.line_up.now c.args.run.now.lanes.now s.opening.queues c.from-queues.result c.loop-place.place c.loop-place.calls.items
    (step_calls_of (numbers_in s.opening) s.batch.moves.now s.line_up.now c.args.run.now.lanes.now)
    (c.from-queues.ensures ∙ c.queues.ensures) (omega arith) c.loop-place.invariant c.call_lane.new.calls.items c.call_lane.ensures

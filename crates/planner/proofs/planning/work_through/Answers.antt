use Rattle.std.proofs.Common.{ap, ◌∙◌, length, arith}
use Rattle.yard.specs.Batches.{listed}
use Rattle.dealing.specs.Openings.{numbers_in}
use Rattle.running.specs.Run.{state_in}
use Rattle.planner.proofs.Finishing.{worked_whole}
use Rattle.planner.proofs.OpenedCalls.{callable}
use Rattle.planner.proofs.planning.work_through.Goals as goal

pub step_calls-requires-clause-callable : goal.step_calls-requires-clause-callable
step_calls-requires-clause-callable g c =
    let run = c.args.run.now in
    callable g.K.Kind.rules (listed run.script.batch) _ (numbers_in run.script.opening) run.script.line_up.now run.lanes.now run.outcomes.now
    2048 c.requires.opened (omega arith)

pub returns-clause-whole : goal.returns-clause-whole
returns-clause-whole g c =
    let run = c.args.run.now in
    let R = g.K.Kind.rules in
    let b = listed run.script.batch in
    let n = numbers_in run.script.opening in
    let calls = c.deref.ensures.0 ∙ c.step_calls.ensures in
    let can = callable R b _ n run.script.line_up.now run.lanes.now run.outcomes.now 2048 c.requires.opened (omega arith) in
    worked_whole R b n run.script.line_up.now run.lanes.now run.outcomes.now (g.B.Board.values run.board.now) run.saved.now
    g.met.K.Kind.looks c.requires.opened (omega (arith, run.script.opening.few_steps, c.requires.saved))
    c.deref.result.now c.args.answers.now (state_in g.B.Board.values c.perform.new.self) c.perform.new.answers c.perform.result
    calls (omega (arith, ap length calls, can.few, c.requires.answers)) c.perform.ensures.performed

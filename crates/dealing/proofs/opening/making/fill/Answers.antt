use Rattle.std.proofs.Common.{◌≡◌, ◌-◌, length, arith}
use Rattle.yard.specs.declared.run.Outcome.TheVariants.{NotEnded}
use Rattle.dealing.proofs.Opened.{front_filled, lists_same}
use Rattle.dealing.proofs.opening.making.fill.Goals as goal

pub returns-clause-filled : goal.returns-clause-filled
returns-clause-filled g c =
    let b = c.args.batch in
    let cells : c.from-cells.result - 0 ≡ b.cells = omega (arith, c.from-cells.ensures) in
    let moves : length b.moves.now - 0 ≡ length b.moves.now = omega arith in
    let same = c.deal-queues.ensures.outcomes in
    lists_same c.deal-queues.ensures.line_up c.deal-queues.ensures.lanes
    (rw same (front_filled (length b.moves.now) (length b.moves.now) NotEnded c.args.run.now.outcomes.now c.fill.new.self moves (omega arith) (rw same at (c.fill.ensures.after (λ y e. e)))))
    (front_filled c.from-cells.result b.cells 0 c.args.work.now.parents.now c.deal-queues.new.parents cells (omega arith) c.deal-queues.ensures.parents)
    (front_filled c.from-cells.result b.cells 0 c.args.work.now.marks.now c.deal-queues.new.marks cells (omega arith) c.deal-queues.ensures.marks)
    (front_filled 4096 4096 0 c.args.work.now.pairs.now c.deal-queues.new.pairs (omega arith) (omega arith) c.deal-queues.ensures.pairs)

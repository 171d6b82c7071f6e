use Rattle.std.proofs.Common.{◌≡◌, ◌-◌, length}
use Rattle.books.specs.Steps.{set_back}
use Rattle.running.proofs.working.set_back.Given as goal

abbrev pub invariant-loop-step : goal.invariant-loop-step
invariant-loop-step g l =
    let R = g.K.Kind.rules in
    let values = g.B.Board.values in
    (set_back R l.steps l.saved l.first (l.count - length l.yielded) (values l.board) ≡ set_back R l.steps l.saved l.first l.count (values l.initial.board))
    × (g.B.Board.around l.board ≡ g.B.Board.around l.initial.board)

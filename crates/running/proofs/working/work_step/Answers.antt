use Rattle.std.proofs.Common.{◌+◌, get_or, sym, ap, ◌∙◌}
use Rattle.yard.specs.Cells.{value_at}
use Rattle.dealing.specs.Active.{no_step}
use Rattle.running.proofs.Stepped.{looked_on, none_kept}
use Rattle.running.proofs.working.work_step.Goals as goal

pub returns-else-writes-clause-stepped : goal.returns-else-writes-clause-stepped
returns-else-writes-clause-stepped g c =
    let R = g.K.Kind.rules in
    let looks = g.met.K.Kind.looks in
    let vs = g.B.Board.values c.args.board.now in
    let s = get_or c.args.steps.now (c.args.first + c.args.taken) no_step in
    let looked = sym c.if-writes.ensures in
    let held = c.in-Ok.ensures ∙ ap (value_at vs) c.from-cell.ensures in
    record {
      values = looked_on R looks vs s looked c.in-Ok.old c.in-Some-Ok.new held c.requires.known (rw c.in-Some-Ok.field-0-is at c.in-Some-Ok.ensures);
      saved = none_kept R looks vs s looked c.args.saved.now (c.args.first + c.args.taken);
    }

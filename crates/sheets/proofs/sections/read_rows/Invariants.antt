use Rattle.std.proofs.Common.{◌≡◌, ◌-◌, Ok}
use Rattle.text.specs.Faults.{and_then}
use Rattle.text.specs.Reading.{here}
use Rattle.sheets.specs.Lines.{read}
use Rattle.sheets.specs.Sections.{repeat, row_into, rows_over, occupied}
use Rattle.sheets.proofs.sections.read_rows.Given as goal

abbrev pub invariant-loop : goal.invariant-loop
invariant-loop g l =
    and_then (repeat (l.head.rows - l.counter) (row_into g.K.Kind.rows l.head.size.cells) (occupied l.low l.values) (here l.reader)) (λ r. Ok (read r.got.values r.then))
    ≡ rows_over g.K.Kind.rows l.head.size.cells l.head.rows l.initial.values (here l.initial.reader)

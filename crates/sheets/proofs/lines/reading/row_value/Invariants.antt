use Rattle.std.proofs.Common.{◌≡◌, ◌-◌}
use Rattle.text.specs.Reading.{here}
use Rattle.sheets.specs.Lines.{row_value}
use Rattle.sheets.proofs.lines.reading.row_value.Given as goal

abbrev pub invariant-loop-place : goal.invariant-loop-place
invariant-loop-place g l =
    row_value g.K.Kind.rows (g.K.Kind.rows.words - l.place) l.place l.value (here l.reader)
    ≡ row_value g.K.Kind.rows (g.K.Kind.rows.words - 1) 1 g.K.Kind.rows.unnamed (here l.initial.reader)

use Rattle.std.proofs.Common.{◌≡◌, ◌-◌, ◌≤◌}
use Rattle.arrayvec.specs.ArrayVec.{array_vec_len}
use Rattle.text.specs.Reading.{here}
use Rattle.sheets.specs.Sections.{repeat, move_into, moves_of}
use Rattle.sheets.specs.Sheet.{batch}
use Rattle.sheets.proofs.sections.read_moves.Given as goal

abbrev pub invariant-loop : goal.invariant-loop
invariant-loop g l = record {
  room : array_vec_len l.found.moves ≤ l.counter;
  fits : l.count ≤ 256;
  same : repeat (l.count - l.counter) (move_into g.K.Kind.rules l.cells) (moves_of l.found.moves.items l.found.steps.items) (here l.reader) ≡ batch g.K.Kind.rules l.cells (here l.fn.reader);
}

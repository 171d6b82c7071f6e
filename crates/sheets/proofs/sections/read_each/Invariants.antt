use Rattle.std.proofs.Common.{◌≡◌, ◌+◌, ◌-◌, ◌≤◌, Result}
use Rattle.text.specs.declared.faults.LineFault.{LineFault}
use Rattle.text.specs.Reading.{Here, here}
use Rattle.sheets.specs.Lines.{Read, ReadsAs}
use Rattle.sheets.specs.Sections.{repeat, listing}
use Rattle.arrayvec.specs.ArrayVec.{array_vec_len}
use Rattle.sheets.proofs.sections.read_each.Given as goal

abbrev pub invariant-loop : goal.invariant-loop
invariant-loop g l = record {
  room : array_vec_len l.list + (l.count - l.counter) ≤ g.row.N;
  same : (line : Here → Result (Read g.row.T.Denot) LineFault) → ReadsAs g.F.Fn l.read line
      → repeat (l.count - l.counter) (listing line) l.list.items (here l.reader) ≡ repeat l.count (listing line) l.initial.list.items (here l.initial.reader);
}

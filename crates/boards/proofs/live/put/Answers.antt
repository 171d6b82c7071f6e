-- A cell past the list is refused, and nothing is set.
use Rattle.std.proofs.Common.{sym}
use Rattle.std.proofs.lemmas.List.{set_past}
use Rattle.boards.proofs.Cells.{there_past}
use Rattle.boards.proofs.live.put.Goals as goal

pub returns-else-cell-cells : goal.returns-else-cell-cells
returns-else-cell-cells g c = record {
  answer = there_past _ _ c.if-cell-cells.false;
  values = sym (set_past _ _ _ c.if-cell-cells.false);
}

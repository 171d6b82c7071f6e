use Rattle.std.proofs.Common.{sym}
use Rattle.std.proofs.lemmas.List.{set_past}
use Rattle.clusters.proofs.marks.Marked.mark.Goals as goal

pub returns-else-cell-self-clause-marks : goal.returns-else-cell-self-clause-marks
returns-else-cell-self-clause-marks c = sym (set_past _ _ _ c.if-cell-self.false)

use Rattle.std.proofs.Common.{refl}
use Rattle.planner.proofs.worked.sheet_as_worked.Goals as goal

pub returns : goal.returns
returns c = record { reads = refl; without_rows = refl }

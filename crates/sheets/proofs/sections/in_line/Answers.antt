use Rattle.std.proofs.Common.{rules}
use Rattle.sheets.proofs.sections.in_line.Goals as goal

pub returns : goal.returns
returns g c = (c.read.result, search rules, search rules)

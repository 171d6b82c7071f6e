use Rattle.std.proofs.Common.{rules}
use Rattle.sheets.specs.Lent.{lent}
use Rattle.planner.proofs.WasRead.{planned_read, planned_slip}
use Rattle.planner.proofs.planning.plan_sheet.Goals as goal

pub returns-in-Ok : goal.returns-in-Ok
returns-in-Ok g c =
    planned_read g.K.Kind.rules g.K.Kind.rows g.K.Kind.equals c.args.sheet.now c.args.listing.now _ c.args.values.now _ _ c.requires (lent c.read.new.lists)
    c.in-Ok.counts c.part.result.now c.part-in-Ok.result.now c.part-in-Ok-2.result.now c.part-values.result.now c.in-Ok.ensures.answer
    (search rules) (search rules) (search rules) (search rules) c.plan_batch.ensures

pub returns-in-Err : goal.returns-in-Err
returns-in-Err g c =
    planned_slip g.K.Kind.rules g.K.Kind.rows g.K.Kind.equals c.args.sheet.now c.args.listing.now _ c.args.values.now _ _ c.requires (lent c.read.new.lists)
    c.in-Err.fault c.from-in-Err.result c.in-Err.ensures.answer c.from-in-Err.ensures c.list_slip.ensures

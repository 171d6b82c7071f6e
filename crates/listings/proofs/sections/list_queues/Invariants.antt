use Rattle.std.proofs.Common.{◌≡◌, map, drop}
use Rattle.std.specs.List.{flat_map}
use Rattle.listings.specs.Lines.{line}
use Rattle.listings.specs.Listings.{queue_line}
use Rattle.listings.specs.Pens.{penned, wrote}
use Rattle.listings.proofs.sections.list_queues.Given as goal

abbrev pub invariant-loop-row : goal.invariant-loop-row
invariant-loop-row l = wrote (flat_map line (map (queue_line l.line_up) (drop l.row-index l.queues))) (penned l.pen) ≡ wrote (flat_map line (map (queue_line l.line_up) l.queues)) (penned l.initial.pen)

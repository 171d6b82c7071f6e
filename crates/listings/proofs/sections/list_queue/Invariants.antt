use Rattle.std.proofs.Common.{◌≡◌, drop}
use Rattle.listings.specs.Lines.{spaced}
use Rattle.listings.specs.Pens.{penned, wrote}
use Rattle.listings.proofs.sections.list_queue.Given as goal

abbrev pub invariant-loop-place : goal.invariant-loop-place
invariant-loop-place l = wrote (spaced (drop l.place-index l.places)) (penned l.pen) ≡ wrote (spaced l.places) (penned l.initial.pen)

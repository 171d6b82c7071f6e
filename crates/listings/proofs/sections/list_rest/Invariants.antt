use Rattle.std.proofs.Common.{◌≡◌, map, drop}
use Rattle.std.specs.List.{flat_map}
use Rattle.listings.specs.Lines.{line}
use Rattle.listings.specs.Listings.{alone}
use Rattle.listings.specs.Pens.{penned, wrote}
use Rattle.listings.proofs.sections.list_rest.Given as goal

abbrev pub invariant-loop-place : goal.invariant-loop-place
invariant-loop-place l = wrote (flat_map line (map alone (drop l.place-index l.places))) (penned l.pen) ≡ wrote (flat_map line (map alone l.places)) (penned l.initial.pen)

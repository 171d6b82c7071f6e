use Rattle.std.proofs.Common.{◌≡◌, ◌-◌}
use Rattle.listings.specs.Lines.{spaced}
use Rattle.listings.specs.Listings.{words_from}
use Rattle.listings.specs.Pens.{penned, wrote}
use Rattle.listings.proofs.changes.list_cell.Given as goal

abbrev pub invariant-loop-place : goal.invariant-loop-place
invariant-loop-place g l =
    let rows = g.K.Kind.rows in
    wrote (spaced (words_from rows l.place (rows.words - l.place) l.value)) (penned l.pen) ≡ wrote (spaced (words_from rows 1 (rows.words - 1) l.value)) (penned l.initial.pen)

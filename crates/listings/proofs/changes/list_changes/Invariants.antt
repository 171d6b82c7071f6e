use Rattle.std.proofs.Common.{◌≡◌, drop}
use Rattle.std.specs.List.{flat_map}
use Rattle.listings.specs.Lines.{line}
use Rattle.listings.specs.Listings.{change_lines}
use Rattle.listings.specs.Pens.{penned, wrote}
use Rattle.listings.proofs.changes.list_changes.Given as goal

abbrev pub invariant-loop-cell : goal.invariant-loop-cell
invariant-loop-cell g l =
    let lines = change_lines g.K.Kind.rows g.K.Kind.equals (g.B.Board.values l.board) in
    wrote (flat_map line (lines l.cell (drop l.cell l.values))) (penned l.pen) ≡ wrote (flat_map line (lines 0 l.values)) (penned l.initial.pen)

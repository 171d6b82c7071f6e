use Rattle.std.proofs.Common.{◌≡◌, replicate, vec_items}
use Rattle.desk.proofs.lists.laying.empty_cells.Given as goal

abbrev pub invariant-loop : goal.invariant-loop
invariant-loop g l = vec_items l.values ≡ replicate l.counter g.K.Kind.rows.unnamed

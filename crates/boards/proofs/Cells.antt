-- What reading and setting a cell of a list answers.
use Rattle.std.proofs.Common.{◌≡◌, ℕ, ◌<◌, ◌≤◌, List, length, get_or}
use Rattle.std.proofs.lemmas.Option.{slice_get-get_or, slice_get_past}
use Rattle.std.proofs.lemmas.Bool.{lt-ltb, le-ltb}
use Rattle.yard.specs.Cells.{value_at, cell_there}
use Rattle.yard.specs.Told.{gives, refuses}

module _ {V : Type 0} (vs : List V) (cell : ℕ) where
  pub value_within : (v : V) → cell < length vs → v ≡ get_or vs cell v → gives v ≡ value_at vs cell
  value_within v h e = rw (slice_get-get_or vs cell v h, ← e)

  pub value_past : length vs ≤ cell → refuses 22 ≡ value_at vs cell
  value_past h = rw (slice_get_past vs cell h)

  pub there_within : cell < length vs → gives tt ≡ cell_there vs cell
  there_within h = rw (lt-ltb cell (length vs) h)

  pub there_past : length vs ≤ cell → refuses 22 ≡ cell_there vs cell
  there_past h = rw (le-ltb cell (length vs) h)
